-- What accepting a request decides depends on the geometry, the entries and the protocol only; its first round not even on that one.
use Rattle.std.proofs.Common.{◌≡◌, refl}
use Rattle.messages.specs.declared.request.Request.{Request}
use Rattle.machine.specs.Machines.{Machine}
use Rattle.machine.specs.Acceptance.{job_for, first_round}
use Rattle.directory.specs.Alone.{only_directory, only_entries}

pub job_alone : (m : Machine) (q : Request) → job_for m q ≡ job_for (only_directory m) q
job_alone m q = refl

pub round_alone : (m : Machine) (q : Request) → first_round m q ≡ first_round (only_entries m) q
round_alone m q = refl
