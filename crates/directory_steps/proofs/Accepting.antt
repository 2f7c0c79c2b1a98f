-- A request that is accepted with commands to send: they have room, and go out.
use Rattle.std.proofs.Common.{◌≡◌, ℕ, ◌+◌, ◌<◌, ◌≤◌, List, [], ◌∷◌, ◌++◌, length, arith, refl}
use Rattle.std.proofs.lemmas.Bool.{le-ltb}
use Rattle.messages.specs.declared.request.Request.{Request}
use Rattle.messages.specs.declared.command.Command.{Command}
use Rattle.machine.specs.declared.transaction.Job.{Job}
use Rattle.wires.specs.Waiting.{without}
use Rattle.machine.specs.Machines.{Machine, with_requests, with_commands}
use Rattle.machine.specs.Outcomes.{move_on}
use Rattle.machine.specs.Acceptance.{accept, record_job}

pub accepted_sending : (m : Machine) (i : ℕ) (q : Request) (j : Job) (xs : List Command) → 0 < length xs → length m.commands + length xs ≤ 128
    → accept m i q j xs
    ≡ move_on (with_commands (record_job (with_requests m (without m.requests i)) j (length xs)) (m.commands ++ xs))
accepted_sending m i q j [] some room = absurd (omega arith)
accepted_sending m i q j (x ∷ xs) some room = rw (le-ltb 128 (length m.commands + length (x ∷ xs)) room) refl
