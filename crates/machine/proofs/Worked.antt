-- The worked examples, each by computing the run.
use Rattle.std.proofs.Common.{refl}
use Rattle.memory.specs.Blocks.{written}
use Rattle.machine.specs.Examples.{Worked, UnderMesi, LostUpgrade, Victim, OwnedUpgrade, Refusals}

under_mesi_holds : UnderMesi
unfolding written
under_mesi_holds = record { says = refl; accepted = refl; written_back = refl; memory = refl }

lost_upgrade_holds : LostUpgrade
lost_upgrade_holds = record { first = refl; transfers = refl; second = refl }

victim : Victim
victim = record { accepted = refl; written_back = refl }

owned_upgrade_holds : OwnedUpgrade
owned_upgrade_holds = record { shows = (refl, refl); transfers = refl; says = refl }

refusals : Refusals
refusals = record { calls = refl; full = refl; questions = (refl, refl, refl, refl, refl, refl, refl, refl) }

pub worked : Worked
worked = record { under_moesif = refl; under_mesi = under_mesi_holds; lost_upgrade = lost_upgrade_holds; victim = victim; plain_upgrade = refl; owned_upgrade = owned_upgrade_holds; refusals = refusals }
