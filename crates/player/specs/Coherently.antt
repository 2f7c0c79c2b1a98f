-- Every sheet is played coherently.
use Rattle.std.specs.Prelude.{◌≡◌, ℕ, List, Ok, Err, Result}
use Rattle.machine.specs.Coherence.{Coherent}
use Rattle.machine.specs.Runs.{says_in}
use Rattle.sheet.specs.declared.head.HeadCodes.{HeadCodes}
use Rattle.sheet.specs.Heads.{head_of}
use Rattle.sheet.specs.Records.{Item}
use Rattle.sheet.specs.Readings.{Reading}
use Rattle.player.specs.Calls.{items_in}
use Rattle.player.specs.Plays.{content_of, run_of, answers_of, reading_of}

-- coherence holds of the run of a sheet's calls, and the answers that are printed are those of its events
pub record CoherentRun (h : HeadCodes) (xs : List Item) : Type 0 where
  pub coherent : Coherent (content_of h xs) (run_of h xs).machine (run_of h xs).events
  pub same : says_in (run_of h xs).events ≡ answers_of h xs

abbrev pub CoherentAfter : Reading → Result HeadCodes ℕ → Type 0
CoherentAfter r (Ok h) = CoherentRun h (items_in r)
CoherentAfter r (Err e) = Unit {0}

abbrev pub PlayedCoherently : List ℕ → Type 0
PlayedCoherently bs = CoherentAfter (reading_of bs) (head_of bs)

-- whatever its bytes are
abbrev pub AllCoherent : Type 0
AllCoherent = (bs : List ℕ) → PlayedCoherently bs
