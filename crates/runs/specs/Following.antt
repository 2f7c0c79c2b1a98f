-- Runs of a fabric, told by what it shows to the machine, over any protocol, channels and memory.
use Rattle.std.specs.Prelude.{◌≡◌, List, [], ◌∷◌, map, reverse, Result}
use Rattle.bedrock.specs.declared.refusal.Refusal.{Refusal}
use Rattle.machine.specs.declared.answer.Answer.{Answer}
use Rattle.machine.specs.declared.fabric_call.FabricCall.{FabricCall}
use Rattle.machine.specs.Machines.{Machine}
use Rattle.machine.specs.Outcomes.{Said, said, Outcome}
use Rattle.machine.specs.Runs.{Call, step, Event, says_in}
use Rattle.machine.specs.Coherence.{Coherent}

-- Calls were made on a fabric that showed `start`, and left f; calls and events are latest first. Each event is the machine's step on what
-- the fabric before it showed, at the message that its channel let arrive.
abbrev pub Follows : {F : Type 0} → (F → Machine) → (F → FabricCall → Call) → Machine → List FabricCall → List Event → F → Type 0
Follows shows arrives start [] [] f = shows f ≡ start
Follows shows arrives start [] (e ∷ events) f = ⊥
Follows shows arrives start (x ∷ calls) [] f = ⊥
Follows {F = F} shows arrives start (x ∷ calls) (e ∷ events) f =
    (before : F) × Follows shows arrives start calls events before × (e.call ≡ arrives before x)
    × (◌≡◌ {A = Outcome} (record { says = e.says; after = shows f }) (step (shows before) e.call))

-- what the code's answers say
abbrev pub all_said : List (Result Answer Refusal) → List Said
all_said rs = map said rs

-- A run of calls, in their order, with its promise: the answers are those of the machine's steps, one after the other, and coherence
-- holds of its events and of the fabric after it.
pub record Ran {F : Type 0} (shows : F → Machine) (arrives : F → FabricCall → Call) (start : Machine) (calls : List FabricCall) (answers : List Said) (f : F) : Type 0 where
  pub events : List Event  -- latest first
  pub follows : Follows shows arrives start (reverse calls) events f
  pub answered : says_in events ≡ answers
  pub coherent : Coherent start.memory (shows f) events
