-- A fabric that follows calls shows what the machine's run of the arrivals leaves.
use Rattle.std.proofs.Common.{◌≡◌, ℕ, ◌+◌, ◌<◌, true, List, [], ◌∷◌, ◌++◌, reverse, length, get_or, take, sym, refl, ap, ◌∙◌, subst}
use mathlib.Core.List.{reverse-append}
use Rattle.std.proofs.lemmas.List.{take_more}
use Rattle.bedrock.specs.Geometries.{Sizes, bounded}
use Rattle.bedrock.specs.declared.words.Words.{Words}
use Rattle.protocols.specs.declared.state.State.{State}
use Rattle.protocols.specs.declared.row.Row.{Row}
use Rattle.machine.specs.declared.fabric_call.FabricCall.{FabricCall}
use Rattle.machine.specs.Machines.{Machine, new}
use Rattle.machine.specs.Outcomes.{Said, Outcome}
use Rattle.machine.specs.Runs.{Call, step, Event, Past, run_on, run}
use Rattle.machine.specs.Coherence.{Coherent, Coherence, Lawful}
use Rattle.runs.specs.Following.{Follows}

-- one call more
abbrev further : Past → Call → Past
further p x = let o : Outcome = step p.machine x in record { machine = o.after; events = record { call = x; says = o.says } ∷ p.events }

run_more : (xs : List Call) (x : Call) (m : Machine) (past : List Event) → run_on m past (xs ++ x ∷ []) ≡ further (run_on m past xs) x
run_more [] x m past = refl
run_more (y ∷ xs) x m past = run_more xs x (step m y).after (record { call = y; says = (step m y).says } ∷ past)

-- the arrivals of events, in their order
abbrev arrivals : List Event → List Call
arrivals [] = []
arrivals (e ∷ past) = arrivals past ++ (e.call ∷ [])

module _ {F : Type 0} (shows : F → Machine) (arrives : F → FabricCall → Call) (start : Machine) where
  same_run : (calls : List FabricCall) (events : List Event) (f : F) → Follows shows arrives start calls events f
      → run start (arrivals events) ≡ record { machine = shows f; events = events }
  same_run [] [] f e = ap (λ (m : Machine). record { machine = m; events = [] }) (sym e)
  same_run [] (e ∷ events) f h = absurd h
  same_run (x ∷ calls) [] f h = absurd h
  same_run (x ∷ calls) (e ∷ events) f h =
      run_more (arrivals events) e.call start []
      ∙ ap (λ (p : Past). further p e.call) (same_run calls events h.0 h.1)
      ∙ ap (λ (o : Outcome). record { machine = o.after; events = record { call = e.call; says = o.says } ∷ events }) (sym h.3)

-- one call more of a list is followed
pub follows_next : {F : Type 0} (shows : F → Machine) (arrives : F → FabricCall → Call) (start : Machine) (calls : List FabricCall) (i : ℕ) (d : FabricCall) (events : List Event) (f g : F) (a : Said) → i < length calls
    → Follows shows arrives start (reverse (take i calls)) events f → ◌≡◌ {A = Outcome} (record { says = a; after = shows g }) (step (shows f) (arrives f (get_or calls i d)))
    → Follows shows arrives start (reverse (take (i + 1) calls)) (record { call = arrives f (get_or calls i d); says = a } ∷ events) g
follows_next shows arrives start calls i d events f g a h before e =
    let x : FabricCall = get_or calls i d in
    let next : x ∷ reverse (take i calls) ≡ reverse (take (i + 1) calls) = sym (ap reverse (take_more calls i d h) ∙ reverse-append (take i calls) (x ∷ [])) in
    subst (λ (l : List FabricCall). Follows shows arrives start l (record { call = arrives f x; says = a } ∷ events) g) next (f, before, refl, e)

-- so coherence holds of it
pub follows_coherent : {F : Type 0} (shows : F → Machine) (arrives : F → FabricCall → Call) (g : Sizes) (rows : State → Row) (content : ℕ → Words) → Coherence → bounded g ≡ true → Lawful rows
    → (calls : List FabricCall) (events : List Event) (f : F) → Follows shows arrives (new g rows content) calls events f → Coherent content (shows f) events
follows_coherent shows arrives g rows content theorem b l calls events f h =
    subst (λ (p : Past). Coherent content p.machine p.events) (same_run shows arrives (new g rows content) calls events f h)
    (theorem g rows content b l (arrivals events))
