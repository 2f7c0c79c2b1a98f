-- Where the channels pick by what waits, a run is the machine's run of calls with picks.
use Rattle.std.proofs.Common.{◌≡◌, List, [], ◌∷◌, ◌++◌, reverse, sym, refl, ap, ◌∙◌, append_assoc}
use mathlib.Core.List.{reverse-cons, reverse-reverse}
use Rattle.std.proofs.lemmas.List.{append-nil}
use Rattle.machine.specs.declared.fabric_call.FabricCall.{FabricCall}
use Rattle.machine.specs.Machines.{Machine}
use Rattle.machine.specs.Outcomes.{Outcome}
use Rattle.machine.specs.Runs.{Call, step, Event, Past, says_in}
use Rattle.machine.specs.Picking.{Picks, arriving, play_on, play, heard}
use Rattle.runs.specs.Following.{Follows}

-- the answers of a run with picks are those of its events
pub same_says : (k : Picks) (xs : List FabricCall) (m : Machine) (past : List Event) → says_in (play_on k m past xs).events ≡ says_in past ++ heard k m xs
same_says k [] m past = sym (append-nil (says_in past))
same_says k (x ∷ xs) m past =
    let o = step m (arriving k m x) in
    same_says k xs o.after (record { call = arriving k m x; says = o.says } ∷ past)
    ∙ append_assoc (says_in past) (o.says ∷ []) (heard k o.after xs)

-- one call more
abbrev further : Picks → Past → FabricCall → Past
further k p x =
    let a : Call = arriving k p.machine x in
    let o : Outcome = step p.machine a in
    record { machine = o.after; events = record { call = a; says = o.says } ∷ p.events }

play_more : (k : Picks) (xs : List FabricCall) (x : FabricCall) (m : Machine) (past : List Event) → play_on k m past (xs ++ x ∷ []) ≡ further k (play_on k m past xs) x
play_more k [] x m past = refl
play_more k (y ∷ xs) x m past =
    let o = step m (arriving k m y) in
    play_more k xs x o.after (record { call = arriving k m y; says = o.says } ∷ past)

module _ {F : Type 0} (shows : F → Machine) (arrives : F → FabricCall → Call) (k : Picks) (same : (f : F) (x : FabricCall) → arrives f x ≡ arriving k (shows f) x) (start : Machine) where
  followed : (calls : List FabricCall) (events : List Event) (f : F) → Follows shows arrives start calls events f
      → play k start (reverse calls) ≡ record { machine = shows f; events = events }
  followed [] [] f e = ap (λ (m : Machine). record { machine = m; events = [] }) (sym e)
  followed [] (e ∷ events) f h = absurd h
  followed (x ∷ calls) [] f h = absurd h
  followed (x ∷ calls) (e ∷ events) f h =
      let at : arriving k (shows h.0) x ≡ e.call = sym (h.2 ∙ same h.0 x) in
      ap (play k start) (reverse-cons x calls)
      ∙ play_more k (reverse calls) x start []
      ∙ ap (λ (p : Past). further k p x) (followed calls events h.0 h.1)
      ∙ ap (λ (a : Call). record { machine = (step (shows h.0) a).after; events = record { call = a; says = (step (shows h.0) a).says } ∷ events }) at
      ∙ ap (λ (o : Outcome). record { machine = o.after; events = record { call = e.call; says = o.says } ∷ events }) (sym h.3)

  -- so what was answered is what the machine answers
  pub follows_heard : (calls : List FabricCall) (events : List Event) (f : F) → Follows shows arrives start (reverse calls) events f → says_in events ≡ heard k start calls
  follows_heard calls events f h =
      sym (ap (λ (p : Past). says_in p.events) (sym (ap (play k start) (reverse-reverse calls)) ∙ followed (reverse calls) events f h))
      ∙ same_says k calls start []
