-- Coherence of every run: each call keeps what is reached, and what is reached gives the promises.
use Rattle.std.proofs.Common.{◌≡◌, ℕ, List, [], ◌∷◌, Some, None, Option, refl, ◌∙◌, arith}
use Rattle.bedrock.specs.declared.words.Words.{Words}
use Rattle.messages.specs.declared.request.Request.{Request}
use Rattle.machine.specs.declared.transaction.Round.{Round}
use Rattle.machine.specs.declared.transaction.Round.TheVariants.{One, Two}
use Rattle.machine.specs.declared.transaction.Transaction.{Transaction}
use Rattle.machine.specs.Machines.{Machine, new}
use Rattle.machine.specs.Runs.{Call, Event, step, run_on, run}
use Rattle.machine.specs.Coherence.{NoStaleLoad, Quiet, Settled, Coherence}
use Rattle.machine.proofs.Ranges.{bounds_of}
use Rattle.machine.proofs.Ghost.{Progress}
use Rattle.machine.proofs.Promises.{sole_holder_holds, settled_agrees, settled_idle}
use Rattle.machine.proofs.Matches.{Added, ghost_of, request_slot, ack_owed, Left, LeftIn, SameProgress, Matches}
use Rattle.machine.proofs.Reached.{Reached, added_at_start, reached_start}
use Rattle.machine.proofs.CallKeeps.{call_keeps}

-- what a run from m reaches
run_reaches : (content : ℕ → Words) (calls : List Call) (m : Machine) (past : List Event) (x : Added) → Reached content m past x
    → NoStaleLoad content past
    → (y : Added) × Reached content (run_on m past calls).machine (run_on m past calls).events y × NoStaleLoad content (run_on m past calls).events
run_reaches content [] m past x r fresh = (x, r, fresh)
run_reaches content (a ∷ calls) m past x r fresh = let q = call_keeps content m past x r a in
    run_reaches content calls (step m a).after (record { call = a; says = (step m a).says } ∷ past) q.0 q.1 (q.2, fresh)

-- ---- with nothing on its way

asks_nothing : (q : Option Request) → [] ≡ request_slot q → q ≡ None
asks_nothing None e = refl
asks_nothing (Some q) e = cc

-- nothing is owed
quiet_count : (m : Machine) (x : Added) → Matches m x → Quiet m → (s : ℕ) → m.count s ≡ 0
quiet_count m x sh q s = go (m.serving s) refl (rw (q.no_commands, q.no_responses) at (sh.left s))
  where
    sum : m.count s ≡ ack_owed (m.serving s)
    sum = let e = rw (q.no_commands, q.no_responses, q.no_memory_commands) at (sh.weights s) in omega arith

    go : (t : Option Transaction) → m.serving s ≡ t → Left t 0 → m.count s ≡ 0
    go None i l = sum ∙ rw i refl
    go (Some t) i l = at t.round refl l
      where
        at : (r : Round) → t.round ≡ r → LeftIn r 0 → m.count s ≡ 0
        at Two j l = sum ∙ rw (i, j) refl
        at (One k) j l = omega arith

-- no set has a transaction
no_progress : (t : Option Transaction) (h : Option Progress) → SameProgress t h → t ≡ None → h ≡ None
no_progress None None a e = refl
no_progress None (Some h) a e = absurd a
no_progress (Some t) h a e = cc

quiet_settled : (content : ℕ → Words) (m : Machine) (past : List Event) (x : Added) → Reached content m past x → Quiet m → Settled m
quiet_settled content m past x r q = record {
  none_waits = settled_idle (ghost_of m x) r.inv idle (λ c. asks_nothing (x.request c) (rw q.no_requests at (r.matches.requests c)));
  none_owed = quiet_count m x r.matches q;
  agrees = settled_agrees (ghost_of m x) r.inv idle;
}
  where
    idle : (s : ℕ) → x.progress s ≡ None
    idle s = no_progress (m.serving s) (x.progress s) (r.matches.serving s) (r.owed s (quiet_count m x r.matches q s))

-- ---- the theorem

pub coherence : Coherence
coherence g rows content bounded lawful calls =
    let m : Machine = new g rows content in
    let q = run_reaches content calls m [] (added_at_start content) (reached_start g rows content (bounds_of g bounded) lawful) tt in
    let settles = quiet_settled content (run m calls).machine (run m calls).events q.0 q.1 in
    record {
      no_stale_load = q.2;
      sole_holder = sole_holder_holds (ghost_of (run m calls).machine q.0) q.1.inv;
      settled = settles;
      all_finished = λ z c. (q.1.orders c).0 ∙ (settles z).none_waits c;
    }
