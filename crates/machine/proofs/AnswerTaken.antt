-- What an answer, once it is taken, leads to: its round goes on, round two begins, or the set closes.
use Rattle.std.proofs.Common.{◌≡◌, ℕ, zero, suc, ◌+◌, ◌<◌, ◌≤◌, true, eqb, Some, None, Option, sym, refl, ap, ◌∙◌, subst, arith}
use Rattle.std.proofs.lemmas.Bool.{and_parts}
use Rattle.bedrock.specs.Geometries.{Sizes, set_of}
use Rattle.messages.specs.declared.command.Command.{Command}
use Rattle.messages.specs.Messages.{command_cache, command_block}
use Rattle.machine.specs.declared.transaction.Job.{Job}
use Rattle.machine.specs.declared.transaction.Round.{Round}
use Rattle.machine.specs.declared.transaction.Round.TheVariants.{One, Two}
use Rattle.machine.specs.declared.transaction.Transaction.{Transaction}
use Rattle.machine.specs.Machines.{Machine, home}
use Rattle.machine.specs.Responses.{close, advance}
use Rattle.machine.proofs.Updates.{update_each, update_here, update_there}
use Rattle.machine.proofs.Weights.{weigh, weigh_none}
use Rattle.machine.proofs.Ghost.{Stage, Evicting, Clearing, Asked, Sent, Filled, Progress, at_stage, Nothing, Ghost}
use Rattle.machine.proofs.Invariant.{GoodJob, Invariant}
use Rattle.machine.proofs.MailFacts.{requestor_at}
use Rattle.machine.proofs.Matches.{Added, ghost_of, to_mailbox, from_mailbox, command_weight, response_weight, memory_weight, command_one, ack_owed, Left, InRound, SameProgress, Matches}
use Rattle.machine.proofs.Counts.{response_heavy, no_slot}
use Rattle.machine.proofs.Lifted.{Lifted, lifted_after}
use Rattle.machine.proofs.Unguarded.{set_serving, serving_is, ask, begin, begin_is}
use Rattle.machine.proofs.LiftClose.{close_lifts}
use Rattle.machine.proofs.AlmostMatches.{AlmostMatches, all_match}
use Rattle.machine.proofs.LiftRoundTwo.{after_round_one, begin_lifts, AskFrame, ask_frame}

-- round one with another number of answers to come
in_round_one : (st : Stage) (a b : ℕ) → InRound st (One a) → InRound st (One b)
in_round_one Evicting a b f = (b, refl)
in_round_one Clearing a b f = (b, refl)
in_round_one Asked a b f = grind arith
in_round_one Sent a b f = grind arith
in_round_one Filled a b f = grind arith

one_heavy : (n : Sizes) (s c : ℕ) (k : Command) → to_mailbox n s c k ≡ true → 0 < command_one n s k
one_heavy n s c k e = let p = and_parts (eqb (set_of n (command_block k)) s) (eqb (command_cache k) c) e in rw p.0 (omega arith)

-- with no mail in its set, round one is past the eviction
quiet_clearing : (g : Ghost) → Invariant g → (s : ℕ) (j : Job) (st : Stage) (k : ℕ) → g.progress s ≡ Some (at_stage st j)
    → ((c : ℕ) → (g.mailbox s c).mail ≡ Nothing) → InRound st (One k) → st ≡ Clearing
quiet_clearing g inv s j Evicting k h quiet f = let o = (requestor_at g inv s j Evicting h).2.out in let q = quiet j.requestor in cc
quiet_clearing g inv s j Clearing k h quiet f = refl
quiet_clearing g inv s j Asked k h quiet f = grind arith
quiet_clearing g inv s j Sent k h quiet f = grind arith
quiet_clearing g inv s j Filled k h quiet f = grind arith

-- The answer has been taken from machine n, and what is left of the set's round still counts it.
module _ (n : Machine) (y : Added) (s : ℕ) (h : Progress) (sh : AlmostMatches n y s) (inv : Invariant (ghost_of n y))
    (open_here : y.progress s ≡ Some h)
    (left : Left (n.serving s) (suc (weigh (command_one n.geometry s) n.commands + weigh (response_weight n.geometry s) n.responses)))
    (owed : (t : ℕ) → (t ≡ s → ⊥) → n.count t ≡ 0 → n.serving t ≡ None) (low : s < 16) (small : n.count s ≤ 1000) where
  abbrev g : Sizes
  g = n.geometry

  abbrev out : ℕ
  out = weigh (command_one g s) n.commands + weigh (response_weight g s) n.responses

  -- the last answer of round one
  begins : (j : Job) → n.serving s ≡ Some (record { job = j; round = One 1 }) → Lifted n y (close (begin n j) s)
  begins j e = lifted_after n y (begin n j) (after_round_one y (home n j.block) j) (close (begin n j) s) refl (record {
    kept = f.frame.kept;
    geometry = f.frame.geometry;
    rows = f.frame.rows;
    turn = f.frame.turn;
  })
      (close_lifts (begin n j) (after_round_one y (home n j.block) j) b.0 b.1 s (at_stage Asked j)
      (rw here (update_here y.progress s (Some (at_stage Asked j)))) low
      (λ t ne o. update_there (ask n j j.source).serving (home n j.block) (Some (record { job = j; round = Two })) t (λ q. ne (q ∙ here))
      ∙ ap (λ h. h t) f.serving ∙ owed t ne (sym (f.counts t (λ q. ne (q ∙ here))) ∙ o)))
    where
      l : (1 ≡ suc out) × (0 < 1)
      l = rw e at left

      no_commands_hold : weigh (command_one g s) n.commands ≡ 0
      no_commands_hold = let q = l.0 in omega arith

      no_responses_hold : weigh (response_weight g s) n.responses ≡ 0
      no_responses_hold = let q = l.0 in omega arith

      quiet : (c : ℕ) → (y.mailbox s c).mail ≡ Nothing
      quiet c = no_slot (y.mailbox s c).mail
          (rw (
            weigh_none (command_one g s) (to_mailbox g s c) (one_heavy g s c) n.commands no_commands_hold,
            weigh_none (response_weight g s) (from_mailbox g s c) (response_heavy g s c) n.responses no_responses_hold,
          )
          at (sh.mails s c))

      st : (j ≡ h.job) × InRound h.stage (One 1)
      st = rw (e, open_here) at (sh.serving s)

      clear : h.stage ≡ Clearing
      clear = quiet_clearing (ghost_of n y) inv s h.job h.stage 1 open_here quiet st.1

      clearing : y.progress s ≡ Some (at_stage Clearing j)
      clearing = open_here ∙ (λ i. Some (record { job = sym st.0 i; stage = clear i }))

      here : set_of g j.block ≡ s
      here = let ok : GoodJob g s (n.entry s) j = rw clearing at (inv.jobs s) in ok.here

      f : AskFrame n j (ask n j j.source)
      f = ask_frame n j j.source

      b : Matches (begin n j) (after_round_one y (home n j.block) j) × Invariant (ghost_of (begin n j) (after_round_one y (home n j.block) j))
      b = begin_lifts n y j (subst (AlmostMatches n y) (sym here) sh) inv (rw here clearing) (rw (here, e) refl) (λ c. rw here (quiet c))

  -- the job of the transaction is about this set
  here_is : (j : Job) (r : Round) → n.serving s ≡ Some (record { job = j; round = r }) → home n j.block ≡ s
  here_is j r e = go (rw (e, open_here) at (sh.serving s)) (rw open_here at (inv.jobs s))
    where
      go : (j ≡ h.job) × InRound h.stage r → GoodJob g s (n.entry s) h.job → set_of g j.block ≡ s
      go st ok = ap (λ (k : Job). set_of g k.block) st.0 ∙ ok.here

  goes_on : (j : Job) (r : Round) → n.serving s ≡ Some (record { job = j; round = r })
      → Lifted n y (close (advance n s (Some (record { job = j; round = r }))) s)
  goes_on j Two e = close_lifts n y (all_match n y s sh (rw e tt)) inv s h open_here low owed
  goes_on j (One zero) e = absurd (none (rw e at left))
    where
      none : (0 ≡ suc out) × (0 < 0) → ⊥
      none q = omega arith
  goes_on j (One (suc zero)) e = subst (λ k. Lifted n y (close k s))
      (sym (begin_is n j (subst (λ t. t < 16) (sym here) low) (subst (λ t. n.count t ≤ 1000) (sym here) small))) (begins j e)
    where
      here : home n j.block ≡ s
      here = here_is j (One 1) e
  goes_on j (One (suc (suc l))) e = subst (λ k. Lifted n y (close k s)) (sym (serving_is n s (Some now) low))
      (lifted_after n y (set_serving n s (Some now)) y (close (set_serving n s (Some now)) s) refl
      (record { kept = refl; geometry = refl; rows = refl; turn = refl })
      (close_lifts (set_serving n s (Some now)) y (record {
        serving = update_each (λ t a. SameProgress a (y.progress t)) n.serving s (Some now)
            (rw open_here (st.0, in_round_one h.stage (suc (suc l)) (suc l) st.1)) (λ t _. sh.serving t);
        requests = sh.requests;
        mails = sh.mails;
        pendings = sh.pendings;
        weights = update_each (λ t a. n.count t ≡ weigh (command_weight g t) n.commands
            + (weigh (response_weight g t) n.responses + (weigh (memory_weight g t) n.memory_commands + ack_owed a)))
            n.serving s (Some now) (rw e at (sh.weights s)) (λ t _. sh.weights t);
        left = update_each (λ t a. Left a (weigh (command_one g t) n.commands + weigh (response_weight g t) n.responses))
            n.serving s (Some now) (let q = k.0 in (omega arith, omega arith)) (λ t q. sh.left t q);
      })
      inv s h open_here low (λ t ne o. update_there n.serving s (Some now) t ne ∙ owed t ne o)))
    where
      now : Transaction
      now = record { job = j; round = One (suc l) }

      k : (suc (suc l) ≡ suc out) × (0 < suc (suc l))
      k = rw e at left

      st : (j ≡ h.job) × InRound h.stage (One (suc (suc l)))
      st = rw (e, open_here) at (sh.serving s)

  pub advance_lifts : (a : Option Transaction) → n.serving s ≡ a → Lifted n y (close (advance n s a) s)
  advance_lifts None e = absurd (rw (e, open_here) at (sh.serving s))
  advance_lifts (Some t) e = goes_on t.job t.round e
