-- A set closes when its count comes to 0.
use Rattle.std.proofs.Common.{◌≡◌, ℕ, ◌+◌, ◌<◌, Bool, true, false, cond, eqb, Some, None, Option, sym, refl, ap, ◌∙◌, subst, ⊎_elim, arith}
use Rattle.std.proofs.lemmas.Bool.{cases_eq, eqb-true, eqb-false}
use Rattle.bedrock.specs.Geometries.{set_of}
use Rattle.machine.specs.declared.transaction.Source.{Source}
use Rattle.machine.specs.declared.transaction.Source.TheVariants.{Memory, OwnCopy, Owner}
use Rattle.machine.specs.declared.transaction.Job.{Job}
use Rattle.machine.specs.declared.transaction.Round.{Round}
use Rattle.machine.specs.declared.transaction.Round.TheVariants.{One, Two}
use Rattle.machine.specs.declared.transaction.Transaction.{Transaction}
use Rattle.machine.specs.Machines.{Machine}
use Rattle.machine.specs.Responses.{close}
use Rattle.machine.proofs.Updates.{update, update_each, update_both}
use Rattle.machine.proofs.Weights.{weigh}
use Rattle.machine.proofs.Ghost.{Stage, Evicting, Clearing, Asked, Sent, Filled, Progress, at_stage, Nothing, Idle, Ghost}
use Rattle.machine.proofs.Mailboxes.{Giver}
use Rattle.machine.proofs.Invariant.{OwnerLaw, GoodSource, GoodJob, Invariant}
use Rattle.machine.proofs.MailFacts.{requestor_at, mailbox_at}
use Rattle.machine.proofs.StepTransfer.{giver_is}
use Rattle.machine.proofs.StepClose.{close_keeps}
use Rattle.machine.proofs.Matches.{Added, ghost_of, command_weight, response_weight, memory_weight, command_one, ack_owed, Left, InRound, SameProgress, Matches}
use Rattle.machine.proofs.Counts.{quiet_from_count}
use Rattle.machine.proofs.Lifted.{Lifted}
use Rattle.machine.proofs.Unguarded.{set_serving, close_is}

-- in round two of a set with nothing on its way, the requestor has been filled
quiet_filled : (g : Ghost) → Invariant g → (s : ℕ) (j : Job) (st : Stage) → g.progress s ≡ Some (at_stage st j)
    → ((c : ℕ) → (g.mailbox s c).mail ≡ Nothing)
    → ((b : ℕ) → set_of g.geometry b ≡ s → (g.at_memory b).pending ≡ Idle) → InRound st Two → st ≡ Filled
quiet_filled g inv s j Evicting h quiet idle two = let e = two.1 in grind arith
quiet_filled g inv s j Clearing h quiet idle two = let e = two.1 in grind arith
quiet_filled g inv s j Filled h quiet idle two = refl
quiet_filled g inv s j Sent h quiet idle two =
    let a = (requestor_at g inv s j Sent h).2.1.out in let b = quiet j.requestor in cc
quiet_filled g inv s j Asked h quiet idle two = go j.source refl
  where
    good : GoodJob g.geometry s (g.entry s) j
    good = rw h at (inv.jobs s)

    go : (z : Source) → j.source ≡ z → Asked ≡ Filled
    go Memory i = let a = (rw (good.here, h) at (inv.pendings j.block)).0 refl in let b = idle j.block good.here in cc
    go OwnCopy i = let a = (requestor_at g inv s j Asked h).2.1 in let b = quiet j.requestor in cc
    go (Owner o p shown keeps writeback) i =
        let law : OwnerLaw j o p shown keeps writeback = subst (GoodSource j (g.entry s)) i good.source in
        let it = mailbox_at (g.progress s) j Asked (Giver p shown keeps writeback) o (g.entry s o) (g.mailbox s o) h
        (giver_is j o p shown keeps writeback i law.other) (inv.mailboxes s o) in
        let a = it.2.1 in let b = quiet o in cc

abbrev pub after_close : Added → ℕ → Added
after_close x s = record {
  mailbox = x.mailbox;
  progress = update x.progress s None;
  request = x.request;
  pending = x.pending;
  latest = x.latest;
}

module _ (m : Machine) (x : Added) (sh : Matches m x) (inv : Invariant (ghost_of m x)) (s : ℕ) (h : Progress) (i : x.progress s ≡ Some h) where
  closed : m.count s ≡ 0 → Matches (set_serving m s None) (after_close x s) × Invariant (ghost_of (set_serving m s None) (after_close x s))
  closed z = (
    record {
      serving = update_both (λ t a b. SameProgress a b) m.serving x.progress s None None tt (λ t _. sh.serving t);
      requests = sh.requests;
      mails = sh.mails;
      pendings = sh.pendings;
      weights = update_each (λ t a. m.count t ≡ weigh (command_weight m.geometry t) m.commands
          + (weigh (response_weight m.geometry t) m.responses + (weigh (memory_weight m.geometry t) m.memory_commands + ack_owed a)))
          m.serving s None (rw q.2 at (sh.weights s)) (λ t _. sh.weights t);
      left = update_each (λ t a. Left a (weigh (command_one m.geometry t) m.commands + weigh (response_weight m.geometry t) m.responses))
          m.serving s None tt (λ t _. sh.left t);
    },
    close_keeps (ghost_of m x) inv s h.job (i ∙ ap (λ (k : Stage). Some (at_stage k h.job)) filled) q.0 q.1,
  )
    where
      q : ((c : ℕ) → (x.mailbox s c).mail ≡ Nothing) × ((b : ℕ) → set_of m.geometry b ≡ s → x.pending b ≡ Idle) × (ack_owed (m.serving s) ≡ 0)
      q = quiet_from_count m x sh s z

      round_two : (t : Option Transaction) → SameProgress t (Some h) → ack_owed t ≡ 0 → InRound h.stage Two
      round_two None a o = absurd a
      round_two (Some t) a o = go t.round a.1 o
        where
          go : (r : Round) → InRound h.stage r → ack_owed (Some (record { job = t.job; round = r })) ≡ 0 → InRound h.stage Two
          go Two f o = f
          go (One n) f o = grind arith

      filled : h.stage ≡ Filled
      filled = quiet_filled (ghost_of m x) inv s h.job h.stage i q.0 q.1 (round_two (m.serving s) (rw i at (sh.serving s)) q.2)

  -- the end of a response or of a memory turn: the set closes if nothing more is owed
  pub close_lifts : s < 16 → ((t : ℕ) → (t ≡ s → ⊥) → m.count t ≡ 0 → m.serving t ≡ None) → Lifted m x (close m s)
  close_lifts low else = subst (Lifted m x) (sym (close_is m s low)) (go (eqb (m.count s) 0) refl)
    where
      go : (t : Bool) → eqb (m.count s) 0 ≡ t → Lifted m x (cond t (set_serving m s None) m)
      go true e = let q = closed (eqb-true (m.count s) 0 e) in record {
        added = after_close x s;
        matches = q.0;
        invariant = q.1;
        owed = update_each (λ a z. m.count a ≡ 0 → z ≡ None) m.serving s None (λ _. refl) else;
        latest = refl;
        kept = refl;
        geometry = refl;
        rows = refl;
        turn = refl;
      }
      go false e = record {
        added = x;
        matches = sh;
        invariant = inv;
        owed = λ a z. ⊎_elim (λ p. absurd (eqb-false (m.count s) 0 e (rw p at z))) (λ n. else a n z) (cases_eq a s);
        latest = refl;
        kept = refl;
        geometry = refl;
        rows = refl;
        turn = refl;
      }
