-- A set that closes keeps the invariant: its transaction ends when nothing is on its way any more.
use Rattle.std.proofs.Common.{◌≡◌, ℕ, Some, None, sym, refl, inl, inr, arith}
use Rattle.bedrock.specs.Geometries.{set_of}
use Rattle.machine.specs.declared.transaction.Job.{Job}
use Rattle.machine.proofs.Updates.{update_each}
use Rattle.machine.proofs.Ghost.{Filled, at_stage, Nothing, Idle, Ghost, set_progress}
use Rattle.machine.proofs.Mailboxes.{role, GoodMailbox}
use Rattle.machine.proofs.Invariant.{GoodProgress, GoodWait, GoodPending, Newest, Invariant}
use Rattle.machine.proofs.MailFacts.{filled_at}

pub close_keeps : (g : Ghost) → Invariant g → (s : ℕ) (j : Job) → g.progress s ≡ Some (at_stage Filled j) → ((c : ℕ) → (g.mailbox s c).mail ≡ Nothing)
    → ((b : ℕ) → set_of g.geometry b ≡ s → (g.at_memory b).pending ≡ Idle) → Invariant (set_progress g s None)
close_keeps g inv s j h quiet idle = record {
  mailboxes = update_each (λ t z. (c : ℕ) → GoodMailbox z c (g.entry t c) (g.mailbox t c)) g.progress s None
      (λ c. (filled_at j (role j c) c (g.entry s c) (g.mailbox s c) (rw h at (inv.mailboxes s c)), quiet c)) (λ t _. inv.mailboxes t);
  jobs = update_each (λ t z. GoodProgress g.geometry t (g.entry t) z) g.progress s None tt (λ t _. inv.jobs t);
  entries_apart = inv.entries_apart;
  entries_home = inv.entries_home;
  blanks = inv.blanks;
  asks = inv.asks;
  ranges = inv.ranges;
  copies_apart = inv.copies_apart;
  copies_home = inv.copies_home;
  places = inv.places;
  agrees = inv.agrees;
  copies = inv.copies;
  mails = inv.mails;
  waits = update_each (λ t z. (c : ℕ) → GoodWait g.geometry t z c (g.waiter c)) g.progress s None (λ c. rw h at (inv.waits s c))
      (λ t _. inv.waits t);
  pendings = λ b. update_each (λ t z. set_of g.geometry b ≡ t → GoodPending z b (g.at_memory b).pending) g.progress s None (λ e. idle b e)
      (λ t _ e. rw (sym e) (inv.pendings b)) (set_of g.geometry b) refl;
  pending_ranges = inv.pending_ranges;
  newest = λ b. update_each (λ t z. set_of g.geometry b ≡ t → Newest (g.way t) z b (g.at_memory b)) g.progress s None
      (λ e. elim (rw e at (inv.newest b)) [ inl q ↦ inl q | inr q ↦ inr (elim q [ inl u ↦ inl u | inr u ↦ grind arith ]) ])
      (λ t _ e. rw (sym e) (inv.newest b)) (set_of g.geometry b) refl;
}
