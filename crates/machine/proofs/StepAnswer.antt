-- A response that is taken keeps the invariant: the mail of its cache is empty again.
use Rattle.std.proofs.Common.{◌≡◌, ℕ, Some, None, Option, refl, inl, inr, arith}
use Rattle.messages.specs.declared.response.Response.{Response}
use Rattle.machine.specs.declared.holding.Entry.{Entry}
use Rattle.machine.specs.declared.transaction.Job.{Job}
use Rattle.machine.specs.Coherence.{Agrees}
use Rattle.machine.proofs.Updates.{update₂_each}
use Rattle.machine.proofs.Ghost.{Stage, Evicting, Clearing, Asked, Sent, Filled, Progress, at_stage, Nothing, From, Mailbox, Ghost, set_mailbox}
use Rattle.machine.proofs.Mailboxes.{Role, Requestor, Giver, Bystander, role, InRole, GoodMailbox}
use Rattle.machine.proofs.Invariant.{GoodMail, Invariant}
use Rattle.machine.proofs.Frames.{Weaker, weaker_same, copies_apart_after, copies_home_after, places_after, no_mail_to}

-- the same without mail
abbrev pub emptied : Mailbox → Mailbox
emptied x = record { known = x.known; mail = Nothing }

-- an answer is in the mail only where none is fine too
emptied_at : (j : Job) (s : Stage) (a : Role) (c : ℕ) (e : ℕ → Entry) (x : Mailbox) (r : Response) → x.mail ≡ From r
    → InRole (at_stage s j) c e x a → InRole (at_stage s j) c e (emptied x) a
emptied_at j Evicting Requestor c e x r m ok = grind arith
emptied_at j Clearing Requestor c e x r m ok = (ok.0, ok.1, elim ok.2 [ inl q ↦ inl (q.0, inl refl) | inr q ↦ grind arith ])
emptied_at j Asked Requestor c e x r m ok = grind arith
emptied_at j Sent Requestor c e x r m ok = grind arith
emptied_at j Filled Requestor c e x r m ok = (ok.0, ok.1, (ok.2.0, inl refl))
emptied_at j Evicting (Giver q shown keeps writeback) c e x r m ok = grind arith
emptied_at j Clearing (Giver q shown keeps writeback) c e x r m ok = grind arith
emptied_at j Asked (Giver q shown keeps writeback) c e x r m ok = grind arith
emptied_at j Sent (Giver q shown keeps writeback) c e x r m ok = (ok.0, ok.1, (ok.2.0, inl refl))
emptied_at j Filled (Giver q shown keeps writeback) c e x r m ok = (ok.0, ok.1, (ok.2.0, inl refl))
emptied_at j Evicting Bystander c e x r m ok = elim ok [ inl q ↦ inl (q.0, inl refl) | inr q ↦ grind arith ]
emptied_at j Clearing Bystander c e x r m ok = elim ok [ inl q ↦ inl (q.0, inl refl) | inr q ↦ grind arith ]
emptied_at j Asked Bystander c e x r m ok = grind arith
emptied_at j Sent Bystander c e x r m ok = grind arith
emptied_at j Filled Bystander c e x r m ok = grind arith

emptied_good : (h : Option Progress) (c : ℕ) (e : ℕ → Entry) (x : Mailbox) (r : Response) → x.mail ≡ From r → GoodMailbox h c e x
    → GoodMailbox h c e (emptied x)
emptied_good None c e x r m ok = (ok.0, refl)
emptied_good (Some h) c e x r m ok = emptied_at h.job h.stage (role h.job c) c e x r m ok

pub answer_keeps : (g : Ghost) → Invariant g → (s c : ℕ) (r : Response) → (g.mailbox s c).mail ≡ From r
    → Invariant (set_mailbox g s c (emptied (g.mailbox s c)))
answer_keeps g inv s c r m = record {
  mailboxes = update₂_each (λ t a z. GoodMailbox (g.progress t) a (g.entry t a) z) g.mailbox s c y
      (emptied_good (g.progress s) c (g.entry s c) (g.mailbox s c) r m (inv.mailboxes s c)) (λ t a _. inv.mailboxes t a);
  jobs = inv.jobs;
  entries_apart = inv.entries_apart;
  entries_home = inv.entries_home;
  blanks = inv.blanks;
  waits = inv.waits;
  asks = inv.asks;
  ranges = inv.ranges;
  pendings = inv.pendings;
  pending_ranges = inv.pending_ranges;
  copies_apart = copies_apart_after g inv s c y weak;
  copies_home = copies_home_after g inv s c y weak;
  places = places_after g inv s c y weak;
  agrees = update₂_each (λ t a z. (w : ℕ) → Agrees (z.known w) (g.way t a w)) g.mailbox s c y (inv.agrees s c) (λ t a _. inv.agrees t a);
  copies = inv.copies;
  mails = update₂_each (λ t a z. GoodMail g.at_memory z.mail) g.mailbox s c y (λ _ _ _ _ _ _ q. absurd (no_mail_to q))
      (λ t a _. inv.mails t a);
  newest = inv.newest;
}
  where
    y : Mailbox
    y = emptied (g.mailbox s c)

    weak : (w : ℕ) → Weaker (y.known w) ((g.mailbox s c).known w)
    weak w = weaker_same ((g.mailbox s c).known w)
