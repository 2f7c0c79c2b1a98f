-- Round two begins: the words are asked for. It keeps the invariant.
use Rattle.std.proofs.Common.{◌≡◌, ℕ, Some, sym, refl, ◌∙◌, inl, inr, arith}
use Rattle.bedrock.specs.declared.words.Words.{Words}
use Rattle.bedrock.specs.declared.party.Party.{Party}
use Rattle.protocols.specs.declared.state.State.{State}
use Rattle.messages.specs.declared.command.Command.TheVariants.{Transfer, SetTagData}
use Rattle.machine.specs.declared.holding.Entry.{Entry}
use Rattle.machine.specs.declared.transaction.Source.{Source}
use Rattle.machine.specs.declared.transaction.Source.TheVariants.{Memory, OwnCopy, Owner}
use Rattle.machine.specs.declared.transaction.Job.{Job}
use Rattle.machine.specs.Coherence.{Agrees}
use Rattle.machine.proofs.Updates.{update, update_each, update_both}
use Rattle.machine.proofs.Ghost.{Clearing, Asked, Progress, at_stage, Mail, Nothing, To, Mailbox, Idle, BlockAtMemory, Ghost}
use Rattle.machine.proofs.Mailboxes.{Role, Requestor, Giver, Bystander, role, wakeup_mail, InRole, GoodMailbox}
use Rattle.machine.proofs.Invariant.{AllApart, AtHome, GoodJob, GoodProgress, GoodWait, GoodPlace, read_for, newest_at, GoodMail, DirtyOnTheWay, Newest, Invariant}
use Rattle.machine.proofs.Frames.{newest_progress, not_sent}
use Rattle.machine.proofs.BlockFrames.{pendings_after, newest_after, pending_ranges_after, latest_same}
use Rattle.machine.proofs.MailFacts.{job_range}

-- what goes out: a Wakeup, a Transfer, or nothing where the memory is asked
abbrev pub asked_mail : Job → ℕ → Role → Mail
asked_mail j c Requestor = wakeup_mail j j.source
asked_mail j c (Giver p shown keeps writeback) = To (Transfer c j.block p j.requestor j.way keeps j.next writeback)
asked_mail j c Bystander = Nothing

abbrev pub asked_mailbox : Job → ℕ → Mailbox → Mailbox
asked_mailbox j c x = record { known = x.known; mail = asked_mail j c (role j c) }

asked_at : (j : Job) (a : Role) (c : ℕ) (e : ℕ → Entry) (x : Mailbox) → x.mail ≡ Nothing → InRole (at_stage Clearing j) c e x a
    → InRole (at_stage Asked j) c e (record { known = x.known; mail = asked_mail j c a }) a
asked_at j Requestor c e x m ok = (ok.0, ok.1, elim ok.2 [ inl q ↦ (q.0, refl) | inr q ↦ grind arith ])
asked_at j (Giver p shown keeps writeback) c e x m ok = (ok.0, ok.1, (ok.2.0, refl))
asked_at j Bystander c e x m ok = elim ok [ inl q ↦ (q.0, refl) | inr q ↦ grind arith ]

-- nobody gets data yet
no_data_asked : (j : Job) (c : ℕ) (a : Role) (d b w : ℕ) (st : State) (ws : Words) (sender : Party)
    → asked_mail j c a ≡ To (SetTagData d b w st ws sender) → ⊥
no_data_asked j c Requestor d b w st ws sender e = go j.source e
  where
    go : (r : Source) → wakeup_mail j r ≡ To (SetTagData d b w st ws sender) → ⊥
    go Memory e = grind arith
    go OwnCopy e = grind arith
    go (Owner o p shown keeps writeback) e = grind arith
no_data_asked j c (Giver p shown keeps writeback) d b w st ws sender e = grind arith
no_data_asked j c Bystander d b w st ws sender e = grind arith

newest_read : (j : Job) (r : Source) (ws : Words) → newest_at (read_for j r) ws ≡ ws
newest_read j Memory ws = refl
newest_read j OwnCopy ws = refl
newest_read j (Owner o p shown keeps writeback) ws = refl

-- the set is at Asked
abbrev pub after_begin : Ghost → ℕ → Job → Ghost
after_begin g s j = record {
  geometry = g.geometry;
  entry = g.entry;
  way = g.way;
  waiter = g.waiter;
  progress = update g.progress s (Some (at_stage Asked j));
  mailbox = update g.mailbox s (λ c. asked_mailbox j c (g.mailbox s c));
  at_memory = update g.at_memory j.block
      (record { memory = (g.at_memory j.block).memory; pending = read_for j j.source; latest = (g.at_memory j.block).latest });
}

-- once all answers of round one are in
pub round_two_keeps : (g : Ghost) → Invariant g → (s : ℕ) (j : Job) → g.progress s ≡ Some (at_stage Clearing j)
    → ((c : ℕ) → (g.mailbox s c).mail ≡ Nothing) → Invariant (after_begin g s j)
round_two_keeps g inv s j h quiet = record {
  mailboxes = update_both (λ t z f. (c : ℕ) → GoodMailbox z c (g.entry t c) (f c)) g.progress g.mailbox s (Some now) f
      (λ c. asked_at j (role j c) c (g.entry s c) (g.mailbox s c) (quiet c) (rw h at (inv.mailboxes s c))) (λ t _. inv.mailboxes t);
  jobs = update_each (λ t z. GoodProgress g.geometry t (g.entry t) z) g.progress s (Some now) ok (λ t _. inv.jobs t);
  entries_apart = inv.entries_apart;
  entries_home = inv.entries_home;
  blanks = inv.blanks;
  asks = inv.asks;
  ranges = inv.ranges;
  copies_apart = update_each (λ t z. AllApart (λ c. (z c).known)) g.mailbox s f (inv.copies_apart s) (λ t _. inv.copies_apart t);
  copies_home = update_each (λ t z. (c w : ℕ) → AtHome g.geometry t c w ((z c).known w)) g.mailbox s f (inv.copies_home s)
      (λ t _. inv.copies_home t);
  places = update_each (λ t z. (c : ℕ) → GoodPlace (z c) (g.waiter c)) g.mailbox s f (inv.places s) (λ t _. inv.places t);
  agrees = update_each (λ t z. (c w : ℕ) → Agrees ((z c).known w) (g.way t c w)) g.mailbox s f (inv.agrees s) (λ t _. inv.agrees t);
  waits = update_each (λ t z. (c : ℕ) → GoodWait g.geometry t z c (g.waiter c)) g.progress s (Some now) (λ c. rw h at (inv.waits s c))
      (λ t _. inv.waits t);
  pendings = pendings_after g inv s j.block now k ok.here ((λ _. refl), λ n. absurd (n refl))
      (λ i n q. ((λ p. absurd (n p)), λ _. (rw (q, h) at (inv.pendings i)).0));
  pending_ranges = pending_ranges_after g inv j.block k (inr (job_range g inv s j Clearing h).2);
  copies = λ t c w q. inv.copies t c w q ∙ sym (same (g.way t c w).block);
  mails = update_each (λ t z. (c : ℕ) → GoodMail (update g.at_memory j.block k) (z c).mail) g.mailbox s f
      (λ c d b w st ws sender q. absurd (no_data_asked j c (role j c) d b w st ws sender q))
      (λ t _ c d b w st ws sender q. inv.mails t c d b w st ws sender q ∙ sym (same b));
  newest = newest_after g inv s j.block now k ok.here (λ i _. no_dirty_sent i) kept_newest;
}
  where
    now : Progress
    now = at_stage Asked j

    f : ℕ → Mailbox
    f = λ c. asked_mailbox j c (g.mailbox s c)

    k : BlockAtMemory
    k = record { memory = (g.at_memory j.block).memory; pending = read_for j j.source; latest = (g.at_memory j.block).latest }

    ok : GoodJob g.geometry s (g.entry s) j
    ok = rw h at (inv.jobs s)

    same : (i : ℕ) → (update g.at_memory j.block k i).latest ≡ (g.at_memory i).latest
    same = latest_same g.at_memory j.block k refl

    no_dirty_sent : (i : ℕ) → DirtyOnTheWay (g.progress s) i → ⊥
    no_dirty_sent i = rw h (not_sent j Clearing i (λ e. grind arith))

    idle : (g.at_memory j.block).pending ≡ Idle
    idle = (rw (ok.here, h) at (inv.pendings j.block)).1 refl

    kept_newest : Newest (g.way s) (Some now) j.block k
    kept_newest = elim (newest_progress (g.way s) (g.progress s) (Some now)
        j.block (g.at_memory j.block) (no_dirty_sent j.block) (rw ok.here at (inv.newest j.block)))
        [ inl q ↦ inl (newest_read j j.source (g.at_memory j.block).memory ∙ (rw idle at q)) | inr q ↦ inr q ]
