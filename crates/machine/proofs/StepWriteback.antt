-- A Set State with Writeback that arrives keeps the invariant: the requestor's way is emptied, and its words go to the memory if dirty.
use Rattle.std.proofs.Common.{◌≡◌, ℕ, ◌<◌, Bool, true, false, Some, None, Option, sym, refl, ap, ◌∙◌, subst, inl, inr, arith}
use Rattle.std.proofs.lemmas.Bool.{false≢true}
use Rattle.bedrock.specs.declared.words.Words.{Words}
use Rattle.bedrock.specs.Geometries.{set_of}
use Rattle.protocols.specs.States.{held, dirty}
use Rattle.messages.specs.declared.command.Command.TheVariants.{SetStateWriteback}
use Rattle.messages.specs.declared.response.Response.{Response}
use Rattle.machine.specs.declared.holding.Entry.{Entry}
use Rattle.machine.specs.declared.transaction.Job.{Job}
use Rattle.machine.specs.Holdings.{no_way, no_entry, entry_in}
use Rattle.machine.specs.Coherence.{Agrees}
use Rattle.machine.proofs.Updates.{update, update₂, update₃, update_each, update₂_each, update_both, update_here, update_there}
use Rattle.machine.proofs.Ghost.{Stage, Evicting, Clearing, Asked, Sent, Filled, Progress, at_stage, To, Mailbox, Pending, Idle, Coming, BlockAtMemory, Ghost}
use Rattle.machine.proofs.Mailboxes.{Role, Requestor, Giver, Bystander, role, InRole, GoodMailbox}
use Rattle.machine.proofs.Invariant.{GoodProgress, GoodWait, is_reading, GoodMail, DirtyOnTheWay, Newest, Invariant}
use Rattle.machine.proofs.StateFacts.{dirty_held, may_be_dirty_held}
use Rattle.machine.proofs.Frames.{Weaker, weaker_same, weaker_none, copies_apart_after, copies_home_after, places_after, agrees_after, copies_after, no_answer, newest_progress, not_sent, newest_way}
use Rattle.machine.proofs.BlockFrames.{pendings_after, newest_way_after, pending_ranges_after, latest_same}
use Rattle.machine.proofs.MailFacts.{requestor_is, requestor_role, requestor_at}
use Rattle.machine.proofs.StepInvalidate.{dropped_mailbox}

-- what a Set State with Writeback in the mail tells of the set
pub record WritebackFacts (h : Option Progress) (c : ℕ) (e : ℕ → Entry) (x : Mailbox) (b p : ℕ) : Type 0 where
  pub job : Job
  pub progress : h ≡ Some (at_stage Evicting job)
  pub is_requestor : role job c ≡ Requestor
  pub way : p ≡ job.way
  pub other : b ≡ job.block → ⊥
  pub block : (x.known p).block ≡ b
  pub held_there : held (x.known p).state ≡ true
  pub no_upgrade : job.upgrade ≡ false
  pub entry : e job.way ≡ entry_in job.next job.block
  pub rest : (w : ℕ) → (w ≡ job.way → ⊥) → e w ≡ x.known w

writeback_at : (j : Job) (s : Stage) (a : Role) (c : ℕ) (e : ℕ → Entry) (x : Mailbox) (d b p : ℕ) → x.mail ≡ To (SetStateWriteback d b p)
    → role j c ≡ a → InRole (at_stage s j) c e x a → WritebackFacts (Some (at_stage s j)) c e x b p
writeback_at j Evicting Requestor c e x d b p m i ok = let l = ok.2 in let q : l.block ≡ b = cc (m, l.out) in
    let pw : p ≡ j.way = cc (m, l.out) in
    record {
      job = j;
      progress = refl;
      is_requestor = i;
      way = pw;
      other = rw q at l.other;
      block = rw pw (l.shown ∙ q);
      held_there = rw pw (may_be_dirty_held (x.known j.way).state l.state);
      no_upgrade = l.no_upgrade;
      entry = ok.0;
      rest = ok.1;
    }
writeback_at j Clearing Requestor c e x d b p m i ok = grind arith
writeback_at j Asked Requestor c e x d b p m i ok = grind arith
writeback_at j Sent Requestor c e x d b p m i ok = grind arith
writeback_at j Filled Requestor c e x d b p m i ok = grind arith
writeback_at j Evicting (Giver q shown keeps writeback) c e x d b p m i ok = grind arith
writeback_at j Clearing (Giver q shown keeps writeback) c e x d b p m i ok = grind arith
writeback_at j Asked (Giver q shown keeps writeback) c e x d b p m i ok = grind arith
writeback_at j Sent (Giver q shown keeps writeback) c e x d b p m i ok = grind arith
writeback_at j Filled (Giver q shown keeps writeback) c e x d b p m i ok = grind arith
writeback_at j Evicting Bystander c e x d b p m i ok = grind arith
writeback_at j Clearing Bystander c e x d b p m i ok = grind arith
writeback_at j Asked Bystander c e x d b p m i ok = grind arith
writeback_at j Sent Bystander c e x d b p m i ok = grind arith
writeback_at j Filled Bystander c e x d b p m i ok = grind arith

pub writeback_facts : (h : Option Progress) (c : ℕ) (e : ℕ → Entry) (x : Mailbox) (d b p : ℕ) → x.mail ≡ To (SetStateWriteback d b p)
    → GoodMailbox h c e x → WritebackFacts h c e x b p
writeback_facts None c e x d b p m ok = grind arith
writeback_facts (Some h) c e x d b p m ok = writeback_at h.job h.stage (role h.job c) c e x d b p m refl ok

-- words are on their way to the memory if the copy was dirty
abbrev pub coming_if : Bool → Words → Pending
coming_if true ws = Coming ws
coming_if false ws = Idle

-- bystanders and owners do not tell the two parts of round one apart
clearing_other : (j : Job) (a : Role) (c : ℕ) (e : ℕ → Entry) (x : Mailbox) → role j c ≡ a → (c ≡ j.requestor → ⊥)
    → InRole (at_stage Evicting j) c e x a → InRole (at_stage Clearing j) c e x a
clearing_other j Requestor c e x r n ok = absurd (n (requestor_is j c r))
clearing_other j (Giver p shown keeps writeback) c e x r n ok = ok
clearing_other j Bystander c e x r n ok = ok

pub coming_no_read : (t : Bool) (ws : Words) → is_reading (coming_if t ws) ≡ false
coming_no_read true ws = refl
coming_no_read false ws = refl

-- the set is at Clearing
abbrev pub after_writeback : Ghost → ℕ → Job → ℕ → ℕ → Response → Ghost
after_writeback g s j b p r = record {
  geometry = g.geometry;
  entry = g.entry;
  way = update₃ g.way s j.requestor p no_way;
  waiter = g.waiter;
  mailbox = update₂ g.mailbox s j.requestor (dropped_mailbox (g.mailbox s j.requestor) p r);
  progress = update g.progress s (Some (at_stage Clearing j));
  at_memory = update g.at_memory b (record {
    memory = (g.at_memory b).memory;
    latest = (g.at_memory b).latest;
    pending = coming_if (dirty (g.way s j.requestor p).state) (g.way s j.requestor p).words;
  });
}

-- with what the facts above give
pub writeback_keeps : (g : Ghost) → Invariant g → (s b : ℕ) (r : Response) (j : Job) → g.progress s ≡ Some (at_stage Evicting j)
    → (b ≡ j.block → ⊥) → ((g.mailbox s j.requestor).known j.way).block ≡ b → held ((g.mailbox s j.requestor).known j.way).state ≡ true
    → j.upgrade ≡ false → Invariant (after_writeback g s j b j.way r)
writeback_keeps g inv s b r j h other bl hd up = record {
  mailboxes = update_both
      (λ t z f. (c : ℕ) → GoodMailbox z c (g.entry t c) (f c)) g.progress g.mailbox s (Some now) (update (g.mailbox s) c y)
      (update_each (λ d z. InRole now d (g.entry s d) z (role j d)) (g.mailbox s) c y
      (rw (requestor_role j) (self (requestor_at g inv s j Evicting h)))
      (λ d n. clearing_other j (role j d) d (g.entry s d) (g.mailbox s d) refl n (rw h at (inv.mailboxes s d)))) (λ t _. inv.mailboxes t);
  jobs = update_each (λ t z. GoodProgress g.geometry t (g.entry t) z) g.progress s (Some now) (rw h at (inv.jobs s)) (λ t _. inv.jobs t);
  entries_apart = inv.entries_apart;
  entries_home = inv.entries_home;
  blanks = inv.blanks;
  asks = inv.asks;
  ranges = inv.ranges;
  copies_apart = copies_apart_after g inv s c y weak;
  copies_home = copies_home_after g inv s c y weak;
  places = places_after g inv s c y weak;
  agrees = agrees_after g inv s c p no_way y
      (update_both (λ w o v. Agrees o v) x.known (g.way s c) p no_entry no_way (record { state = refl; block = refl }) (λ w _. inv.agrees s c w));
  waits = update_each (λ t z. (d : ℕ) → GoodWait g.geometry t z d (g.waiter d)) g.progress s (Some now) (λ d. rw h at (inv.waits s d))
      (λ t _. inv.waits t);
  pendings = pendings_after g inv s b now k home (coming_no_read (dirty (g.way s c p).state) (g.way s c p).words, λ q. absurd (other q))
      (λ i _ q. let z = rw (q, h) at (inv.pendings i) in (rw z refl, λ _. z));
  pending_ranges = pending_ranges_after g inv b k (inr in_range);
  copies = copies_after g (update g.at_memory b k) s c p no_way (λ q. absurd (false≢true q))
      (λ t d w _ q. inv.copies t d w q ∙ sym (same (g.way t d w).block));
  mails = update₂_each (λ t d z. GoodMail (update g.at_memory b k) z.mail) g.mailbox s c y (λ _ _ _ _ _ _ q. absurd (no_answer q))
      (λ t d _ a i w st ws sender q. inv.mails t d a i w st ws sender q ∙ sym (same i));
  newest = newest_way_after g inv s b now k home (λ i _. no_dirty_sent i) c p no_way (λ _. at) (coming_newest (dirty (g.way s c p).state) refl);
}
  where
    c : ℕ
    c = j.requestor

    p : ℕ
    p = j.way

    x : Mailbox
    x = g.mailbox s c

    y : Mailbox
    y = dropped_mailbox x p r

    now : Progress
    now = at_stage Clearing j

    k : BlockAtMemory
    k = record {
      memory = (g.at_memory b).memory;
      pending = coming_if (dirty (g.way s c p).state) (g.way s c p).words;
      latest = (g.at_memory b).latest;
    }

    home : set_of g.geometry b ≡ s
    home = ap (set_of g.geometry) (sym bl) ∙ (inv.copies_home s c p hd).0

    in_range : b < g.geometry.blocks
    in_range = subst (λ i. i < g.geometry.blocks) bl (inv.copies_home s c p hd).3

    weak : (w : ℕ) → Weaker (y.known w) (x.known w)
    weak = update_each (λ w o. Weaker o (x.known w)) x.known p no_entry (weaker_none (x.known p)) (λ w _. weaker_same (x.known w))

    same : (i : ℕ) → (update g.at_memory b k i).latest ≡ (g.at_memory i).latest
    same = latest_same g.at_memory b k refl

    self : InRole (at_stage Evicting j) c (g.entry s c) x Requestor → InRole now c (g.entry s c) y Requestor
    self q = (q.0, (λ w n. q.1 w n ∙ sym (update_there x.known p no_entry w n)), inl (rw up (update_here x.known p no_entry), inr (r, refl)))

    no_dirty_sent : (i : ℕ) → DirtyOnTheWay (g.progress s) i → ⊥
    no_dirty_sent i = rw h (not_sent j Evicting i (λ e. grind arith))

    at : (g.way s c p).block ≡ b
    at = sym (inv.agrees s c p).block ∙ bl

    moved : (i : ℕ) → set_of g.geometry i ≡ s → Newest (g.way s) (Some now) i (g.at_memory i)
    moved i q = newest_progress (g.way s) (g.progress s) (Some now) i (g.at_memory i) (no_dirty_sent i) (rw q at (inv.newest i))

    idle : (g.at_memory b).pending ≡ Idle
    idle = rw (home, h) at (inv.pendings b)

    coming_newest : (t : Bool) → dirty (g.way s c p).state ≡ t → Newest (update₃ g.way s c p no_way s)
        (Some now) b (record { memory = (g.at_memory b).memory; pending = coming_if t (g.way s c p).words; latest = (g.at_memory b).latest })
    coming_newest true i = inl (inv.copies s c p (dirty_held (g.way s c p).state i) ∙ ap (λ n. (g.at_memory n).latest) at)
    coming_newest false i =
        newest_way g.way s c p no_way s (Some now) b (record { memory = (g.at_memory b).memory; pending = Idle; latest = (g.at_memory b).latest })
        (elim (moved b home) [ inl q ↦ inl (rw idle at q) | inr q ↦ inr q ]) (λ _ z _. absurd (false≢true (sym i ∙ z)))
