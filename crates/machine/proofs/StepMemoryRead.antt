-- A memory read that is done keeps the invariant: the words go to the requestor.
use Rattle.std.proofs.Common.{◌≡◌, ℕ, Bool, true, false, ◌⊎◌, Some, None, Option, sym, refl, ap, ◌∙◌, inl, inr, ⊎_elim, arith}
use Rattle.std.proofs.lemmas.Bool.{false≢true, cases_eq}
use Rattle.std.proofs.lemmas.Bool.Decides.{nat_tests}
use Rattle.bedrock.specs.declared.words.Words.{Words}
use Rattle.bedrock.specs.declared.party.Party.{Party}
use Rattle.bedrock.specs.declared.party.Party.TheVariants.{Directory}
use Rattle.protocols.specs.declared.state.State.{State}
use Rattle.protocols.specs.declared.state.State.TheVariants.{S}
use Rattle.protocols.specs.States.{held, dirty}
use Rattle.messages.specs.declared.command.Command.TheVariants.{SetTagData}
use Rattle.machine.specs.declared.holding.Entry.{Entry}
use Rattle.machine.specs.declared.transaction.Source.{Source}
use Rattle.machine.specs.declared.transaction.Source.TheVariants.{Memory, OwnCopy, Owner}
use Rattle.machine.specs.declared.transaction.Job.{Job}
use Rattle.machine.specs.Holdings.{entry_in}
use Rattle.machine.specs.Coherence.{Agrees}
use Rattle.machine.proofs.Updates.{update, update₂, update_each, update₂_each, update_both}
use Rattle.machine.proofs.Ghost.{Stage, Evicting, Clearing, Asked, Sent, Filled, Progress, at_stage, To, Mailbox, Idle, Reading, BlockAtMemory, Ghost}
use Rattle.machine.proofs.Mailboxes.{Role, Requestor, Giver, Bystander, role, InRole, GoodMailbox}
use Rattle.machine.proofs.Invariant.{GoodJob, GoodProgress, GoodWait, read_for, PendingAt, GoodPending, GoodMail, DirtyOnTheWay, Invariant}
use Rattle.machine.proofs.StateFacts.{surely_clean_is, dirty_held, held_entry}
use Rattle.machine.proofs.Frames.{Weaker, weaker_same, copies_apart_after, copies_home_after, places_after, not_sent}
use Rattle.machine.proofs.BlockFrames.{pendings_after, newest_after, pending_ranges_after, latest_same}
use Rattle.machine.proofs.MailFacts.{requestor_is, requestor_role, requestor_at}
use Rattle.machine.proofs.Promises.{known_held}

-- what a memory read on its way tells of the set
pub record ReadFacts (h : Option Progress) (b c w : ℕ) (st : State) : Type 0 where
  pub job : Job
  pub progress : h ≡ Some (at_stage Asked job)
  pub block : b ≡ job.block
  pub source : job.source ≡ Memory
  pub cache : c ≡ job.requestor
  pub way : w ≡ job.way
  pub next : st ≡ job.next

read_at : (s : Stage) (j : Job) (b c w : ℕ) (st : State) → PendingAt s j b (Reading c w st) → ReadFacts (Some (at_stage s j)) b c w st
read_at Evicting j b c w st ok = grind arith
read_at Clearing j b c w st ok = grind arith
read_at Asked j b c w st ok = ⊎_elim (λ e. go e j.source refl (ok.0 e)) (λ n. absurd (false≢true (sym (ok.1 n)))) (cases_eq b j.block)
  where
    go : b ≡ j.block → (r : Source) → j.source ≡ r → Reading c w st ≡ read_for j r → ReadFacts (Some (at_stage Asked j)) b c w st
    go e Memory i q = record { job = j; progress = refl; block = e; source = i; cache = cc; way = cc; next = cc }
    go e OwnCopy i q = grind arith
    go e (Owner o p shown keeps writeback) i q = grind arith
read_at Sent j b c w st ok = grind arith
read_at Filled j b c w st ok = grind arith

pub read_facts : (h : Option Progress) (b c w : ℕ) (st : State) → GoodPending h b (Reading c w st) → ReadFacts h b c w st
read_facts None b c w st ok = grind arith
read_facts (Some h) b c w st ok = read_at h.stage h.job b c w st ok

-- with the words to come from memory no cache hands over
pub no_owner : (j : Job) (c p : ℕ) (shown keeps : State) (writeback : Bool) → j.source ≡ Memory → role j c ≡ Giver p shown keeps writeback → ⊥
no_owner j c p shown keeps writeback m r = grind (arith, nat_tests)

-- the requestor's mailbox once the words are on their way
abbrev pub sent_mailbox : Job → Mailbox → Words → Party → Mailbox
sent_mailbox j x ws sender = record { known = x.known; mail = To (SetTagData j.requestor j.block j.way j.next ws sender) }

-- with the words to come from memory, only the requestor's way differs from its entry
asked_same : (j : Job) (a : Role) (c : ℕ) (e : ℕ → Entry) (x : Mailbox) → j.source ≡ Memory → role j c ≡ a → InRole (at_stage Asked j) c e x a
    → (w : ℕ) → (c ≡ j.requestor → w ≡ j.way → ⊥) → e w ≡ x.known w
asked_same j Requestor c e x m r ok w n = ok.1 w (n (requestor_is j c r))
asked_same j (Giver p shown keeps writeback) c e x m r ok w n = absurd (no_owner j c p shown keeps writeback m r)
asked_same j Bystander c e x m r ok w n = ok.0 w

-- the other caches do not tell Asked from Sent
sent_other : (j : Job) (a : Role) (c : ℕ) (e : ℕ → Entry) (x : Mailbox) → j.source ≡ Memory → role j c ≡ a → (c ≡ j.requestor → ⊥)
    → InRole (at_stage Asked j) c e x a → InRole (at_stage Sent j) c e x a
sent_other j Requestor c e x m r n ok = absurd (n (requestor_is j c r))
sent_other j (Giver p shown keeps writeback) c e x m r n ok = absurd (no_owner j c p shown keeps writeback m r)
sent_other j Bystander c e x m r n ok = ok

-- no copy of the block is dirty while the memory is asked
no_dirty_copy : (g : Ghost) → Invariant g → (s : ℕ) (j : Job) → g.progress s ≡ Some (at_stage Asked j) → j.source ≡ Memory
    → (c w : ℕ) → dirty (g.way s c w).state ≡ true → (g.way s c w).block ≡ j.block → ⊥
no_dirty_copy g inv s j h m c w di at = go (cases_eq c r) (cases_eq w j.way)
  where
    r : ℕ
    r = j.requestor

    ok : GoodJob g.geometry s (g.entry s) j
    ok = rw h at (inv.jobs s)

    src : (j.upgrade ≡ false) × ((c w : ℕ) → (c ≡ j.requestor → ⊥) → held (g.entry s c w).state ≡ true → (g.entry s c w).block ≡ j.block
        → (g.entry s c w).state ≡ S)
    src = rw m at ok.source

    hd : held ((g.mailbox s c).known w).state ≡ true
    hd = known_held g inv s c w (dirty_held (g.way s c w).state di)

    bl : ((g.mailbox s c).known w).block ≡ j.block
    bl = (inv.agrees s c w).block ∙ at

    same : (c ≡ r → w ≡ j.way → ⊥) → g.entry s c w ≡ (g.mailbox s c).known w
    same n = asked_same j (role j c) c (g.entry s c) (g.mailbox s c) m refl (rw h at (inv.mailboxes s c)) w n

    self : InRole (at_stage Asked j) r (g.entry s r) (g.mailbox s r) Requestor
    self = requestor_at g inv s j Asked h

    en : ((entry_in j.next j.block).state ≡ j.next) × ((entry_in j.next j.block).block ≡ j.block)
    en = held_entry j.next j.block ok.gets

    other : (c ≡ r → ⊥) → ⊥
    other n =
        let i = same (λ p _. n p) in
        let shared : ((g.mailbox s c).known w).state ≡ S = sym (ap (λ z. z.state) i) ∙ src.1 c w n (rw i hd) (rw i bl) in
        surely_clean_is ((g.mailbox s c).known w).state (g.way s c w).state (inv.agrees s c w).state (rw shared refl) di

    own : c ≡ r → w ≡ j.way → ⊥
    own p i = false≢true (rw (rw src.0 at self.2.0) at (rw (p, i) at hd))

    beside : c ≡ r → (w ≡ j.way → ⊥) → ⊥
    beside p n = let i = same (λ _ e. n e) in
        (inv.entries_apart s c w r j.way (λ _ e. n e) (rw i hd) (rw (self.0, en.0) ok.gets) (rw (i, self.0, en.1) bl)).0 p

    go : (c ≡ r) ⊎ (c ≡ r → ⊥) → (w ≡ j.way) ⊎ (w ≡ j.way → ⊥) → ⊥
    go (inl p) (inl i) = own p i
    go (inl p) (inr n) = beside p n
    go (inr n) (inl i) = other n
    go (inr n) (inr _) = other n

-- the set is at Sent, the words are in the mail, and nothing is on its way at the memory
abbrev pub after_read : Ghost → ℕ → Job → Words → Ghost
after_read g s j ws = record {
  geometry = g.geometry;
  entry = g.entry;
  way = g.way;
  waiter = g.waiter;
  progress = update g.progress s (Some (at_stage Sent j));
  mailbox = update₂ g.mailbox s j.requestor (sent_mailbox j (g.mailbox s j.requestor) ws Directory);
  at_memory = update g.at_memory j.block
      (record { memory = (g.at_memory j.block).memory; pending = Idle; latest = (g.at_memory j.block).latest });
}

pub memory_read_keeps : (g : Ghost) → Invariant g → (s : ℕ) (j : Job) → g.progress s ≡ Some (at_stage Asked j) → j.source ≡ Memory
    → Invariant (after_read g s j (g.at_memory j.block).memory)
memory_read_keeps g inv s j h m = record {
  mailboxes = update_both (λ t z f. (c : ℕ) → GoodMailbox z c (g.entry t c) (f c)) g.progress g.mailbox s (Some now)
      (update (g.mailbox s) r y)
      (update_each (λ c x. InRole now c (g.entry s c) x (role j c)) (g.mailbox s) r y
      (rw (requestor_role j) (sent_self (requestor_at g inv s j Asked h)))
      (λ c n. sent_other j (role j c) c (g.entry s c) (g.mailbox s c) m refl n (rw h at (inv.mailboxes s c))))
      (λ t _. inv.mailboxes t);
  jobs = update_each (λ t z. GoodProgress g.geometry t (g.entry t) z) g.progress s (Some now) ok (λ t _. inv.jobs t);
  entries_apart = inv.entries_apart;
  entries_home = inv.entries_home;
  blanks = inv.blanks;
  asks = inv.asks;
  ranges = inv.ranges;
  copies_apart = copies_apart_after g inv s r y weak;
  copies_home = copies_home_after g inv s r y weak;
  places = places_after g inv s r y weak;
  agrees = update₂_each (λ t a z. (w : ℕ) → Agrees (z.known w) (g.way t a w)) g.mailbox s r y (inv.agrees s r) (λ t a _. inv.agrees t a);
  waits = update_each (λ t z. (c : ℕ) → GoodWait g.geometry t z c (g.waiter c)) g.progress s (Some now) (λ c. rw h at (inv.waits s c))
      (λ t _. inv.waits t);
  pendings = pendings_after g inv s j.block now k ok.here refl (λ i n q. (rw (q, h) at (inv.pendings i)).1 n);
  pending_ranges = pending_ranges_after g inv j.block k (inl refl);
  copies = λ t c w q. inv.copies t c w q ∙ sym (same (g.way t c w).block);
  mails = update₂_each (λ t c z. GoodMail (update g.at_memory j.block k) z.mail) g.mailbox s r y
      (λ c b w st ws sender q. let e : (g.at_memory j.block).memory ≡ ws = cc in let i : j.block ≡ b = cc in sym e ∙ clean
      ∙ ap (λ n. (g.at_memory n).latest) i ∙ sym (same b))
      (λ t c _ d b w st ws sender q. inv.mails t c d b w st ws sender q ∙ sym (same b));
  newest = newest_after g inv s j.block now k ok.here (λ i _. no_dirty_sent i) (inl clean);
}
  where
    r : ℕ
    r = j.requestor

    now : Progress
    now = at_stage Sent j

    y : Mailbox
    y = sent_mailbox j (g.mailbox s r) (g.at_memory j.block).memory Directory

    k : BlockAtMemory
    k = record { memory = (g.at_memory j.block).memory; pending = Idle; latest = (g.at_memory j.block).latest }

    ok : GoodJob g.geometry s (g.entry s) j
    ok = rw h at (inv.jobs s)

    weak : (w : ℕ) → Weaker (y.known w) ((g.mailbox s r).known w)
    weak w = weaker_same ((g.mailbox s r).known w)

    same : (i : ℕ) → (update g.at_memory j.block k i).latest ≡ (g.at_memory i).latest
    same = latest_same g.at_memory j.block k refl

    no_dirty_sent : (i : ℕ) → DirtyOnTheWay (g.progress s) i → ⊥
    no_dirty_sent i = rw h (not_sent j Asked i (λ e. grind arith))

    reads : (g.at_memory j.block).pending ≡ Reading j.requestor j.way j.next
    reads = rw m at ((rw (ok.here, h) at (inv.pendings j.block)).0 refl)

    sent_self : InRole (at_stage Asked j) r (g.entry s r) (g.mailbox s r) Requestor → InRole now r (g.entry s r) y Requestor
    sent_self p = (p.0, p.1, (p.2.0, record { words = (g.at_memory j.block).memory; sender = Directory; out = refl }))

    clean : (g.at_memory j.block).memory ≡ (g.at_memory j.block).latest
    clean = elim (rw ok.here at (inv.newest j.block)) [
      | inl q ↦ rw reads at q
      | inr q ↦ elim q
          [ inl u ↦ absurd (no_dirty_copy g inv s j h m u.cache u.way u.state u.block) | inr u ↦ absurd (no_dirty_sent j.block u) ]
    ]
