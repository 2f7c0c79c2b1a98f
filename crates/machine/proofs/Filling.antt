-- The requestor is filled, by Set Tag with Data or Set State with Wakeup: what that leaves of every part of the invariant.
use Rattle.std.proofs.Common.{◌≡◌, ℕ, Bool, true, false, ◌⊎◌, Some, None, MatchBool, Option, sym, refl, ap, ◌∙◌, inl, inr, arith}
use Rattle.std.proofs.lemmas.Bool.{false≢true, eq-eqb, ne_eqb}
use Rattle.bedrock.specs.declared.words.Words.{Words}
use Rattle.bedrock.specs.declared.party.Party.{Party}
use Rattle.bedrock.specs.Geometries.{set_of}
use Rattle.protocols.specs.declared.state.State.{State}
use Rattle.protocols.specs.declared.state.State.TheVariants.{I, M}
use Rattle.protocols.specs.States.{held, dirty}
use Rattle.messages.specs.declared.command.Command.TheVariants.{SetTagData}
use Rattle.messages.specs.declared.response.Response.TheVariants.{CoherenceAck}
use Rattle.machine.specs.declared.holding.Way.{Way}
use Rattle.machine.specs.declared.holding.Entry.{Entry}
use Rattle.machine.specs.declared.order.Order.{Order}
use Rattle.machine.specs.declared.transaction.Job.{Job}
use Rattle.machine.specs.Holdings.{no_entry, way_in, entry_in, block_of}
use Rattle.machine.specs.Coherence.{Agrees}
use Rattle.machine.proofs.Updates.{update, update₂, update₃, update_each, update₂_each, update_both, update_here, update_there, update₂_there, update₃_here}
use Rattle.machine.proofs.Ghost.{Stage, Sent, Filled, Progress, at_stage, To, From, Mailbox, Waiter, BlockAtMemory, Ghost}
use Rattle.machine.proofs.Mailboxes.{Requestor, role, read_only, BeforeFill, InRole, GoodMailbox}
use Rattle.machine.proofs.Invariant.{AllApart, AtHome, GoodJob, GoodProgress, unfilled, serves, Served, Asks, GoodWait, InRange, GoodPlace, is_reading, GoodPending, GoodMail, DirtyOnTheWay, Newest, Invariant}
use Rattle.machine.proofs.StateFacts.{writable_alone, held_entry, agrees_in, way_is}
use Rattle.machine.proofs.Frames.{agrees_after, copies_after, no_answer, newest_way}
use Rattle.machine.proofs.BlockFrames.{newest_way_after}
use Rattle.machine.proofs.MailFacts.{DataFacts, data_facts, requestor_is, requestor_role, filled_at}
use Rattle.machine.proofs.Promises.{known_held}

-- the requestor goes by its final entry, and answers Coherence Ack
abbrev pub filled_mailbox : Job → Mailbox → Mailbox
filled_mailbox j x = record { known = update x.known j.way (entry_in j.next j.block); mail = From (CoherenceAck j.requestor j.block) }

-- the set is at Filled, the way has the words, they are the latest, and the cache waits no more
abbrev pub after_fill : Ghost → ℕ → Job → Words → Ghost
after_fill g s j ws = record {
  geometry = g.geometry;
  entry = g.entry;
  way = update₃ g.way s j.requestor j.way (way_in j.next j.block ws);
  mailbox = update₂ g.mailbox s j.requestor (filled_mailbox j (g.mailbox s j.requestor));
  progress = update g.progress s (Some (at_stage Filled j));
  waiter = update g.waiter j.requestor (record { kept = None; request = None });
  at_memory = update g.at_memory j.block
      (record { memory = (g.at_memory j.block).memory; pending = (g.at_memory j.block).pending; latest = ws });
}

-- entries that are the same are as far apart
same_holds : (f h : ℕ → ℕ → Entry) → ((c w : ℕ) → f c w ≡ h c w) → AllApart f → AllApart h
same_holds f h e ex c w d x = rw (← e c w, ← e d x) (ex c w d x)

-- the requestor's way is filled with words: the latest ones, or, where it has M, whatever a store makes of them
module _ (g : Ghost) (inv : Invariant g) (s : ℕ) (j : Job) (st : Stage) (ws : Words)
    (h : g.progress s ≡ Some (at_stage st j)) (un : unfilled st ≡ true)
    (self : (g.entry s j.requestor j.way ≡ entry_in j.next j.block) × ((w : ℕ) → (w ≡ j.way → ⊥)
    → g.entry s j.requestor w ≡ (g.mailbox s j.requestor).known w))
    (before : BeforeFill j ((g.mailbox s j.requestor).known j.way))
    (others : (c : ℕ) → (c ≡ j.requestor → ⊥) → InRole (at_stage Filled j) c (g.entry s c) (g.mailbox s c) (role j c))
    (quiet : (b : ℕ) → set_of g.geometry b ≡ s → is_reading (g.at_memory b).pending ≡ false)
    (good : (ws ≡ (g.at_memory j.block).latest) ⊎ (j.next ≡ M)) where
  r : ℕ
  r = j.requestor

  pub fill_keeps : Invariant (after_fill g s j ws)
  unfolding r
  fill_keeps = record {
    mailboxes = update_both (λ t z f. (c : ℕ) → GoodMailbox z c (g.entry t c) (f c)) g.progress g.mailbox s (Some now)
        (update (g.mailbox s) r y) mailboxes_here (λ t _. inv.mailboxes t);
    jobs = update_each (λ t z. GoodProgress g.geometry t (g.entry t) z) g.progress s (Some now) ok (λ t _. inv.jobs t);
    entries_apart = inv.entries_apart;
    entries_home = inv.entries_home;
    blanks = inv.blanks;
    copies_apart = update_each (λ t z. AllApart (λ c. (z c).known)) g.mailbox s (update (g.mailbox s) r y)
        (same_holds (g.entry s) (λ c. (update (g.mailbox s) r y c).known) all_same (inv.entries_apart s)) (λ t _. inv.copies_apart t);
    copies_home = update_each (λ t z. (c w : ℕ) → AtHome g.geometry t c w ((z c).known w)) g.mailbox s (update (g.mailbox s) r y)
        (λ c w. rw (← all_same c w) (inv.entries_home s c w)) (λ t _. inv.copies_home t);
    asks = update_each (λ c z. z.kept ≡ None → z.request ≡ None) g.waiter r done (λ _. refl) (λ c _. inv.asks c);
    ranges = update_each (λ c z. InRange g.geometry c z) g.waiter r done (λ q e. grind arith) (λ c _. inv.ranges c);
    places = λ t. update_each (λ c z. GoodPlace (update₂ g.mailbox s r y t c) z) g.waiter r done (λ q e. grind arith)
        (λ c n. rw (update₂_there g.mailbox s r y t c (λ _ e. n e)) (inv.places t c));
    agrees = agrees_after g inv s r j.way v y
        (update_both (λ w o z. Agrees o z) (g.mailbox s r).known (g.way s r) j.way (entry_in j.next j.block) v
        (agrees_in j.next j.block ws) (λ w _. inv.agrees s r w));
    waits = update_each (λ t z. (c : ℕ) → GoodWait g.geometry t z c (update g.waiter r done c)) g.progress s (Some now)
        (update_each (λ c z. (o : Order) → z.kept ≡ Some o → set_of g.geometry (block_of o) ≡ s → Asks c z o) g.waiter r done
        (λ o e. grind arith) (λ c n. rw (un, ne_eqb c r n) at (rw h at (inv.waits s c))))
        (λ t n. update_each (λ c z. GoodWait g.geometry t (g.progress t) c z) g.waiter r done (free t n (g.progress t) refl (inv.waits t r))
        (λ c _. inv.waits t c));
    pendings = λ b. update_each (λ t z. set_of g.geometry b ≡ t → GoodPending z b (update g.at_memory j.block k b).pending) g.progress s
        (Some now)
        (λ e. rw (pend b) (quiet b e)) (λ t _ e. rw (pend b, ← e) (inv.pendings b)) (set_of g.geometry b) refl;
    pending_ranges = λ b. rw (pend b) (inv.pending_ranges b);
    copies = copies_after g (update g.at_memory j.block k) s r j.way v
        (λ q. let wi = way_is j.next j.block ws ok.gets in
        rw (wi.1, wi.2) (sym (ap (λ z. z.latest) (update_here g.at_memory j.block k))))
        (λ t d w n q. inv.copies t d w q ∙ cur (g.way t d w).block (λ e m. clash t d w n q e m));
    mails = update₂_each (λ t c z. GoodMail (update g.at_memory j.block k) z.mail) g.mailbox s r y (λ _ _ _ _ _ _ q. absurd (no_answer q))
        (λ t c n d b w a us sender q. inv.mails t c d b w a us sender q ∙ cur b (λ e _. no_other t c n d b w a us sender q e));
    newest = newest_way_after g inv s j.block now k ok.here (λ i n u. n (sym u.block ∙ sym (ap (λ z. z.block) (same_job u)))) r j.way v
        (λ x. (before_place x).1) (newest_here (dirty j.next) refl);
  }
    where
      now : Progress
      now = at_stage Filled j

      y : Mailbox
      y = filled_mailbox j (g.mailbox s r)

      v : Way
      v = way_in j.next j.block ws

      done : Waiter
      done = record { kept = None; request = None }

      k : BlockAtMemory
      k = record { memory = (g.at_memory j.block).memory; pending = (g.at_memory j.block).pending; latest = ws }

      ok : GoodJob g.geometry s (g.entry s) j
      ok = rw h at (inv.jobs s)

      pend : (b : ℕ) → (update g.at_memory j.block k b).pending ≡ (g.at_memory b).pending
      pend = update_each (λ b z. z.pending ≡ (g.at_memory b).pending) g.at_memory j.block k refl (λ b _. refl)

      mine : InRole now r (g.entry s r) y Requestor
      mine = (
        self.0,
        (λ w n. self.1 w n ∙ sym (update_there (g.mailbox s r).known j.way (entry_in j.next j.block) w n)),
        (self.0 ∙ sym (update_here (g.mailbox s r).known j.way (entry_in j.next j.block)), inr refl),
      )

      mailboxes_here : (c : ℕ) → InRole now c (g.entry s c) (update (g.mailbox s) r y c) (role j c)
      mailboxes_here = update_each (λ c z. InRole now c (g.entry s c) z (role j c)) (g.mailbox s) r y (rw (requestor_role j) mine) others

      all_same : (c w : ℕ) → g.entry s c w ≡ (update (g.mailbox s) r y c).known w
      all_same c = filled_at j (role j c) c (g.entry s c) (update (g.mailbox s) r y c) (mailboxes_here c)

      cur : (b : ℕ) → (b ≡ j.block → j.next ≡ M → ⊥) → (g.at_memory b).latest ≡ (update g.at_memory j.block k b).latest
      cur = update_each (λ b z. (b ≡ j.block → j.next ≡ M → ⊥) → (g.at_memory b).latest ≡ z.latest) g.at_memory j.block k
          (λ n. elim good [ inl q ↦ sym q | inr q ↦ absurd (n refl q) ]) (λ b _ _. refl)

      untouched : (c w : ℕ) → (c ≡ r → w ≡ j.way → ⊥) → (update (g.mailbox s) r y c).known w ≡ (g.mailbox s c).known w
      untouched = update_each (λ c z. (w : ℕ) → (c ≡ r → w ≡ j.way → ⊥) → z.known w ≡ (g.mailbox s c).known w) (g.mailbox s) r y
          (λ w n. update_there (g.mailbox s r).known j.way (entry_in j.next j.block) w (n refl)) (λ c _ w _. refl)

      en : ((entry_in j.next j.block).state ≡ j.next) × ((entry_in j.next j.block).block ≡ j.block)
      en = held_entry j.next j.block ok.gets

      clash_in : (c w : ℕ) → (c ≡ r → w ≡ j.way → ⊥) → held ((g.mailbox s c).known w).state ≡ true → ((g.mailbox s c).known w).block ≡ j.block
          → j.next ≡ M → ⊥
      clash_in c w n hd bl m = let e : g.entry s c w ≡ (g.mailbox s c).known w = all_same c w ∙ untouched c w n in
          writable_alone (g.entry s r j.way).state (g.entry s c w).state (rw (self.0, en.0, m) refl)
          (inv.entries_apart s r j.way c w (λ p i. n (sym p) (sym i)) (rw (self.0, en.0) ok.gets) (rw e hd)
          (rw (self.0, en.1, e) (sym bl))).1

      clash : (t c w : ℕ) → (t ≡ s → c ≡ r → w ≡ j.way → ⊥) → held (g.way t c w).state ≡ true → (g.way t c w).block ≡ j.block → j.next ≡ M → ⊥
      clash t c w n q e m =
          let hd = known_held g inv t c w q in
          let bl : ((g.mailbox t c).known w).block ≡ j.block = (inv.agrees t c w).block ∙ e in
          let ts : t ≡ s = sym (inv.copies_home t c w hd).0 ∙ ap (set_of g.geometry) bl ∙ ok.here in
          clash_in c w (n ts) (rw ts at hd) (rw ts at bl) m

      no_other : (t c : ℕ) → (t ≡ s → c ≡ r → ⊥) → (d b w : ℕ) (a : State) (us : Words) (sender : Party)
          → (g.mailbox t c).mail ≡ To (SetTagData d b w a us sender) → b ≡ j.block → ⊥
      no_other t c n d b w a us sender q e =
          let o : DataFacts (g.progress t) c (g.entry t c) (g.mailbox t c) d b w a = data_facts (g.progress t) c (g.entry t c)
          (g.mailbox t c) d b w a us sender q (inv.mailboxes t c) in
          let okt : GoodJob g.geometry t (g.entry t) o.job = rw o.progress at (inv.jobs t) in
          let ts : t ≡ s = sym okt.here ∙ ap (set_of g.geometry) (sym o.block ∙ e) ∙ ok.here in
          let jj : ◌≡◌ {A = Progress} (at_stage st j) (at_stage Sent o.job) = cc (ts, h, o.progress) in
          n ts (requestor_is o.job c o.is_requestor ∙ ap (λ z. z.job.requestor) (sym jj))

      served : Served j (g.waiter r)
      served = rw (un, eq-eqb r r refl) at (rw h at (inv.waits s r))

      free : (t : ℕ) → (t ≡ s → ⊥) → (z : Option Progress) → g.progress t ≡ z → GoodWait g.geometry t z r (g.waiter r)
          → GoodWait g.geometry t z r done
      free t n None i q = λ o e. grind arith
      free t n (Some z) i q = go (serves (Some z) r) q
        where
          go : (b : Bool) → MatchBool b (Served z.job (g.waiter r))
              ((o : Order) → (g.waiter r).kept ≡ Some o → set_of g.geometry (block_of o) ≡ t → Asks r (g.waiter r) o)
              → MatchBool b (Served z.job done) ((o : Order) → done.kept ≡ Some o → set_of g.geometry (block_of o) ≡ t → Asks r done o)
          go true u = let oo : u.order ≡ served.order = cc (u.kept, served.kept) in
              let okt : GoodJob g.geometry t (g.entry t) z.job = rw i at (inv.jobs t) in
              absurd (n (sym okt.here ∙ ap (set_of g.geometry) (sym u.block ∙ ap block_of oo ∙ served.block) ∙ ok.here))
          go false u = λ o e. grind arith

      same_job : {a : ℕ} → (u : DirtyOnTheWay (g.progress s) a) → j ≡ u.job
      same_job u = let e : ◌≡◌ {A = Progress} (at_stage st j) (at_stage Sent u.job) = cc (h, u.sent) in ap (λ z. z.job) e

      before_place : dirty (g.way s r j.way).state ≡ true → (j.upgrade ≡ true) × ((g.way s r j.way).block ≡ j.block)
      before_place x = go j.upgrade refl before
        where
          o : Entry
          o = (g.mailbox s r).known j.way

          go : (b : Bool) → j.upgrade ≡ b → MatchBool b ((o.block ≡ j.block) × (read_only o.state ≡ true)) (o ≡ no_entry)
              → (j.upgrade ≡ true) × ((g.way s r j.way).block ≡ j.block)
          go true i u = (i, sym (inv.agrees s r j.way).block ∙ u.0)
          go false i u = absurd (shared_no (rw u at (inv.agrees s r j.way).state))
            where
              shared_no : (g.way s r j.way).state ≡ I → ⊥
              shared_no z = false≢true (rw z at x)

      newest_here : (b : Bool) → dirty j.next ≡ b → Newest (update₃ g.way s r j.way v s) (Some now) j.block k
      newest_here true i = let wi = way_is j.next j.block ws ok.gets in
          inr (inl (record {
            cache = r;
            way = j.way;
            state = rw (update₃_here g.way s r j.way v, wi.0) i;
            block = rw (update₃_here g.way s r j.way v) wi.1;
          }))
      newest_here false i = newest_way g.way s r j.way v s (Some now) j.block k
          (elim (rw ok.here at (inv.newest j.block)) [
            | inl q ↦ elim good [ inl p ↦ inl (q ∙ sym p) | inr p ↦ absurd (false≢true (sym i ∙ rw p refl)) ]
            | inr q ↦ elim q [ inl u ↦ inr (inl u) | inr u ↦ absurd (false≢true (sym i ∙ rw (same_job u) u.state)) ]
          ])
          (λ _ x _. absurd (false≢true (sym i ∙ rw (ok.writes (ok.upgrades (before_place x).0)) refl)))
