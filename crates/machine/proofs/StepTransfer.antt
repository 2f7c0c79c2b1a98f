-- A Transfer that arrives keeps the invariant: the owner lets go, sends the words to the requestor, and writes back if told to.
use Rattle.std.proofs.Common.{◌≡◌, ℕ, ◌<◌, Bool, true, false, Some, sym, refl, ap, ◌∙◌, subst, inl, inr, arith}
use Rattle.std.proofs.lemmas.Bool.{false≢true, eq-eqb, ne_eqb}
use Rattle.std.proofs.lemmas.Bool.Decides.{nat_tests}
use Rattle.bedrock.specs.declared.words.Words.{Words}
use Rattle.bedrock.specs.declared.party.Party.{Party}
use Rattle.bedrock.specs.declared.party.Party.TheVariants.{Cache}
use Rattle.bedrock.specs.Geometries.{set_of}
use Rattle.protocols.specs.declared.state.State.{State}
use Rattle.protocols.specs.declared.state.State.TheVariants.{O, F}
use Rattle.protocols.specs.States.{held, dirty}
use Rattle.messages.specs.declared.command.Command.TheVariants.{SetTagData}
use Rattle.machine.specs.declared.holding.Way.{Way}
use Rattle.machine.specs.declared.holding.Entry.{Entry}
use Rattle.machine.specs.declared.transaction.Source.TheVariants.{Owner}
use Rattle.machine.specs.declared.transaction.Job.{Job}
use Rattle.machine.specs.Holdings.{way_in, entry_in}
use Rattle.machine.specs.Coherence.{Shows, Agrees}
use Rattle.machine.proofs.Updates.{update, update₂, update₃, update_each, update_both, update_here, update_there, update₃_here}
use Rattle.machine.proofs.Ghost.{Asked, Sent, Progress, at_stage, Mail, To, Mailbox, Pending, Idle, BlockAtMemory, Ghost}
use Rattle.machine.proofs.Mailboxes.{Role, Requestor, Giver, Bystander, role, NoCommand, InRole, GoodMailbox}
use Rattle.machine.proofs.Invariant.{AllApart, AtHome, OwnerLaw, GoodSource, GoodJob, GoodProgress, GoodWait, GoodPlace, is_reading, GoodCopy, GoodMail, DirtyCopy, DirtyOnTheWay, Newest, Invariant}
use Rattle.machine.proofs.StateFacts.{shows_owning, owning_held, held_entry, agrees_in, way_is, way_none}
use Rattle.machine.proofs.Frames.{Weaker, weaker_same, weaker_owner, shrinks, copies_after, newest_progress, not_sent, newest_way}
use Rattle.machine.proofs.BlockFrames.{pendings_after, newest_way_after, pending_ranges_after, latest_same}
use Rattle.machine.proofs.MailFacts.{requestor_is, requestor_role, requestor_at, job_range}
use Rattle.machine.proofs.StepMemoryRead.{sent_mailbox}
use Rattle.machine.proofs.StepWriteback.{coming_if, coming_no_read}

-- words are on their way to the memory if the owner was told to write back and its copy was dirty
abbrev pub coming_back : Bool → Bool → Words → Pending
coming_back true t ws = coming_if t ws
coming_back false t ws = Idle

-- the owner goes by its next state at way p
abbrev pub handed_mailbox : Mailbox → ℕ → State → ℕ → Mail → Mailbox
handed_mailbox x p keeps b m = record { known = update x.known p (entry_in keeps b); mail = m }

-- the owner's role
pub giver_is : (j : Job) (o p : ℕ) (shown keeps : State) (writeback : Bool) → j.source ≡ Owner o p shown keeps writeback → (o ≡ j.requestor → ⊥)
    → role j o ≡ Giver p shown keeps writeback
giver_is j o p shown keeps writeback m n = rw (ne_eqb o j.requestor n, m, eq-eqb o o refl) refl

-- the other caches do not tell Asked from Sent
sent_rest : (j : Job) (a : Role) (o p c : ℕ) (shown keeps : State) (writeback : Bool) (e : ℕ → Entry) (x : Mailbox)
    → j.source ≡ Owner o p shown keeps writeback → role j c ≡ a → (c ≡ j.requestor → ⊥) → (c ≡ o → ⊥)
    → InRole (at_stage Asked j) c e x a → InRole (at_stage Sent j) c e x a
sent_rest j Requestor o p c shown keeps writeback e x m r n i ok = absurd (n (requestor_is j c r))
sent_rest j (Giver q w k b) o p c shown keeps writeback e x m r n i ok = grind (arith, nat_tests)
sent_rest j Bystander o p c shown keeps writeback e x m r n i ok = ok

-- m is what the owner answers: nothing, or what it writes back
module _ (g : Ghost) (inv : Invariant g) (s : ℕ) (j : Job) (o p : ℕ) (shown keeps : State) (writeback : Bool) (m : Mail)
    (h : g.progress s ≡ Some (at_stage Asked j)) (src : j.source ≡ Owner o p shown keeps writeback) (answer : NoCommand m) where
  abbrev now : Progress
  now = at_stage Sent j

  abbrev v : Way
  v = way_in keeps j.block (g.way s o p).words

  abbrev owner_box : Mailbox
  owner_box = handed_mailbox (g.mailbox s o) p keeps j.block m

  abbrev requestor_box : Mailbox
  requestor_box = sent_mailbox j (g.mailbox s j.requestor) (g.way s o p).words (Cache o)

  abbrev after : ℕ → Mailbox
  after = update (update (g.mailbox s) o owner_box) j.requestor requestor_box

  abbrev k : BlockAtMemory
  k = record {
    memory = (g.at_memory j.block).memory;
    pending = coming_back writeback (dirty (g.way s o p).state) (g.way s o p).words;
    latest = (g.at_memory j.block).latest;
  }

  abbrev pub after_transfer : Ghost
  after_transfer = record {
    geometry = g.geometry;
    entry = g.entry;
    way = update₃ g.way s o p v;
    mailbox = update g.mailbox s after;
    progress = update g.progress s (Some now);
    waiter = g.waiter;
    at_memory = update g.at_memory j.block k;
  }

  pub transfer_keeps : Invariant after_transfer
  transfer_keeps = record {
    mailboxes = update_both (λ t z f. (c : ℕ) → GoodMailbox z c (g.entry t c) (f c)) g.progress g.mailbox s (Some now) after mailboxes_here
        (λ t _. inv.mailboxes t);
    jobs = update_each (λ t z. GoodProgress g.geometry t (g.entry t) z) g.progress s (Some now) ok (λ t _. inv.jobs t);
    entries_apart = inv.entries_apart;
    entries_home = inv.entries_home;
    blanks = inv.blanks;
    asks = inv.asks;
    ranges = inv.ranges;
    copies_apart = update_each (λ t z. AllApart (λ c. (z c).known)) g.mailbox s after
        (shrinks (λ c. (g.mailbox s c).known) (λ c. (after c).known) weak (inv.copies_apart s)) (λ t _. inv.copies_apart t);
    copies_home = update_each (λ t z. (c w : ℕ) → AtHome g.geometry t c w ((z c).known w)) g.mailbox s after
        (λ c w q. let a = weak c w in let u = inv.copies_home s c w (a.had q) in (
          ap (set_of g.geometry) (sym (a.same q)) ∙ u.0,
          u.1,
          u.2,
          subst (λ b. b < g.geometry.blocks) (a.same q) u.3,
        )) (λ t _. inv.copies_home t);
    places = update_each (λ t z. (c : ℕ) → GoodPlace (z c) (g.waiter c)) g.mailbox s after
        (λ c q e w hd bl. let a = weak c w in let u = inv.places s c q e w (a.had hd) (a.same hd ∙ bl) in
        (u.0, u.1, a.reads_only hd u.2)) (λ t _. inv.places t);
    agrees = update_both (λ t z f. (c w : ℕ) → Agrees ((z c).known w) (f c w)) g.mailbox g.way s after (update₂ (g.way s) o p v)
        (λ c w. rw (known_is c w) (agrees_here c w)) (λ t _. inv.agrees t);
    waits = update_each (λ t z. (c : ℕ) → GoodWait g.geometry t z c (g.waiter c)) g.progress s (Some now) (λ c. rw h at (inv.waits s c))
        (λ t _. inv.waits t);
    pendings = pendings_after g inv s j.block now k
        ok.here (back_no_read writeback (dirty (g.way s o p).state)) (λ i n q. (rw (q, h) at (inv.pendings i)).1 n);
    pending_ranges = pending_ranges_after g inv j.block k (inr (job_range g inv s j Asked h).2);
    copies = copies_after g (update g.at_memory j.block k) s o p v (copy_here (held keeps) refl)
        (λ t c w _ q. inv.copies t c w q ∙ sym (same (g.way t c w).block));
    mails = update_each (λ t z. (c : ℕ) → GoodMail (update g.at_memory j.block k) (z c).mail) g.mailbox s after
        (update_each (λ c z. GoodMail (update g.at_memory j.block k) z.mail) (update (g.mailbox s) o owner_box) j.requestor requestor_box
        (λ d b w st ws sender q. let e : (g.way s o p).words ≡ ws = cc in let i : j.block ≡ b = cc in sym e ∙ latest
        ∙ ap (λ z. (g.at_memory z).latest) i ∙ sym (same b))
        (λ c _. update_each (λ c z. GoodMail (update g.at_memory j.block k) z.mail) (g.mailbox s) o owner_box
        (λ d b w st ws sender q. absurd (no_data_back d b w st ws sender q))
        (λ c _ d b w st ws sender q. inv.mails s c d b w st ws sender q ∙ sym (same b)) c))
        (λ t _ c d b w st ws sender q. inv.mails t c d b w st ws sender q ∙ sym (same b));
    newest = newest_way_after g inv s j.block now k ok.here (λ i _. no_dirty_sent i) o p v (λ _. at)
        (newest_here writeback refl (dirty (g.way s o p).state) refl);
  }
    where
      ok : GoodJob g.geometry s (g.entry s) j
      ok = rw h at (inv.jobs s)

      law : OwnerLaw j o p shown keeps writeback
      law = subst (GoodSource j (g.entry s)) src ok.source

      me : InRole (at_stage Asked j) j.requestor (g.entry s j.requestor) (g.mailbox s j.requestor) Requestor
      me = requestor_at g inv s j Asked h

      it : InRole (at_stage Asked j) o (g.entry s o) (g.mailbox s o) (Giver p shown keeps writeback)
      it = rw (giver_is j o p shown keeps writeback src law.other) at (rw h at (inv.mailboxes s o))

      gave : InRole now o (g.entry s o) owner_box (Giver p shown keeps writeback)
      gave = (
        it.0,
        (λ w n. it.1 w n ∙ sym (update_there (g.mailbox s o).known p (entry_in keeps j.block) w n)),
        (it.0 ∙ sym (update_here (g.mailbox s o).known p (entry_in keeps j.block)), answer),
      )

      mailboxes_here : (c : ℕ) → InRole now c (g.entry s c) (after c) (role j c)
      mailboxes_here = update_each (λ c z. InRole now c (g.entry s c) z (role j c)) (update (g.mailbox s) o owner_box) j.requestor requestor_box
          (rw (requestor_role j) (me.0, me.1, (me.2.0, record { words = (g.way s o p).words; sender = Cache o; out = refl })))
          (λ c n. update_each (λ d z. (d ≡ j.requestor → ⊥) → InRole now d (g.entry s d) z (role j d)) (g.mailbox s) o owner_box
          (λ _. rw (giver_is j o p shown keeps writeback src law.other) gave)
          (λ d i q. sent_rest j (role j d) o p d shown keeps writeback (g.entry s d) (g.mailbox s d) src refl q i
          (rw h at (inv.mailboxes s d))) c n)

      known_is : (c w : ℕ) → (after c).known w ≡ (update (g.mailbox s) o owner_box c).known w
      known_is = update_each (λ c z. (w : ℕ) → z.known w ≡ (update (g.mailbox s) o owner_box c).known w) (update (g.mailbox s) o owner_box)
          j.requestor requestor_box
          (λ w. ap (λ z. z.known w) (sym (update_there (g.mailbox s) o owner_box j.requestor (λ e. law.other (sym e))))) (λ c _ w. refl)

      shown_is : (g.mailbox s o).known p ≡ entry_in shown j.block
      shown_is = it.2.0

      weak : (c w : ℕ) → Weaker ((after c).known w) ((g.mailbox s c).known w)
      weak c w = rw (known_is c w) (update_each (λ c z. (w : ℕ) → Weaker (z.known w) ((g.mailbox s c).known w)) (g.mailbox s) o owner_box
          (update_each (λ w z. Weaker z ((g.mailbox s o).known w)) (g.mailbox s o).known p
          (entry_in keeps j.block) (rw shown_is
          (weaker_owner shown keeps j.block law.owned law.lets_go)) (λ w _. weaker_same ((g.mailbox s o).known w)))
          (λ c _ w. weaker_same ((g.mailbox s c).known w)) c w)

      agrees_here : (c w : ℕ) → Agrees ((update (g.mailbox s) o owner_box c).known w) (update₂ (g.way s) o p v c w)
      agrees_here = update_both (λ c z f. (w : ℕ) → Agrees (z.known w) (f w)) (g.mailbox s) (g.way s) o owner_box (update (g.way s o) p v)
          (update_both (λ w a b. Agrees a b) (g.mailbox s o).known (g.way s o) p (entry_in keeps j.block) v
          (agrees_in keeps j.block (g.way s o p).words) (λ w _. inv.agrees s o w))
          (λ c _. inv.agrees s c)

      back_no_read : (a t : Bool) → is_reading (coming_back a t (g.way s o p).words) ≡ false
      back_no_read true t = coming_no_read t (g.way s o p).words
      back_no_read false t = refl

      same : (i : ℕ) → (update g.at_memory j.block k i).latest ≡ (g.at_memory i).latest
      same = latest_same g.at_memory j.block k refl

      had : ((entry_in shown j.block).state ≡ shown) × ((entry_in shown j.block).block ≡ j.block)
      had = held_entry shown j.block (owning_held shown law.owned)

      at : (g.way s o p).block ≡ j.block
      at = sym (inv.agrees s o p).block ∙ ap (λ z. z.block) shown_is ∙ had.1

      latest : (g.way s o p).words ≡ (g.at_memory j.block).latest
      latest = inv.copies s o p
          (shows_owning ((g.mailbox s o).known p).state (g.way s o p).state (inv.agrees s o p).state (rw (shown_is, had.0) law.owned))
          ∙ ap (λ i. (g.at_memory i).latest) at

      copy_here : (t : Bool) → held keeps ≡ t → GoodCopy (update g.at_memory j.block k) v
      copy_here true i q = let wi = way_is keeps j.block (g.way s o p).words i in rw (wi.1, wi.2) (latest ∙ sym (same j.block))
      copy_here false i q = absurd (false≢true (sym (way_none keeps j.block (g.way s o p).words i) ∙ q))

      no_data_back : (d b w : ℕ) (st : State) (ws : Words) (sender : Party) → m ≡ To (SetTagData d b w st ws sender) → ⊥
      no_data_back d b w st ws sender q = grind arith

      no_dirty_sent : (i : ℕ) → DirtyOnTheWay (g.progress s) i → ⊥
      no_dirty_sent i = rw h (not_sent j Asked i (λ e. grind arith))

      moved : (i : ℕ) → set_of g.geometry i ≡ s → Newest (g.way s) (Some now) i (g.at_memory i)
      moved i q = newest_progress (g.way s) (g.progress s) (Some now) i (g.at_memory i) (no_dirty_sent i) (rw q at (inv.newest i))

      idle : (g.at_memory j.block).pending ≡ Idle
      idle = rw src at ((rw (ok.here, h) at (inv.pendings j.block)).0 refl)

      still_newest : dirty (g.way s o p).state ≡ false → Newest (update₃ g.way s o p v s) (Some now) j.block
          (record { memory = (g.at_memory j.block).memory; pending = Idle; latest = (g.at_memory j.block).latest })
      still_newest i = newest_way g.way s o p v s (Some now)
          j.block (record { memory = (g.at_memory j.block).memory; pending = Idle; latest = (g.at_memory j.block).latest })
          (elim (moved j.block ok.here) [ inl q ↦ inl (rw idle at q) | inr q ↦ inr q ]) (λ _ z _. absurd (false≢true (sym i ∙ z)))

      shows : Shows shown (g.way s o p).state
      shows = rw (shown_is, had.0) at (inv.agrees s o p).state

      not_F : shown ≡ F → dirty (g.way s o p).state ≡ true → ⊥
      not_F q i = let z : (g.way s o p).state ≡ F = rw q at shows in false≢true (rw z at i)

      still_owner : keeps ≡ O → DirtyCopy (update₃ g.way s o p v s) j.block
      still_owner u = let wi = way_is keeps j.block (g.way s o p).words (rw u refl) in
          record { cache = o; way = p; state = rw (update₃_here g.way s o p v, wi.0, u) refl; block = rw (update₃_here g.way s o p v) wi.1 }

      newest_here : (a : Bool) → writeback ≡ a → (t : Bool) → dirty (g.way s o p).state ≡ t → Newest (update₃ g.way s o p v s) (Some now)
          j.block
          (record {
            memory = (g.at_memory j.block).memory;
            pending = coming_back a t (g.way s o p).words;
            latest = (g.at_memory j.block).latest;
          })
      newest_here true e true i = inl latest
      newest_here true e false i = still_newest i
      newest_here false e true i = elim law.covered [
        | inl q ↦ absurd (not_F q i)
        | inr q ↦ elim q [
          | inl z ↦ absurd (false≢true (sym e ∙ z))
          | inr z ↦ elim z
              [ inl u ↦ inr (inl (still_owner u)) | inr u ↦ inr (inr (record { job = j; sent = refl; state = u; block = refl })) ]
        ]
      ]
      newest_here false e false i = still_newest i
