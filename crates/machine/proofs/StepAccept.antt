-- A request that is accepted keeps the invariant: its job, the final entries and the mail of round one.
use Rattle.std.proofs.Common.{◌≡◌, ℕ, ◌<◌, Bool, true, false, cond, ◌&&◌, eqb, ◌⊎◌, Some, None, MatchBool, Option, sym, refl, ap, ◌∙◌, subst, ap₂, inl, inr, arith}
use Rattle.std.proofs.lemmas.Bool.{false≢true, cases_eq, eq-eqb, ne_eqb}
use Rattle.bedrock.specs.declared.words.Words.{Words}
use Rattle.bedrock.specs.declared.party.Party.{Party}
use Rattle.bedrock.specs.Geometries.{set_of}
use Rattle.protocols.specs.declared.state.State.{State}
use Rattle.protocols.specs.declared.state.State.TheVariants.{S}
use Rattle.protocols.specs.States.{held, owning}
use Rattle.messages.specs.declared.command.Command.TheVariants.{SetTagData}
use Rattle.machine.specs.declared.holding.Entry.{Entry}
use Rattle.machine.specs.declared.order.Order.{Order}
use Rattle.machine.specs.declared.transaction.Source.{Source}
use Rattle.machine.specs.declared.transaction.Source.TheVariants.{Memory, OwnCopy, Owner}
use Rattle.machine.specs.declared.transaction.Job.{Job}
use Rattle.machine.specs.Holdings.{no_entry, entry_in, block_of, is_write}
use Rattle.machine.specs.Directory.{sharing}
use Rattle.machine.specs.Acceptance.{dismissed}
use Rattle.machine.specs.Coherence.{Agrees}
use Rattle.machine.proofs.Updates.{update, update_each, update₂_each, update_both, update_here, update_there, update₂_here, update₂_there}
use Rattle.machine.proofs.Ghost.{Stage, Evicting, Clearing, Progress, at_stage, Mail, Nothing, To, Mailbox, Waiter, Pending, Idle, Ghost}
use Rattle.machine.proofs.Mailboxes.{Role, Requestor, Giver, Bystander, role, SameEntries, NoCommand, AsRequestor, AsGiver, Dismissed, AsBystander, InRole, GoodMailbox}
use Rattle.machine.proofs.Invariant.{AllApart, AtHome, Blank, GoodSource, GoodJob, GoodProgress, unfilled, serves, Served, Asks, GoodWait, InRange, GoodPlace, PendingAt, GoodPending, GoodMail, DirtyOnTheWay, Newest, Invariant}
use Rattle.machine.proofs.StateFacts.{owning_held, read_only_held, held_entry}
use Rattle.machine.proofs.Frames.{newest_progress}
use Rattle.machine.proofs.MailFacts.{requestor_is}
use Rattle.machine.proofs.AcceptPlan.{OwnerPlan, PlannedSource, Plan, hand_over, cleared, handed, settle, handed_weaker, settled_apart, settled_blank}
use Rattle.machine.proofs.AcceptEntries.{NotOwner, hand_there, untouched, giver_source, bystander_not, Dismisses, Leaves}

-- The set has no transaction. The plan is lawful, the stage is one of round one, the requestor waits with an order of the job, and
-- mail is what goes out: to the requestor what empties its way, to each sharer of a block that is written an Invalidate.
module _ (g : Ghost) (inv : Invariant g) (s : ℕ) (j : Job) (st : Stage) (mail : ℕ → Mail)
    (idle : g.progress s ≡ None) (plan : Plan g.geometry s (g.entry s) j)
    (round_one_holds : (st ≡ Evicting) ⊎ (st ≡ Clearing))
    (served : Served j (record { kept = (g.waiter j.requestor).kept; request = None }))
    (mine : (e : ℕ → Entry) → AsRequestor st j e (record { known = (g.mailbox s j.requestor).known; mail = mail j.requestor }))
    (first : (c : ℕ) → (c ≡ j.requestor → ⊥) → Dismisses (g.entry s) j c (mail c) ⊎ Leaves (g.entry s) j c (mail c))
    (pendings : (b : ℕ) → set_of g.geometry b ≡ s → (g.at_memory b).pending ≡ Idle)
    (room : (j.requestor < g.geometry.caches) × (j.way < g.geometry.ways) × (j.block < g.geometry.blocks)) where
  abbrev now : Progress
  now = at_stage st j

  abbrev f : ℕ → ℕ → Entry
  f = g.entry s

  abbrev mailboxes_now : ℕ → Mailbox
  mailboxes_now c = record { known = (g.mailbox s c).known; mail = mail c }

  abbrev waiter_now : Waiter
  waiter_now = record { kept = (g.waiter j.requestor).kept; request = None }

  abbrev pub after_accept : Ghost
  after_accept = record {
    geometry = g.geometry;
    entry = update g.entry s (settle j f);
    way = g.way;
    mailbox = update g.mailbox s mailboxes_now;
    progress = update g.progress s (Some now);
    waiter = update g.waiter j.requestor waiter_now;
    at_memory = g.at_memory;
  }

  -- the caches know all entries
  same : (c x : ℕ) → f c x ≡ (g.mailbox s c).known x
  same c x = (rw idle at (inv.mailboxes s c)).0 x

  -- a cache shows a block once
  once : (c x y : ℕ) → (x ≡ y → ⊥) → held (f c x).state ≡ true → held (f c y).state ≡ true → (f c x).block ≡ (f c y).block → ⊥
  once c x y n h k b = (inv.entries_apart s c x c y (λ _ e. n e) h k b).0 refl

  held_S : (e : Entry) → e.state ≡ S → held e.state ≡ true
  held_S e i = rw i refl

  -- the requestor shows the block nowhere else
  own_once : (x : ℕ) → (x ≡ j.way → ⊥) → held (f j.requestor x).state ≡ true → (f j.requestor x).block ≡ j.block → ⊥
  own_once x n h b = go j.upgrade refl
    where
      go : (t : Bool) → j.upgrade ≡ t → ⊥
      go false u = plan.not_shown u x h b
      go true u = let k = plan.copy u in
          once j.requestor x j.way n h (read_only_held (f j.requestor j.way).state k.1) (b ∙ sym k.0)

  own_not : (z : Source) → PlannedSource f j z → (x : ℕ) → NotOwner z j.requestor x
  own_not Memory p x = tt
  own_not OwnCopy p x = tt
  own_not (Owner o q shown keeps writeback) p x = λ e _. p.other (sym e)

  requestor_good : (c : ℕ) → c ≡ j.requestor → InRole now c (settle j f c) (mailboxes_now c) Requestor
  requestor_good c i = rw i (
    update₂_here (handed j f) j.requestor j.way (entry_in j.next j.block),
    (λ x n. untouched j f j.requestor x (λ _ e. n e) (own_not j.source plan.source x)
        (λ _ u b. own_once x n (held_S (f j.requestor x) u) b) ∙ same j.requestor x),
    mine (settle j f j.requestor),
  )

  giver_good : (c p : ℕ) (shown keeps : State) (writeback : Bool) → role j c ≡ Giver p shown keeps writeback
      → InRole now c (settle j f c) (mailboxes_now c) (Giver p shown keeps writeback)
  giver_good c p shown keeps writeback r = (
    update₂_there (handed j f) j.requestor j.way (entry_in j.next j.block) c p (λ e _. op.other e)
        ∙ ap (λ z. hand_over z j.block (cleared j f) c p) src ∙ update₂_here (cleared j f) c p (entry_in keeps j.block),
    (λ x n. untouched j f c x (λ e _. op.other e) (subst (λ z. NotOwner z c x) (sym src) (λ _ e. n e))
        (λ _ u b. once c x p n (held_S (f c x) u) heldp (b ∙ sym blockp)) ∙ same c x),
    both round_one_holds (sym (same c p) ∙ op.at) no_mail,
  )
    where
      src : j.source ≡ Owner c p shown keeps writeback
      src = giver_source j c p shown keeps writeback r

      op : OwnerPlan f j c p shown keeps writeback
      op = subst (PlannedSource f j) src plan.source

      en : ((entry_in shown j.block).state ≡ shown) × ((entry_in shown j.block).block ≡ j.block)
      en = held_entry shown j.block (owning_held shown op.owned)

      heldp : held (f c p).state ≡ true
      heldp = rw (op.at, en.0) (owning_held shown op.owned)

      blockp : (f c p).block ≡ j.block
      blockp = rw op.at en.1

      no_mail : mail c ≡ Nothing
      no_mail = elim (first c (λ e. op.other e)) [ inr l ↦ l.none | inl q ↦ absurd (twice q (cases_eq q.place p)) ]
        where
          twice : (q : Dismisses f j c (mail c)) → (q.place ≡ p) ⊎ (q.place ≡ p → ⊥) → ⊥
          twice q (inl e) = let z : entry_in S j.block ≡ entry_in shown j.block = sym q.shown ∙ ap (f c) e ∙ op.at in
              false≢true (ap (λ y. owning y.state) z ∙ rw en.0 op.owned)
          twice q (inr n) = once c q.place p n (rw q.shown refl) heldp (rw q.shown (sym blockp))

      both : (st ≡ Evicting) ⊎ (st ≡ Clearing) → (g.mailbox s c).known p ≡ entry_in shown j.block → mail c ≡ Nothing
          → AsGiver st j c p shown keeps writeback (settle j f c) (mailboxes_now c)
      both (inl q) a b = rw q (a, b)
      both (inr q) a b = rw q (a, b)

  bystander_good : (c : ℕ) → role j c ≡ Bystander → InRole now c (settle j f c) (mailboxes_now c) Bystander
  bystander_good c r = both round_one_holds (elim (first c nb.0) [
    | inl q ↦ inr (record {
      place = q.place;
      writing = q.writing;
      shown = sym (same c q.place) ∙ q.shown;
      final = gone q;
      rest = λ x n. untouched j f c x (λ e _. nb.0 e) (nb.1 x)
          (λ _ u b. once c x q.place n (held_S (f c x) u) (rw q.shown refl) (rw q.shown b)) ∙ same c x;
      out = q.out;
    })
    | inr l ↦ inl ((λ x. untouched j f c x (λ e _. nb.0 e) (nb.1 x) (λ w. l.not_shared w x) ∙ same c x), inl l.none)
  ])
    where
      nb : (c ≡ j.requestor → ⊥) × ((x : ℕ) → NotOwner j.source c x)
      nb = bystander_not j c r

      gone : (q : Dismisses f j c (mail c)) → settle j f c q.place ≡ no_entry
      gone q = update₂_there (handed j f) j.requestor j.way (entry_in j.next j.block) c q.place (λ e _. nb.0 e)
          ∙ hand_there j.source j.block (cleared j f) c q.place (nb.1 q.place)
          ∙ ap₂ (λ t e. dismissed t j.block e) q.writing q.shown ∙ rw (eq-eqb j.block j.block refl) refl

      both : (st ≡ Evicting) ⊎ (st ≡ Clearing)
          → (SameEntries (settle j f c) (mailboxes_now c) × NoCommand (mail c)) ⊎ Dismissed (settle j f c) (mailboxes_now c) j c
          → AsBystander st j c (settle j f c) (mailboxes_now c)
      both (inl q) a = rw q a
      both (inr q) a = rw q a

  mailbox_good : (c : ℕ) (a : Role) → role j c ≡ a → InRole now c (settle j f c) (mailboxes_now c) a
  mailbox_good c Requestor r = requestor_good c (requestor_is j c r)
  mailbox_good c (Giver p shown keeps writeback) r = giver_good c p shown keeps writeback r
  mailbox_good c Bystander r = bystander_good c r

  job_good : GoodJob g.geometry s (settle j f) j
  job_good = record {
    here = plan.here;
    gets = plan.gets;
    writes = plan.writes;
    upgrades = plan.upgrades;
    source = go j.source refl plan.source;
  }
    where
      dismissed_held : (t : Bool) (b : ℕ) (e : Entry) → held (dismissed t b e).state ≡ true → dismissed t b e ≡ e
      dismissed_held false b e h = refl
      dismissed_held true b e h = at (sharing e.state && eqb e.block b) h
        where
          at : (t : Bool) → held (cond t no_entry e).state ≡ true → cond t no_entry e ≡ e
          at true h = absurd (false≢true h)
          at false h = refl

      go : (z : Source) → j.source ≡ z → PlannedSource f j z → GoodSource j (settle j f) z
      go Memory i p = (
        p.0,
        λ c w n h b.
            let e : settle j f c w ≡ dismissed (is_write j.access) j.block (f c w) = update₂_there (handed j f)
            j.requestor j.way (entry_in j.next j.block) c w (λ q _. n q) ∙ ap (λ z. hand_over z j.block (cleared j f) c w) i in
            let d : settle j f c w ≡ f c w = e ∙ dismissed_held (is_write j.access) j.block (f c w) (rw e at h) in
            ap (λ y. y.state) d ∙ p.1 c w n (subst (λ y. held y.state ≡ true) d h) (subst (λ y. y.block ≡ j.block) d b),
      )
      go OwnCopy i p = p.0
      go (Owner o q shown keeps writeback) i p = record { other = p.other; owned = p.owned; lets_go = p.lets_go; covered = p.covered }

  pub accept_keeps : Invariant after_accept
  accept_keeps = record {
    mailboxes = update_each (λ t e. (c : ℕ) → GoodMailbox (update g.progress s (Some now) t) c (e c) (update g.mailbox s mailboxes_now t c))
        g.entry s (settle j f)
        (rw (update_here g.progress s (Some now), update_here g.mailbox s mailboxes_now) (λ c. mailbox_good c (role j c) refl))
        (λ t n. rw (update_there g.progress s (Some now) t n, update_there g.mailbox s mailboxes_now t n) (inv.mailboxes t));
    jobs = update_both (λ t e z. GoodProgress g.geometry t e z) g.entry g.progress s (settle j f) (Some now) job_good (λ t _. inv.jobs t);
    entries_apart = update_each (λ t e. AllApart e) g.entry s (settle j f) (settled_apart g.geometry s f j plan (inv.entries_apart s))
        (λ t _. inv.entries_apart t);
    entries_home = update_each (λ t e. (c w : ℕ) → AtHome g.geometry t c w (e c w)) g.entry s (settle j f) home_here (λ t _. inv.entries_home t);
    copies_apart = update_each (λ t z. AllApart (λ c. (z c).known)) g.mailbox s mailboxes_now (inv.copies_apart s) (λ t _. inv.copies_apart t);
    blanks = update_each (λ t e. (c w : ℕ) → Blank (e c w)) g.entry s (settle j f) (settled_blank j f (inv.blanks s)) (λ t _. inv.blanks t);
    copies_home = update_each (λ t z. (c w : ℕ) → AtHome g.geometry t c w ((z c).known w)) g.mailbox s mailboxes_now (inv.copies_home s)
        (λ t _. inv.copies_home t);
    agrees = update_each (λ t z. (c w : ℕ) → Agrees ((z c).known w) (g.way t c w)) g.mailbox s mailboxes_now (inv.agrees s) (λ t _. inv.agrees t);
    places = λ t. update_each (λ c z. GoodPlace (update g.mailbox s mailboxes_now t c) z) g.waiter j.requestor waiter_now (λ q e. grind arith)
        (λ c _. update_each (λ t z. GoodPlace (z c) (g.waiter c)) g.mailbox s mailboxes_now (inv.places s c) (λ t _. inv.places t c) t);
    asks = update_each (λ c z. z.kept ≡ None → z.request ≡ None) g.waiter j.requestor waiter_now (λ _. refl) (λ c _. inv.asks c);
    ranges = update_each (λ c z. InRange g.geometry c z) g.waiter j.requestor waiter_now (λ q e. grind arith) (λ c _. inv.ranges c);
    waits = update_each (λ t z. (c : ℕ) → GoodWait g.geometry t z c (update g.waiter j.requestor waiter_now c)) g.progress s (Some now)
        (update_each (λ c z. GoodWait g.geometry s (Some now) c z) g.waiter j.requestor waiter_now
        (rw (starts, eq-eqb j.requestor j.requestor refl) served)
        (λ c n. rw (starts, ne_eqb c j.requestor n) (rw idle at (inv.waits s c))))
        (λ t n. update_each (λ c z. GoodWait g.geometry t (g.progress t) c z) g.waiter j.requestor waiter_now
        (elsewhere t n (g.progress t) (inv.waits t j.requestor)) (λ c _. inv.waits t c));
    pendings = λ b. update_each (λ t z. set_of g.geometry b ≡ t → GoodPending z b (g.at_memory b).pending) g.progress s (Some now)
        (λ e. idle_pending b (g.at_memory b).pending (pendings b e)) (λ t _ e. rw (← e) (inv.pendings b)) (set_of g.geometry b) refl;
    pending_ranges = inv.pending_ranges;
    copies = inv.copies;
    mails = update_each (λ t z. (c : ℕ) → GoodMail g.at_memory (z c).mail) g.mailbox s mailboxes_now
        (λ c d b w a us sender q. absurd (no_data_yet c d b w a us sender q (cases_eq c j.requestor))) (λ t _. inv.mails t);
    newest = λ b. update_each (λ t z. set_of g.geometry b ≡ t → Newest (g.way t) z b (g.at_memory b)) g.progress s (Some now)
        (λ e. newest_progress (g.way s) (g.progress s) (Some now) b (g.at_memory b) (rw idle none_sent) (rw e at (inv.newest b)))
        (λ t _ e. rw (← e) (inv.newest b)) (set_of g.geometry b) refl;
  }
    where
      idle_pending : (b : ℕ) (p : Pending) → p ≡ Idle → PendingAt st j b p
      idle_pending b p e = elim round_one_holds [ inl q ↦ rw q e | inr q ↦ rw q (rw e refl, λ _. e) ]

      none_sent : {b : ℕ} → DirtyOnTheWay None b → ⊥
      none_sent q = grind arith

      starts : unfilled st ≡ true
      starts = elim round_one_holds [ inl q ↦ rw q refl | inr q ↦ rw q refl ]

      home_here : (c w : ℕ) → AtHome g.geometry s c w (settle j f c w)
      home_here = update₂_each (λ c w e. AtHome g.geometry s c w e) (handed j f) j.requestor j.way (entry_in j.next j.block)
          (λ _. let en = (held_entry j.next j.block plan.gets).1 in
          (ap (set_of g.geometry) en ∙ plan.here, room.0, room.1, subst (λ b. b < g.geometry.blocks) (sym en) room.2))
          (λ c w _ h. let a = handed_weaker j f j.source plan.source c w in let o = inv.entries_home s c w (a.had h) in
          (ap (set_of g.geometry) (sym (a.same h)) ∙ o.0, o.1, o.2, subst (λ b. b < g.geometry.blocks) (a.same h) o.3))

      -- the order that is served is about this set
      away : (t : ℕ) → (t ≡ s → ⊥) → (o : Order) → waiter_now.kept ≡ Some o → set_of g.geometry (block_of o) ≡ t → ⊥
      away t n o e b = let i : o ≡ served.order = cc (e, served.kept) in
          n (sym b ∙ ap (λ k. set_of g.geometry (block_of k)) i ∙ ap (set_of g.geometry) served.block ∙ plan.here)

      elsewhere : (t : ℕ) → (t ≡ s → ⊥) → (z : Option Progress) → GoodWait g.geometry t z j.requestor (g.waiter j.requestor)
          → GoodWait g.geometry t z j.requestor waiter_now
      elsewhere t n None q = λ o e b. absurd (away t n o e b)
      elsewhere t n (Some z) q = at (serves (Some z) j.requestor) q
        where
          at : (b : Bool) → MatchBool b (Served z.job (g.waiter j.requestor))
              ((o : Order) → (g.waiter j.requestor).kept ≡ Some o → set_of g.geometry (block_of o) ≡ t
              → Asks j.requestor (g.waiter j.requestor) o)
              → MatchBool b (Served z.job waiter_now)
              ((o : Order) → waiter_now.kept ≡ Some o → set_of g.geometry (block_of o) ≡ t → Asks j.requestor waiter_now o)
          at true u = record { order = u.order; kept = u.kept; block = u.block; access = u.access; no_request = refl }
          at false u = λ o e b. absurd (away t n o e b)

      no_data_yet : (c d b w : ℕ) (a : State) (us : Words) (sender : Party) → mail c ≡ To (SetTagData d b w a us sender)
          → (c ≡ j.requestor) ⊎ (c ≡ j.requestor → ⊥) → ⊥
      no_data_yet c d b w a us sender q (inl i) = own round_one_holds (mine (λ _. no_entry)) (rw i at q)
        where
          own : (st ≡ Evicting) ⊎ (st ≡ Clearing)
              → AsRequestor st j (λ _. no_entry) (record { known = (g.mailbox s j.requestor).known; mail = mail j.requestor })
              → mail j.requestor ≡ To (SetTagData d b w a us sender) → ⊥
          own (inl z) k m = let l = rw z at k in let o = l.out in grind arith
          own (inr z) k m = elim (rw z at k)
              [ inl l ↦ elim l.1 [ inl o ↦ grind arith | inr o ↦ grind arith ] | inr l ↦ let o = l.out in grind arith ]
      no_data_yet c d b w a us sender q (inr n) = elim (first c n) [ inl l ↦ let o = l.out in grind arith | inr l ↦ let o = l.none in grind arith ]
