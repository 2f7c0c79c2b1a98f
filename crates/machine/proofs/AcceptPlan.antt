-- What accepting a request decides, and the entries that it leaves: they exclude one another, and those in I show zeros.
use Rattle.std.proofs.Common.{◌≡◌, ℕ, ◌<◌, Bool, true, false, cond, ◌&&◌, eqb, ◌⊎◌, sym, refl, ap, ◌∙◌, inl, inr}
use Rattle.std.proofs.lemmas.Bool.{false≢true, eq-eqb}
use Rattle.bedrock.specs.Geometries.{Sizes, set_of}
use Rattle.protocols.specs.declared.state.State.{State}
use Rattle.protocols.specs.declared.state.State.TheVariants.{S, M, O, F}
use Rattle.protocols.specs.States.{held, owning, writable, dirty}
use Rattle.machine.specs.declared.holding.Entry.{Entry}
use Rattle.machine.specs.declared.transaction.Source.{Source}
use Rattle.machine.specs.declared.transaction.Source.TheVariants.{Memory, OwnCopy, Owner}
use Rattle.machine.specs.declared.transaction.Job.{Job}
use Rattle.machine.specs.Holdings.{no_entry, entry_in, is_write}
use Rattle.machine.specs.Directory.{sharing}
use Rattle.machine.specs.Acceptance.{dismissed, handed_over, settled}
use Rattle.machine.proofs.Updates.{update₂, update₂_each, put₂_is}
use Rattle.machine.proofs.Mailboxes.{read_only}
use Rattle.machine.proofs.Invariant.{go_together, Apart, AllApart, Blank}
use Rattle.machine.proofs.StateFacts.{owning_held, read_only_held, writable_alone, beside_owner, read_only_S, together_sym, held_entry, entry_held, entry_blank}
use Rattle.machine.proofs.Frames.{Weaker, weaker_same, weaker_none, weaker_owner, shrinks}

-- every other cache that shows the block shows S
abbrev pub OthersShare : (ℕ → ℕ → Entry) → Job → Type 0
OthersShare f j = (c x : ℕ) → (c ≡ j.requestor → ⊥) → held (f c x).state ≡ true → (f c x).block ≡ j.block → (f c x).state ≡ S

-- beside another cache that shows the block, a Read gets a read-only copy
abbrev pub GetsReadOnly : (ℕ → ℕ → Entry) → Job → Type 0
GetsReadOnly f j = (c x : ℕ) → (c ≡ j.requestor → ⊥) → held (f c x).state ≡ true → (f c x).block ≡ j.block
    → is_write j.access ≡ false → read_only j.next ≡ true

-- another owner hands over: at way p it shows the block; it keeps nothing to store into; no dirty words are lost; what both
-- then have goes together; and a Read that gets more than a read-only copy gets it from an owner in E or M
pub record OwnerPlan (f : ℕ → ℕ → Entry) (j : Job) (o p : ℕ) (shown keeps : State) (writeback : Bool) : Type 0 where
  pub other : o ≡ j.requestor → ⊥
  pub owned : owning shown ≡ true
  pub at : f o p ≡ entry_in shown j.block
  pub lets_go : writable keeps ≡ false
  pub covered : (shown ≡ F) ⊎ ((writeback ≡ true) ⊎ ((keeps ≡ O) ⊎ (dirty j.next ≡ true)))
  pub pair : held keeps ≡ true → go_together j.next keeps ≡ true
  pub sole : is_write j.access ≡ false → (read_only j.next ≡ true) ⊎ (writable shown ≡ true)

-- where the words come from, and what makes that right
abbrev pub PlannedSource : (ℕ → ℕ → Entry) → Job → Source → Type 0
PlannedSource f j Memory = (j.upgrade ≡ false) × OthersShare f j × GetsReadOnly f j
PlannedSource f j OwnCopy = (j.upgrade ≡ true) × OthersShare f j
PlannedSource f j (Owner o p shown keeps writeback) = OwnerPlan f j o p shown keeps writeback

-- what is decided about a job of set s, where the set's entries are f
pub record Plan (n : Sizes) (s : ℕ) (f : ℕ → ℕ → Entry) (j : Job) : Type 0 where
  pub here : set_of n j.block ≡ s
  pub gets : held j.next ≡ true
  pub writes : is_write j.access ≡ true → j.next ≡ M
  pub upgrades : j.upgrade ≡ true → is_write j.access ≡ true
  pub copy : j.upgrade ≡ true → ((f j.requestor j.way).block ≡ j.block) × (read_only (f j.requestor j.way).state ≡ true)
  pub not_shown : j.upgrade ≡ false → (x : ℕ) → held (f j.requestor x).state ≡ true → (f j.requestor x).block ≡ j.block → ⊥
  pub source : PlannedSource f j j.source

-- a sharer shows the block no more
dismissed_weaker : (t : Bool) (b : ℕ) (e : Entry) → Weaker (dismissed t b e) e
dismissed_weaker false b e = weaker_same e
dismissed_weaker true b e = go (sharing e.state && eqb e.block b)
  where
    go : (t : Bool) → Weaker (cond t no_entry e) e
    go true = weaker_none e
    go false = weaker_same e

-- of a write, no S of the block stays
dismissed_not : (b : ℕ) (e : Entry) → held (dismissed true b e).state ≡ true → e.block ≡ b → e.state ≡ S → ⊥
dismissed_not b e h bl st = go (sharing e.state && eqb e.block b) refl h
  where
    go : (t : Bool) → (sharing e.state && eqb e.block b) ≡ t → held (cond t no_entry e).state ≡ true → ⊥
    go true i q = false≢true q
    go false i q = false≢true (sym i ∙ rw (st, eq-eqb e.block b bl) refl)

-- The final entries of a set without the guards of its tables: another owner shows its next state, and then the requestor's way
-- shows the block.
abbrev pub hand_over : Source → ℕ → (ℕ → ℕ → Entry) → ℕ → ℕ → Entry
hand_over Memory b f = f
hand_over OwnCopy b f = f
hand_over (Owner o p shown keeps writeback) b f = update₂ f o p (entry_in keeps b)

-- sharers of a block that is written are gone
abbrev pub cleared : Job → (ℕ → ℕ → Entry) → ℕ → ℕ → Entry
cleared j f c w = dismissed (is_write j.access) j.block (f c w)

abbrev pub handed : Job → (ℕ → ℕ → Entry) → ℕ → ℕ → Entry
handed j f = hand_over j.source j.block (cleared j f)

abbrev pub settle : Job → (ℕ → ℕ → Entry) → ℕ → ℕ → Entry
settle j f = update₂ (handed j f) j.requestor j.way (entry_in j.next j.block)

-- an owner that hands over is in range
abbrev pub OwnerInRange : Source → Type 0
OwnerInRange Memory = Unit {0}
OwnerInRange OwnCopy = Unit {0}
OwnerInRange (Owner o p shown keeps writeback) = (o < 8) × (p < 4)

handed_over_is : (z : Source) (b : ℕ) (f : ℕ → ℕ → Entry) → OwnerInRange z → handed_over z b f ≡ hand_over z b f
handed_over_is Memory b f r = refl
handed_over_is OwnCopy b f r = refl
handed_over_is (Owner o p shown keeps writeback) b f r = put₂_is 8 4 f o p (entry_in keeps b) r.0 r.1

-- in range these are the entries that the machine records
pub settled_is : (j : Job) (f : ℕ → ℕ → Entry) → j.requestor < 8 → j.way < 4 → OwnerInRange j.source → settled j f ≡ settle j f
settled_is j f p q r =
    put₂_is 8 4 (handed_over j.source j.block (cleared j f)) j.requestor j.way (entry_in j.next j.block) p q
    ∙ ap (λ h. update₂ h j.requestor j.way (entry_in j.next j.block)) (handed_over_is j.source j.block (cleared j f) r)

-- dismissal and hand-over only let go
pub handed_weaker : (j : Job) (f : ℕ → ℕ → Entry) (r : Source) → PlannedSource f j r → (c x : ℕ)
    → Weaker (hand_over r j.block (cleared j f) c x) (f c x)
handed_weaker j f Memory p c x = dismissed_weaker (is_write j.access) j.block (f c x)
handed_weaker j f OwnCopy p c x = dismissed_weaker (is_write j.access) j.block (f c x)
handed_weaker j f (Owner o q shown keeps writeback) p c x = update₂_each (λ c x z. Weaker z (f c x)) (cleared j f) o q (entry_in keeps j.block)
    (rw p.at (weaker_owner shown keeps j.block p.owned p.lets_go)) (λ c x _. dismissed_weaker (is_write j.access) j.block (f c x)) c x

-- of a write where the others share, nothing of the block stays with them
none_stays : (j : Job) (f : ℕ → ℕ → Entry) (c x : ℕ) → (held (f c x).state ≡ true → (f c x).block ≡ j.block → (f c x).state ≡ S)
    → held (dismissed true j.block (f c x)).state ≡ true → (dismissed true j.block (f c x)).block ≡ j.block → ⊥
none_stays j f c x share h b =
    let a = dismissed_weaker true j.block (f c x) in
    let bl : (f c x).block ≡ j.block = a.same h ∙ b in
    dismissed_not j.block (f c x) h bl (share (a.had h) bl)

-- what stays of the block with other caches goes together with what the requestor gets
beside_next : (j : Job) (f : ℕ → ℕ → Entry) → AllApart f → (j.upgrade ≡ true → is_write j.access ≡ true)
    → (r : Source) → PlannedSource f j r → (c x : ℕ) → (c ≡ j.requestor → ⊥)
    → held (hand_over r j.block (cleared j f) c x).state ≡ true → (hand_over r j.block (cleared j f) c x).block ≡ j.block
    → go_together j.next (hand_over r j.block (cleared j f) c x).state ≡ true
beside_next j f ex up Memory p c x n h b = go (is_write j.access) refl h b
  where
    go : (t : Bool) → is_write j.access ≡ t → held (dismissed t j.block (f c x)).state ≡ true → (dismissed t j.block (f c x)).block ≡ j.block
        → go_together j.next (dismissed t j.block (f c x)).state ≡ true
    go true i h b = absurd (none_stays j f c x (p.1 c x n) h b)
    go false i h b = rw (p.1 c x n h b) (read_only_S j.next (p.2 c x n h b i)).0
beside_next j f ex up OwnCopy p c x n h b = absurd (none_stays j f c x (p.1 c x n) (rw writes at h) (rw writes at b))
  where
    writes : is_write j.access ≡ true
    writes = up p.0
beside_next j f ex up (Owner o q shown keeps writeback) p c x n h b =
    update₂_each (λ c x z. held z.state ≡ true → z.block ≡ j.block → go_together j.next z.state ≡ true) (cleared j f) o q
    (entry_in keeps j.block) (λ hk _. let k = entry_held keeps j.block hk in rw (held_entry keeps j.block k).0 (p.pair k))
    (λ c x i. go (is_write j.access) refl c x i) c x h b
  where
    mate : (c x : ℕ) → (c ≡ o → x ≡ q → ⊥) → held (f c x).state ≡ true → (f c x).block ≡ j.block → go_together shown (f c x).state ≡ true
    mate c x i h b = let en = held_entry shown j.block (owning_held shown p.owned) in
        rw (p.at, en.0) at (ex o q c x (λ a b. i (sym a) (sym b)) (rw (p.at, en.0) (owning_held shown p.owned)) h
        (rw (p.at, en.1) (sym b))).1

    only_S : (c x : ℕ) → (c ≡ o → x ≡ q → ⊥) → held (f c x).state ≡ true → (f c x).block ≡ j.block → (f c x).state ≡ S
    only_S c x i h b = beside_owner shown (f c x).state p.owned (mate c x i h b)

    go : (t : Bool) → is_write j.access ≡ t → (c x : ℕ) → (c ≡ o → x ≡ q → ⊥) → held (dismissed t j.block (f c x)).state ≡ true
        → (dismissed t j.block (f c x)).block ≡ j.block → go_together j.next (dismissed t j.block (f c x)).state ≡ true
    go true i c x u h b = absurd (none_stays j f c x (only_S c x u) h b)
    go false i c x u h b = elim (p.sole i)
        [ inl l ↦ rw (only_S c x u h b) (read_only_S j.next l).0 | inr w ↦ absurd (writable_alone shown (f c x).state w (mate c x u h b)) ]

-- one entry more that is apart from the others
apart_update : (f : ℕ → ℕ → Entry) (r w : ℕ) (e : Entry) → AllApart f
    → ((c x : ℕ) → (c ≡ r → x ≡ w → ⊥) → held (f c x).state ≡ true → (f c x).block ≡ e.block → held e.state ≡ true
    → (c ≡ r → ⊥) × (go_together e.state (f c x).state ≡ true))
    → AllApart (update₂ f r w e)
apart_update f r w e ex new c a d x n = update₂_each (λ c a z. (d x : ℕ) → (c ≡ d → a ≡ x → ⊥) → Apart c z d (update₂ f r w e d x)) f r w e
    (λ d x n. update₂_each (λ d x z. (r ≡ d → w ≡ x → ⊥) → Apart r e d z) f r w e (λ m. absurd (m refl refl))
    (λ d x i m h k b. let o = new d x i k (sym b) h in ((λ p. o.0 (sym p)), o.1)) d x n)
    (λ c a i d x n. update₂_each (λ d x z. (c ≡ d → a ≡ x → ⊥) → Apart c (f c a) d z) f r w e
    (λ m h k b. let o = new c a i h b k in (o.0, together_sym (f c a).state e.state ∙ o.1)) (λ d x _ m. ex c a d x m) d x n)
    c a d x n

-- the entries that acceptance leaves exclude one another
pub settled_apart : (n : Sizes) (s : ℕ) (f : ℕ → ℕ → Entry) (j : Job) → Plan n s f j → AllApart f → AllApart (settle j f)
settled_apart n s f j plan ex = apart_update (handed j f) j.requestor j.way (entry_in j.next j.block) (shrinks f (handed j f) weak ex)
    (λ c x i h b _. let en = held_entry j.next j.block plan.gets in let bl : (handed j f c x).block ≡ j.block = b ∙ en.1 in (
      λ p. alone c x i p h bl,
      rw en.0 (beside_next j f ex plan.upgrades j.source plan.source c x (λ p. alone c x i p h bl) h bl),
    ))
  where
    weak : (c x : ℕ) → Weaker (handed j f c x) (f c x)
    weak = handed_weaker j f j.source plan.source

    alone : (c x : ℕ) → (c ≡ j.requestor → x ≡ j.way → ⊥) → c ≡ j.requestor → held (handed j f c x).state ≡ true
        → (handed j f c x).block ≡ j.block → ⊥
    alone c x i p h b = go j.upgrade refl
      where
        hd : held (f c x).state ≡ true
        hd = (weak c x).had h

        bl : (f c x).block ≡ j.block
        bl = (weak c x).same h ∙ b

        go : (t : Bool) → j.upgrade ≡ t → ⊥
        go false u = plan.not_shown u x (rw p at hd) (rw p at bl)
        go true u = let k = plan.copy u in
            (ex c x j.requestor j.way i hd (read_only_held (f j.requestor j.way).state k.1) (bl ∙ sym k.0)).0 p

dismissed_blank : (t : Bool) (b : ℕ) (e : Entry) → Blank e → Blank (dismissed t b e)
dismissed_blank false b e p = p
dismissed_blank true b e p = go (sharing e.state && eqb e.block b)
  where
    go : (t : Bool) → Blank (cond t no_entry e)
    go true = λ _. refl
    go false = p

handed_blank : (z : Source) (b : ℕ) (f : ℕ → ℕ → Entry) → ((c w : ℕ) → Blank (f c w)) → (c w : ℕ) → Blank (hand_over z b f c w)
handed_blank Memory b f p = p
handed_blank OwnCopy b f p = p
handed_blank (Owner o q shown keeps writeback) b f p = update₂_each (λ c w e. Blank e) f o q (entry_in keeps b) (entry_blank keeps b) (λ c w _. p c w)

-- entries in I still show zeros
pub settled_blank : (j : Job) (f : ℕ → ℕ → Entry) → ((c w : ℕ) → Blank (f c w)) → (c w : ℕ) → Blank (settle j f c w)
settled_blank j f p =
    update₂_each (λ c w e. Blank e) (handed j f) j.requestor j.way (entry_in j.next j.block) (entry_blank j.next j.block)
    (λ c w _. handed_blank j.source j.block (cleared j f) (λ c w. dismissed_blank (is_write j.access) j.block (f c w) (p c w)) c w)
