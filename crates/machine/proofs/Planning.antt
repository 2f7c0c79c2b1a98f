-- What the machine decides about a request is a plan.
use Rattle.std.proofs.Common.{◌≡◌, ℕ, ◌<◌, Bool, true, false, cond, eqb, ◌⊎◌, Some, None, Option, sym, refl, ap, ◌∙◌, subst, inl, inr}
use Rattle.std.proofs.lemmas.Bool.{false≢true, eqb-true, eqb-false, and_from, and_parts}
use Rattle.protocols.specs.declared.state.State.{State}
use Rattle.protocols.specs.declared.state.State.TheVariants.{S, O, F}
use Rattle.protocols.specs.declared.row.Row.{Row}
use Rattle.protocols.specs.States.{held, owning, writable, dirty}
use Rattle.protocols.specs.Rows.{write_row}
use Rattle.messages.specs.declared.request.Request.{Request}
use Rattle.machine.specs.declared.holding.Entry.{Entry}
use Rattle.machine.specs.declared.transaction.Source.TheVariants.{Owner}
use Rattle.machine.specs.Tables.{lowest}
use Rattle.machine.specs.Holdings.{entry_in, is_write}
use Rattle.machine.specs.Machines.{Machine, home}
use Rattle.machine.specs.Directory.{shown_way, shown_state, sharing, owner, unowned, state_by, or_zero, found}
use Rattle.machine.specs.Acceptance.{row_for, upgrading, unowned_source, source_by, job_for}
use Rattle.machine.proofs.Ranges.{Bounds, cache_below, way_below}
use Rattle.machine.proofs.RowLaws.{OwnedRow, LawfulRow}
use Rattle.machine.proofs.Mailboxes.{read_only}
use Rattle.machine.proofs.Invariant.{go_together, AllApart, Invariant}
use Rattle.machine.proofs.StateFacts.{owning_held, beside_owner, held_entry}
use Rattle.machine.proofs.AcceptPlan.{OthersShare, GetsReadOnly, OwnerPlan, PlannedSource, Plan, OwnerInRange}
use Rattle.machine.proofs.Matches.{Added, ghost_of}
use Rattle.machine.proofs.Searches.{lowest_none, lowest_below, lowest_passes}
use Rattle.machine.proofs.ShownEntries.{EntriesInRange, ShownAt, shown_entry, shown_held, shown_at, state_at_holds}
use Rattle.machine.proofs.RowFacts.{held_not_owning, surely_clean_read_only, held_read_only, lawful_gets, owned_row_of, row_pair}

-- an entry that is held, from its parts
pub entry_from : (e : Entry) (b : ℕ) → held e.state ≡ true → e.block ≡ b → e ≡ entry_in e.state b
entry_from e b h k = let q = held_entry e.state b h in λ t. record { state = sym q.0 t; block = (k ∙ sym q.1) t }

-- The set of the request has no transaction, and the request is its cache's.
module _ (m : Machine) (x : Added) (inv : Invariant (ghost_of m x)) (lawful : (st : State) → LawfulRow st (m.rows st)) (q : Request)
    (idle : x.progress (home m q.block) ≡ None) (asked : x.request q.cache ≡ Some q) where
  abbrev f : ℕ → ℕ → Entry
  f = m.entry (home m q.block)

  pub in_range : EntriesInRange m
  in_range s c w h = let o = inv.entries_home s c w h in (o.1, o.2)

  -- the caches know all entries
  pub known_is : (c w : ℕ) → f c w ≡ (x.mailbox (home m q.block) c).known w
  known_is c w = (rw idle at (inv.mailboxes (home m q.block) c)).0 w

  apart : AllApart f
  apart = inv.entries_apart (home m q.block)

  -- the requestor's copy is where the request says
  placed : (w : ℕ) → held (f q.cache w).state ≡ true → (f q.cache w).block ≡ q.block
      → (w ≡ q.way) × (is_write q.access ≡ true) × (read_only (f q.cache w).state ≡ true)
  placed w h k = let p = inv.places (home m q.block) q.cache q asked w (rw (known_is q.cache w) at h) (rw (known_is q.cache w) at k) in
      (p.0, p.1, rw (known_is q.cache w) p.2)

  read_row_holds : is_write q.access ≡ false → (st : State) → state_by m q.block (owner m q.block) ≡ st → row_for m q ≡ m.rows st
  read_row_holds w st e = ap (λ t. cond t write_row (m.rows (state_by m q.block (owner m q.block)))) w ∙ ap m.rows e

  write_row_holds : is_write q.access ≡ true → row_for m q ≡ write_row
  write_row_holds w = ap (λ t. cond t write_row (m.rows (state_by m q.block (owner m q.block)))) w

  shows_it : (w : ℕ) → held (f q.cache w).state ≡ true → (f q.cache w).block ≡ q.block → upgrading m q ≡ true
  shows_it w h k = and_from (is_write q.access) (found (shown_way m q.cache q.block)) (placed w h k).1
      (ap found (shown_at m in_range q.cache q.block w apart h k))

  -- ---- with no owner

  none_owns : owner m q.block ≡ None → OthersShare f (job_for m q)
  none_owns e c w n h k = held_not_owning (f c w).state h
      (ap owning (sym (state_at_holds m in_range c q.block w apart h k))
      ∙ lowest_none (λ c. owning (shown_state m c q.block)) m.geometry.caches e c (in_range (home m q.block) c w h).0)

  none_read_only : owner m q.block ≡ None → GetsReadOnly f (job_for m q)
  none_read_only e c w n h k r = rw (read_row_holds r S is_S) (surely_clean_read_only (m.rows S).requestor (lawful S))
    where
      go : (z : Option ℕ) → lowest (λ c. sharing (shown_state m c q.block)) m.geometry.caches ≡ z → unowned z ≡ S
      go (Some a) i = refl
      go None i = absurd (false≢true (sym (lowest_none (λ c. sharing (shown_state m c q.block)) m.geometry.caches i c
          (in_range (home m q.block) c w h).0)
          ∙ ap sharing (state_at_holds m in_range c q.block w apart h k ∙ none_owns e c w n h k)))

      is_S : state_by m q.block (owner m q.block) ≡ S
      is_S = ap (state_by m q.block) e ∙ go (lowest (λ c. sharing (shown_state m c q.block)) m.geometry.caches) refl

  no_owner : owner m q.block ≡ None → (t : Bool) → upgrading m q ≡ t → PlannedSource f (job_for m q) (unowned_source t)
  no_owner e true u = (u, none_owns e)
  no_owner e false u = (u, none_owns e, none_read_only e)

  -- ---- with an owner

  owns : (o : ℕ) → owner m q.block ≡ Some o → owning (shown_state m o q.block) ≡ true
  owns o e = lowest_passes (λ c. owning (shown_state m c q.block)) m.geometry.caches o e

  by_itself : (o : ℕ) → owner m q.block ≡ Some o → o ≡ q.cache → PlannedSource f (job_for m q) (unowned_source (upgrading m q))
  by_itself o e i = subst (λ t. PlannedSource f (job_for m q) (unowned_source t)) (sym up) (up, only)
    where
      own : owning (shown_state m q.cache q.block) ≡ true
      own = subst (λ c. owning (shown_state m c q.block) ≡ true) i (owns o e)

      it : ShownAt m q.cache q.block
      it = shown_held m q.cache q.block (owning_held (shown_state m q.cache q.block) own)

      up : upgrading m q ≡ true
      up = shows_it it.way it.is_held it.block

      only : OthersShare f (job_for m q)
      only c w n h k = beside_owner (f q.cache it.way).state (f c w).state (ap owning (sym it.state) ∙ own)
          (apart q.cache it.way c w (λ z _. n (sym z)) it.is_held h (it.block ∙ sym k)).1

  by_owner : (o : ℕ) → owner m q.block ≡ Some o → (o ≡ q.cache → ⊥)
      → OwnerPlan f (job_for m q) o (or_zero (shown_way m o q.block)) (shown_state m o q.block) (row_for m q).owner (row_for m q).writeback
  by_owner o e n = record {
    other = n;
    owned = owns o e;
    at = at_it;
    lets_go = lets (is_write q.access) refl;
    covered = covers (is_write q.access) refl;
    pair = λ h. pairs (is_write q.access) refl h;
    sole = λ w. sole w (writable row.requestor) refl;
  }
    where
      it : ShownAt m o q.block
      it = shown_held m o q.block (owning_held (shown_state m o q.block) (owns o e))

      row : Row
      row = m.rows (shown_state m o q.block)

      law : OwnedRow (shown_state m o q.block) row
      law = owned_row_of (shown_state m o q.block) row (owns o e) (lawful (shown_state m o q.block))

      read : is_write q.access ≡ false → row_for m q ≡ row
      read w = read_row_holds w (shown_state m o q.block) (ap (state_by m q.block) e)

      at_it : f o (or_zero (shown_way m o q.block)) ≡ entry_in (shown_state m o q.block) q.block
      at_it = ap (λ z. f o (or_zero z)) it.shown ∙ entry_from (f o it.way) q.block it.is_held it.block
          ∙ ap (λ z. entry_in z q.block) (sym it.state)

      lets : (t : Bool) → is_write q.access ≡ t → writable (row_for m q).owner ≡ false
      lets true w = ap (λ r. writable r.owner) (write_row_holds w)
      lets false w = ap (λ r. writable r.owner) (read w) ∙ law.lets_go

      covers : (t : Bool) → is_write q.access ≡ t → (shown_state m o q.block ≡ F)
          ⊎ (((row_for m q).writeback ≡ true) ⊎ (((row_for m q).owner ≡ O) ⊎ (dirty (row_for m q).requestor ≡ true)))
      covers true w = inr (inr (inr (ap (λ r. dirty r.requestor) (write_row_holds w))))
      covers false w = subst (λ r. (shown_state m o q.block ≡ F) ⊎ ((r.writeback ≡ true) ⊎ ((r.owner ≡ O) ⊎ (dirty r.requestor ≡ true))))
          (sym (read w)) law.covered

      pairs : (t : Bool) → is_write q.access ≡ t → held (row_for m q).owner ≡ true → go_together (row_for m q).requestor (row_for m q).owner ≡ true
      pairs true w h = absurd (false≢true (ap (λ r. held r.owner) (sym (write_row_holds w)) ∙ h))
      pairs false w h = subst (λ r. go_together r.requestor r.owner ≡ true) (sym (read w))
          (row_pair (shown_state m o q.block) row law (ap (λ r. held r.owner) (sym (read w)) ∙ h))

      sole : is_write q.access ≡ false → (t : Bool) → writable row.requestor ≡ t
          → (read_only (row_for m q).requestor ≡ true) ⊎ (writable (shown_state m o q.block) ≡ true)
      sole w true i = inr (law.sole i).0
      sole w false i = inl (ap (λ r. read_only r.requestor) (read w) ∙ held_read_only row.requestor law.gets i)

  planned_source : (z : Option ℕ) → owner m q.block ≡ z → PlannedSource f (job_for m q) (source_by m q z)
  planned_source None e = no_owner e (upgrading m q) refl
  planned_source (Some o) e = go (eqb o q.cache) refl
    where
      go : (t : Bool) → eqb o q.cache ≡ t → PlannedSource f (job_for m q) (cond t (unowned_source (upgrading m q))
          (Owner o (or_zero (shown_way m o q.block)) (shown_state m o q.block) (row_for m q).owner (row_for m q).writeback))
      go true i = by_itself o e (eqb-true o q.cache i)
      go false i = by_owner o e (eqb-false o q.cache i)

  pub planned : Plan m.geometry (home m q.block) f (job_for m q)
  planned = record {
    here = refl;
    gets = gets (is_write q.access) refl;
    writes = λ w. ap (λ r. r.requestor) (write_row_holds w);
    upgrades = λ u. (and_parts (is_write q.access) (found (shown_way m q.cache q.block)) u).0;
    copy = λ u. copy (shown_way m q.cache q.block) refl (and_parts (is_write q.access) (found (shown_way m q.cache q.block)) u).1;
    not_shown = λ u w h k. false≢true (sym u ∙ shows_it w h k);
    source = planned_source (owner m q.block) refl;
  }
    where
      st : State
      st = state_by m q.block (owner m q.block)

      gets : (t : Bool) → is_write q.access ≡ t → held (row_for m q).requestor ≡ true
      gets true w = ap (λ r. held r.requestor) (write_row_holds w)
      gets false w = ap (λ r. held r.requestor) (read_row_holds w st refl) ∙ lawful_gets st (m.rows st) (lawful st)

      copy : (z : Option ℕ) → shown_way m q.cache q.block ≡ z → found z ≡ true
          → ((f q.cache q.way).block ≡ q.block) × (read_only (f q.cache q.way).state ≡ true)
      copy None e s = absurd (false≢true s)
      copy (Some w) e s = let a = shown_entry m q.cache q.block w e in
          let p = placed w a.0 a.1 in (rw p.0 at a.1, rw p.0 at p.2)

  -- another owner is a cache that there is, and so is its way
  pub owner_in_range : Bounds m.geometry → OwnerInRange (job_for m q).source
  owner_in_range bounds = go (owner m q.block) refl
    where
      unowned_range : (t : Bool) → OwnerInRange (unowned_source t)
      unowned_range true = tt
      unowned_range false = tt

      go : (z : Option ℕ) → owner m q.block ≡ z → OwnerInRange (source_by m q z)
      go None e = unowned_range (upgrading m q)
      go (Some o) e = at (eqb o q.cache)
        where
          it : ShownAt m o q.block
          it = shown_held m o q.block (owning_held (shown_state m o q.block) (owns o e))

          low : or_zero (shown_way m o q.block) < 4
          low = subst (λ z. or_zero z < 4) (sym it.shown) (way_below m.geometry bounds it.way it.below)

          at : (t : Bool) → OwnerInRange (cond t (unowned_source (upgrading m q))
              (Owner o (or_zero (shown_way m o q.block)) (shown_state m o q.block) (row_for m q).owner (row_for m q).writeback))
          at true = unowned_range (upgrading m q)
          at false = (cache_below m.geometry bounds o (lowest_below (λ c. owning (shown_state m c q.block)) m.geometry.caches o e), low)
