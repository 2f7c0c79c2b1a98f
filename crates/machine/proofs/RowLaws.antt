-- What the four laws of a protocol's row say, state by state.
use Rattle.std.proofs.Common.{◌≡◌, Bool, true, false, not, ◌&&◌, ◌||◌, ◌⊎◌, sym, refl, inl, inr}
use Rattle.std.proofs.lemmas.Bool.{false≢true, and_parts, and_from}
use Rattle.protocols.specs.declared.state.State.{State}
use Rattle.protocols.specs.declared.state.State.TheVariants.{I, S, E, M, O, F}
use Rattle.protocols.specs.declared.row.Row.{Row}
use Rattle.protocols.specs.States.{held, owning, writable, dirty, same_state}
use Rattle.protocols.specs.Rows.{unowned_law, handover_law, exclusive_law, dirty_law, lawful}

-- the states in which a copy is surely clean: the directory shows them, and the memory has the words
abbrev pub surely_clean : State → Bool
surely_clean I = false
surely_clean S = true
surely_clean E = false
surely_clean M = false
surely_clean O = false
surely_clean F = true

-- the row of a state with an owner
pub record OwnedRow (st : State) (r : Row) : Type 0 where
  pub lets_go : writable r.owner ≡ false
  pub gets : held r.requestor ≡ true
  pub one_owner : (owning r.owner ≡ false) ⊎ (owning r.requestor ≡ false)
  pub sole : writable r.requestor ≡ true → (writable st ≡ true) × (r.owner ≡ I)
  pub covered : (st ≡ F) ⊎ ((r.writeback ≡ true) ⊎ ((r.owner ≡ O) ⊎ (dirty r.requestor ≡ true)))

-- a row that keeps the laws, by the state that the directory shows
abbrev pub LawfulRow : State → Row → Type 0
LawfulRow I r = (surely_clean r.requestor ≡ true) ⊎ (writable r.requestor ≡ true)
LawfulRow S r = surely_clean r.requestor ≡ true
LawfulRow E r = OwnedRow E r
LawfulRow M r = OwnedRow M r
LawfulRow O r = OwnedRow O r
LawfulRow F r = OwnedRow F r

-- ---- from the tests

unowned_I : (q : State) → (same_state q S || (same_state q F || writable q)) ≡ true → (surely_clean q ≡ true) ⊎ (writable q ≡ true)
unowned_I I h = inl h
unowned_I S h = inl refl
unowned_I E h = inr refl
unowned_I M h = inr refl
unowned_I O h = inl h
unowned_I F h = inl refl

unowned_S : (q : State) → (same_state q S || (same_state q F || false)) ≡ true → surely_clean q ≡ true
unowned_S I h = h
unowned_S S h = refl
unowned_S E h = h
unowned_S M h = h
unowned_S O h = h
unowned_S F h = refl

not_true : (t : Bool) → not t ≡ true → t ≡ false
not_true true h = sym h
not_true false h = refl

not_both : (a b : Bool) → not (a && b) ≡ true → (a ≡ false) ⊎ (b ≡ false)
not_both true b h = inr (not_true b h)
not_both false b h = inl refl

is_I : (o : State) → same_state o I ≡ true → o ≡ I
is_I I h = refl
is_I S h = absurd (false≢true h)
is_I E h = absurd (false≢true h)
is_I M h = absurd (false≢true h)
is_I O h = absurd (false≢true h)
is_I F h = absurd (false≢true h)

is_O : (o : State) → same_state o O ≡ true → o ≡ O
is_O I h = absurd (false≢true h)
is_O S h = absurd (false≢true h)
is_O E h = absurd (false≢true h)
is_O M h = absurd (false≢true h)
is_O O h = refl
is_O F h = absurd (false≢true h)

implied : (a b : Bool) → (not a || b) ≡ true → a ≡ true → b ≡ true
implied true b h i = h
implied false b h i = absurd (false≢true i)

covered_by : (w : Bool) (o q : State) → (not (not w) || (same_state o O || dirty q)) ≡ true → (w ≡ true) ⊎ ((o ≡ O) ⊎ (dirty q ≡ true))
covered_by true o q h = inl refl
covered_by false o q h = go (same_state o O) refl h
  where
    go : (t : Bool) → same_state o O ≡ t → (t || dirty q) ≡ true → (false ≡ true) ⊎ ((o ≡ O) ⊎ (dirty q ≡ true))
    go true i _ = inr (inl (is_O o i))
    go false i d = inr (inr d)

-- laws 2 and 3 at a state with an owner, and law 4 as it is read there
owned_row : (st : State) (r : Row) → owning st ≡ true → handover_law st r ≡ true → exclusive_law st r ≡ true
    → (st ≡ F) ⊎ ((r.writeback ≡ true) ⊎ ((r.owner ≡ O) ⊎ (dirty r.requestor ≡ true))) → OwnedRow st r
owned_row st r o two three four =
    let h = and_parts (not (writable r.owner)) (held r.requestor && not (owning r.owner && owning r.requestor))
    (implied (owning st) (not (writable r.owner) && (held r.requestor && not (owning r.owner && owning r.requestor))) two o) in
    let k = and_parts (held r.requestor) (not (owning r.owner && owning r.requestor)) h.1 in
    record {
      lets_go = not_true (writable r.owner) h.0;
      gets = k.0;
      one_owner = not_both (owning r.owner) (owning r.requestor) k.1;
      sole = λ w. let e = and_parts (writable st) (same_state r.owner I)
          (implied (owning st && writable r.requestor) (writable st && same_state r.owner I) three
          (and_from (owning st) (writable r.requestor) o w)) in
          (e.0, is_I r.owner e.1);
      covered = four;
    }

-- the four tests, one by one
laws : (st : State) (r : Row) → lawful st r ≡ true
    → (unowned_law st r ≡ true) × (handover_law st r ≡ true) × (exclusive_law st r ≡ true) × (dirty_law st r ≡ true)
laws st r h =
    let p = and_parts (unowned_law st r) (handover_law st r && (exclusive_law st r && dirty_law st r)) h in
    let q = and_parts (handover_law st r) (exclusive_law st r && dirty_law st r) p.1 in
    let t = and_parts (exclusive_law st r) (dirty_law st r) q.1 in
    (p.0, q.0, t.0, t.1)

pub lawful_row : (st : State) (r : Row) → lawful st r ≡ true → LawfulRow st r
lawful_row I r h = unowned_I r.requestor (laws I r h).0
lawful_row S r h = unowned_S r.requestor (laws S r h).0
lawful_row E r h = let l = laws E r h in owned_row E r refl l.1 l.2 (inr (covered_by r.writeback r.owner r.requestor l.3))
lawful_row M r h = let l = laws M r h in owned_row M r refl l.1 l.2 (inr (covered_by r.writeback r.owner r.requestor l.3))
lawful_row O r h = let l = laws O r h in owned_row O r refl l.1 l.2 (inr (covered_by r.writeback r.owner r.requestor l.3))
lawful_row F r h = let l = laws F r h in owned_row F r refl l.1 l.2 (inl refl)
