-- The directory's searches and its entries: a state that is shown is an entry's, and an entry that is held is shown.
use Rattle.std.proofs.Common.{◌≡◌, ℕ, ◌<◌, Bool, true, ◌&&◌, eqb, ◌⊎◌, Some, None, Option, sym, refl, ap, ◌∙◌, inl, inr}
use Rattle.std.proofs.lemmas.Bool.{false≢true, cases_eq, eqb-true, eq-eqb, and_from, and_parts}
use Rattle.protocols.specs.States.{held}
use Rattle.machine.specs.Machines.{Machine, home}
use Rattle.machine.specs.Directory.{shown_way, state_at, shown_state}
use Rattle.machine.proofs.Invariant.{AllApart}
use Rattle.machine.proofs.Searches.{lowest_none, lowest_below, lowest_passes}

-- entries that are held are of caches and ways that there are
abbrev pub EntriesInRange : Machine → Type 0
EntriesInRange m = (s c w : ℕ) → held (m.entry s c w).state ≡ true → (c < m.geometry.caches) × (w < m.geometry.ways)

-- where cache c is shown with block b, and in which state
pub record ShownAt (m : Machine) (c b : ℕ) : Type 0 where
  pub way : ℕ
  pub shown : shown_way m c b ≡ Some way
  pub is_held : held (m.entry (home m b) c way).state ≡ true
  pub block : (m.entry (home m b) c way).block ≡ b
  pub state : shown_state m c b ≡ (m.entry (home m b) c way).state
  pub below : way < m.geometry.ways

module _ (m : Machine) where
  abbrev passes : ℕ → ℕ → ℕ → Bool
  passes c b w = held (m.entry (home m b) c w).state && eqb (m.entry (home m b) c w).block b

  pub shown_entry : (c b w : ℕ) → shown_way m c b ≡ Some w
      → (held (m.entry (home m b) c w).state ≡ true) × ((m.entry (home m b) c w).block ≡ b)
  shown_entry c b w e =
      let p = and_parts (held (m.entry (home m b) c w).state) (eqb (m.entry (home m b) c w).block b)
      (lowest_passes (passes c b) m.geometry.ways w e) in
      (p.0, eqb-true (m.entry (home m b) c w).block b p.1)

  shown_some : (c b w : ℕ) → shown_way m c b ≡ Some w → ShownAt m c b
  shown_some c b w e = let p = shown_entry c b w e in
      record {
        way = w;
        shown = e;
        is_held = p.0;
        block = p.1;
        state = ap (state_at m c b) e;
        below = lowest_below (passes c b) m.geometry.ways w e;
      }

  -- a state that is shown is an entry's
  pub shown_held : (c b : ℕ) → held (shown_state m c b) ≡ true → ShownAt m c b
  shown_held c b h = go (shown_way m c b) refl h
    where
      go : (o : Option ℕ) → shown_way m c b ≡ o → held (state_at m c b o) ≡ true → ShownAt m c b
      go None e h = absurd (false≢true h)
      go (Some w) e h = shown_some c b w e

  -- an entry that is held is shown
  pub shown_at : EntriesInRange m → (c b w : ℕ) → AllApart (m.entry (home m b)) → held (m.entry (home m b) c w).state ≡ true
      → (m.entry (home m b) c w).block ≡ b → shown_way m c b ≡ Some w
  shown_at ranged c b w apart h k = go (shown_way m c b) refl
    where
      go : (o : Option ℕ) → shown_way m c b ≡ o → shown_way m c b ≡ Some w
      go None e = absurd (false≢true (sym (lowest_none (passes c b) m.geometry.ways e w (ranged (home m b) c w h).1)
          ∙ and_from (held (m.entry (home m b) c w).state) (eqb (m.entry (home m b) c w).block b) h
          (eq-eqb (m.entry (home m b) c w).block b k)))
      go (Some v) e = at (cases_eq v w)
        where
          p : (held (m.entry (home m b) c v).state ≡ true) × ((m.entry (home m b) c v).block ≡ b)
          p = shown_entry c b v e

          at : (v ≡ w) ⊎ (v ≡ w → ⊥) → shown_way m c b ≡ Some w
          at (inl i) = e ∙ ap (λ a. Some a) i
          at (inr i) = absurd ((apart c v c w (λ _ z. i z) p.0 h (p.1 ∙ sym k)).0 refl)

  pub state_at_holds : EntriesInRange m → (c b w : ℕ) → AllApart (m.entry (home m b)) → held (m.entry (home m b) c w).state ≡ true
      → (m.entry (home m b) c w).block ≡ b → shown_state m c b ≡ (m.entry (home m b) c w).state
  state_at_holds ranged c b w apart h k = ap (state_at m c b) (shown_at ranged c b w apart h k)
