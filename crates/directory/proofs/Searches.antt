-- What `find` over the numbers below n answers is the lowest that passes.
use Rattle.std.proofs.Common.{◌≡◌, ℕ, zero, suc, ◌<◌, ◌≤◌, Bool, true, false, cond, ◌⊎◌, MatchOption, Some, None, Option, sym, refl, ap, ◌∙◌, inl, inr, arith}
use Rattle.std.proofs.lemmas.Bool.{cases_eq}
use Rattle.machine.specs.Tables.{lowest}

-- the search of one number more, by what the search before it found
abbrev further : (ℕ → Bool) → ℕ → Option ℕ → Option ℕ
further test n (Some k) = Some k
further test n None = cond (test n) (Some n) None

lowest_step : (test : ℕ → Bool) (n : ℕ) → lowest test (suc n) ≡ further test n (lowest test n)
lowest_step test n = go (lowest test n)
  where
    go : (found : Option ℕ) → (elim found as (λ _. Option ℕ) [ Some k ↦ Some k | None ↦ cond (test n) (Some n) None ]) ≡ further test n found
    go (Some k) = refl
    go None = refl

module _ (test : ℕ → Bool) where
  -- none below n passes
  none_below : (n : ℕ) → ((k : ℕ) → 0 ≤ k → k < n → test k ≡ false) → lowest test n ≡ None
  none_below zero fails = refl
  none_below (suc n) fails =
      lowest_step test n ∙ ap (further test n) (none_below n (λ k a b. fails k a (omega arith))) ∙ rw (fails n (omega arith) (omega arith)) refl

  last : (n i : ℕ) → i < suc n → test i ≡ true → ((k : ℕ) → 0 ≤ k → k < i → test k ≡ false) → (i < n → lowest test n ≡ Some i) → (i ≡ n) ⊎ (i ≡ n → ⊥) → lowest test (suc n) ≡ Some i
  last n i h passes fails before (inl e) = lowest_step test n ∙ ap (further test n) (none_below n (λ k a b. fails k a (omega arith))) ∙ rw (sym e, passes) refl
  last n i h passes fails before (inr ne) = lowest_step test n ∙ ap (further test n) (before (omega arith))

  -- i passes, and none before it
  first_at : (n i : ℕ) → i < n → test i ≡ true → ((k : ℕ) → 0 ≤ k → k < i → test k ≡ false) → lowest test n ≡ Some i
  first_at zero i h passes fails = absurd (omega arith)
  first_at (suc n) i h passes fails = last n i h passes fails (λ l. first_at n i l passes fails) (cases_eq i n)

lowest_by : (test : ℕ → Bool) (n : ℕ) (r : Option ℕ)
    → MatchOption r ((k : ℕ) → 0 ≤ k → k < n → test k ≡ false) (λ i. (0 ≤ i) × (i < n) × (test i ≡ true) × ((k : ℕ) → 0 ≤ k → k < i → test k ≡ false))
    → r ≡ lowest test n
lowest_by test n None h = sym (none_below test n h)
lowest_by test n (Some i) h = sym (first_at test n i h.1 h.2 h.3)

-- where the code's end of the range, m, is the definition's, n
pub lowest_from_find : (test : ℕ → Bool) (m n : ℕ) (r : Option ℕ) → m ≡ n
    → MatchOption r ((k : ℕ) → 0 ≤ k → k < m → test k ≡ false) (λ i. (0 ≤ i) × (i < m) × (test i ≡ true) × ((k : ℕ) → 0 ≤ k → k < i → test k ≡ false))
    → r ≡ lowest test n
lowest_from_find test m n r e h = lowest_by test m r h ∙ ap (lowest test) e
