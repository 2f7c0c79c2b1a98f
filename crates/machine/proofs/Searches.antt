-- What the result of a search for the lowest number tells.
use Rattle.std.proofs.Common.{◌≡◌, ℕ, zero, suc, ◌<◌, Bool, true, false, cond, Some, None, Option, refl, ◌∙◌, ⊎_elim, arith}
use Rattle.std.proofs.lemmas.Bool.{cases_eq}
use Rattle.machine.specs.Tables.{lowest}

-- a search that fails
pub lowest_none : (p : ℕ → Bool) (n : ℕ) → lowest p n ≡ None → (k : ℕ) → k < n → p k ≡ false
lowest_none p zero e k l = absurd (none l)
  where
    none : k < 0 → ⊥
    none l = omega arith
lowest_none p (suc n) e k l = go (lowest p n) refl (lowest_none p n) e
  where
    go : (q : Option ℕ) → lowest p n ≡ q → (lowest p n ≡ None → (k : ℕ) → k < n → p k ≡ false)
        → (elim q as (λ _. Option ℕ) [ Some a ↦ Some a | None ↦ cond (p n) (Some n) None ]) ≡ None → p k ≡ false
    go (Some a) i ih e = cc
    go None i ih e = at (p n) refl e
      where
        at : (t : Bool) → p n ≡ t → cond t (Some n) None ≡ None → p k ≡ false
        at true j e = cc
        at false j e = ⊎_elim (λ z. rw z j) (λ f. ih i k (below f)) (cases_eq k n)
          where
            below : (k ≡ n → ⊥) → k < n
            below f = omega arith

-- one that finds a number: it is below the bound, and passes
pub lowest_below : (p : ℕ → Bool) (n k : ℕ) → lowest p n ≡ Some k → k < n
lowest_below p zero k e = grind arith
lowest_below p (suc n) k e = go (lowest p n) refl (lowest_below p n k) e
  where
    go : (q : Option ℕ) → lowest p n ≡ q → (lowest p n ≡ Some k → k < n)
        → (elim q as (λ _. Option ℕ) [ Some a ↦ Some a | None ↦ cond (p n) (Some n) None ]) ≡ Some k → k < suc n
    go (Some a) i ih e = let l = ih (i ∙ e) in omega arith
    go None i ih e = at (p n) refl e
      where
        at : (t : Bool) → p n ≡ t → cond t (Some n) None ≡ Some k → k < suc n
        at true j e = let z : n ≡ k = cc in omega arith
        at false j e = grind arith

pub lowest_passes : (p : ℕ → Bool) (n k : ℕ) → lowest p n ≡ Some k → p k ≡ true
lowest_passes p zero k e = cc
lowest_passes p (suc n) k e = go (lowest p n) refl (lowest_passes p n k) e
  where
    go : (q : Option ℕ) → lowest p n ≡ q → (lowest p n ≡ Some k → p k ≡ true)
        → (elim q as (λ _. Option ℕ) [ Some a ↦ Some a | None ↦ cond (p n) (Some n) None ]) ≡ Some k → p k ≡ true
    go (Some a) i ih e = ih (i ∙ e)
    go None i ih e = at (p n) refl e
      where
        at : (t : Bool) → p n ≡ t → cond t (Some n) None ≡ Some k → p k ≡ true
        at true j e = let z : n ≡ k = cc in rw (← z) j
        at false j e = cc
