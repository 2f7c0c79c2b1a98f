-- The elements of a list that pass a test, when one element is taken out or comes last.
use Rattle.std.proofs.Common.{◌≡◌, ℕ, zero, suc, ◌<◌, ◌≤◌, Bool, true, false, List, [], ◌∷◌, ◌++◌, map, length, Some, filter, sym, refl, ◌∙◌, arith}
use Rattle.std.specs.List.{slice_get}
use Rattle.std.proofs.lemmas.List.Elements.{filter-append}
use Rattle.std.proofs.lemmas.List.{append-nil}
use Rattle.wires.specs.Waiting.{without}

module _ {A : Type 0} (p : A → Bool) where
  -- one that fails the test: those that pass stay
  pub taken_other : (xs : List A) (i : ℕ) (x : A) → slice_get xs i ≡ Some x → p x ≡ false → filter p (without xs i) ≡ filter p xs
  taken_other [] i x e n = refl
  taken_other (y ∷ ys) zero x e n = let h : y ≡ x = cc in rw (h, n)
  taken_other (y ∷ ys) (suc i) x e n = let h = taken_other ys i x e n in rw h

  -- where one passes, some pass
  pub kept_none : (xs : List A) (i : ℕ) (x : A) → slice_get xs i ≡ Some x → p x ≡ true → filter p xs ≡ [] → ⊥
  kept_none [] i x e t k = let z : ◌≡◌ {A = ℕ} 0 1 = cc in omega arith
  kept_none (y ∷ ys) zero x e t k = let h : y ≡ x = cc in let z : ◌≡◌ {A = ℕ} 0 1 = cc in omega arith
  kept_none (y ∷ ys) (suc i) x e t k = go (p y) refl (kept_none ys i x e t)
    where
      go : (b : Bool) → p y ≡ b → (filter p ys ≡ [] → ⊥) → ⊥
      go true py _ = let z : ◌≡◌ {A = ℕ} 0 1 = cc in omega arith
      go false py ih = ih (rw py at k)

  -- the only one that passes: none is left
  pub taken_one : (xs : List A) (i : ℕ) (x y : A) → slice_get xs i ≡ Some x → p x ≡ true → filter p xs ≡ y ∷ [] → (x ≡ y) × (filter p (without xs i) ≡ [])
  taken_one [] i x y e t k = (cc, cc)
  taken_one (z ∷ zs) zero x y e t k = let h : z ≡ x = cc in (cc, cc)
  taken_one (z ∷ zs) (suc i) x y e t k = go (p z) refl (taken_one zs i x y e t)
    where
      go : (b : Bool) → p z ≡ b → (filter p zs ≡ y ∷ [] → (x ≡ y) × (filter p (without zs i) ≡ [])) → (x ≡ y) × (filter p (z ∷ without zs i) ≡ [])
      go true pz _ = let none : filter p zs ≡ [] = cc in absurd (kept_none zs i x e t none)
      go false pz ih = let h = ih (rw pz at k) in (h.0, rw pz h.1)

-- two lists that have at most one such element together: where the first has it, nothing else is left
pub only_left : {A B C : Type 0} (f : A → C) (h : B → C) (p : A → Bool) (xs : List A) (us : List B) (i : ℕ) (x : A) (ms : List C) → slice_get xs i ≡ Some x
    → p x ≡ true
    → map f (filter p xs) ++ map h us ≡ ms → length ms ≤ 1 → (ms ≡ f x ∷ []) × (filter p (without xs i) ≡ []) × (us ≡ [])
only_left {A} {B} {C} f h p xs us i x ms e t k short = go (filter p xs) refl us refl
  where
    go : (ks : List A) → filter p xs ≡ ks → (vs : List B) → us ≡ vs → (ms ≡ f x ∷ []) × (filter p (without xs i) ≡ []) × (us ≡ [])
    go [] q vs r = absurd (kept_none p xs i x e t q)
    go (z ∷ []) q [] r = let o = taken_one p xs i x z e t q in (sym k ∙ rw (q, r, o.0) refl, o.1, r)
    go (z ∷ []) q (v ∷ vs) r = absurd (long (rw (sym k, q, r) at short))
      where
        long : length (f z ∷ h v ∷ map h vs) ≤ 1 → ⊥
        long l = omega arith
    go (z ∷ y ∷ ks) q vs r = absurd (long (rw (sym k, q) at short))
      where
        long : length (f z ∷ f y ∷ (map f ks ++ map h us)) ≤ 1 → ⊥
        long l = omega arith

long_append : {C : Type 0} (xs : List C) (y : C) (ys : List C) → 0 < length (xs ++ y ∷ ys)
long_append [] y ys = omega arith
long_append (x ∷ xs) y ys = omega arith

-- and where the second has it
pub only_right : {A B C : Type 0} (f : A → C) (h : B → C) (us : List A) (p : B → Bool) (xs : List B) (i : ℕ) (x : B) (ms : List C) → slice_get xs i ≡ Some x
    → p x ≡ true → map f us ++ map h (filter p xs) ≡ ms → length ms ≤ 1 → (ms ≡ h x ∷ []) × (filter p (without xs i) ≡ []) × (us ≡ [])
only_right {A} {B} {C} f h us p xs i x ms e t k short = go (filter p xs) refl us refl
  where
    go : (ks : List B) → filter p xs ≡ ks → (vs : List A) → us ≡ vs → (ms ≡ h x ∷ []) × (filter p (without xs i) ≡ []) × (us ≡ [])
    go [] q vs r = absurd (kept_none p xs i x e t q)
    go (z ∷ []) q [] r = let o = taken_one p xs i x z e t q in (sym k ∙ rw (q, r, o.0) refl, o.1, r)
    go (z ∷ y ∷ ks) q [] r = absurd (long (rw (sym k, q, r) at short))
      where
        long : length (h z ∷ h y ∷ map h ks) ≤ 1 → ⊥
        long l = omega arith
    go (z ∷ ks) q (v ∷ vs) r = absurd (long (rw (sym k, q, r) at short))
      where
        long : length (f v ∷ (map f vs ++ h z ∷ map h ks)) ≤ 1 → ⊥
        long l = let a = long_append (map f vs) (h z) (map h ks) in omega arith

-- one element comes last: it fails the test, or passes it
pub kept_push_no : {A : Type 0} (p : A → Bool) (xs : List A) (x : A) → p x ≡ false → filter p (xs ++ x ∷ []) ≡ filter p xs
kept_push_no p xs x n = filter-append p xs (x ∷ []) ∙ rw n (append-nil (filter p xs))

pub kept_push_yes : {A : Type 0} (p : A → Bool) (xs : List A) (x : A) → p x ≡ true → filter p (xs ++ x ∷ []) ≡ filter p xs ++ x ∷ []
kept_push_yes p xs x n = filter-append p xs (x ∷ []) ∙ rw n refl
