-- What the elements of a list weigh together.
use Rattle.std.proofs.Common.{◌≡◌, ℕ, zero, suc, ◌+◌, ◌<◌, Bool, true, false, List, [], ◌∷◌, ◌++◌, Some, filter, refl, arith}
use Rattle.std.specs.List.{slice_get}
use Rattle.wires.specs.Waiting.{without}

abbrev pub weigh : {A : Type 0} → (A → ℕ) → List A → ℕ
weigh f [] = 0
weigh f (x ∷ xs) = f x + weigh f xs

-- one element is taken
pub weigh_taken : {A : Type 0} (f : A → ℕ) (xs : List A) (i : ℕ) (x : A) → slice_get xs i ≡ Some x → f x + weigh f (without xs i) ≡ weigh f xs
weigh_taken f [] i x e = cc
weigh_taken f (y ∷ ys) zero x e = let h : y ≡ x = cc in rw h
weigh_taken f (y ∷ ys) (suc i) x e = let h = weigh_taken f ys i x e in omega arith

-- one element comes last
pub weigh_push : {A : Type 0} (f : A → ℕ) (xs : List A) (x : A) → weigh f (xs ++ x ∷ []) ≡ weigh f xs + f x
weigh_push f [] x = omega arith
weigh_push f (y ∷ ys) x = let h = weigh_push f ys x in omega arith

-- many come last
pub weigh_append : {A : Type 0} (f : A → ℕ) (xs ys : List A) → weigh f (xs ++ ys) ≡ weigh f xs + weigh f ys
weigh_append f [] ys = omega arith
weigh_append f (x ∷ xs) ys = let h = weigh_append f xs ys in omega arith

-- what weighs nothing has no element that passes
pub weigh_none : {A : Type 0} (f : A → ℕ) (p : A → Bool) → ((a : A) → p a ≡ true → 0 < f a) → (xs : List A) → weigh f xs ≡ 0 → filter p xs ≡ []
weigh_none f p pos [] e = refl
weigh_none f p pos (y ∷ ys) e = go (p y) refl (weigh_none f p pos ys (omega arith))
  where
    go : (t : Bool) → p y ≡ t → filter p ys ≡ [] → filter p (y ∷ ys) ≡ []
    go true i ih = absurd (none (pos y i))
      where
        none : 0 < f y → ⊥
        none l = omega arith
    go false i ih = rw i ih
