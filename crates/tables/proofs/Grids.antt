-- Reading and changing a table is reading and changing its function.
use Rattle.std.proofs.Common.{◌≡◌, ◌≢◌, ℕ, ◌+◌, ◌*◌, ◌<◌, Bool, true, false, cond, ◌&&◌, eqb, ltb, List, length, get_or, set, replicate, Some, None, sym, refl, ap, ◌∙◌, arith, get_or-set_other, get_or-set_same}
use Rattle.std.proofs.Math.Path.{fun_ext}
use Rattle.std.proofs.lemmas.Bool.Decides.{nat_tests}
use Rattle.std.proofs.lemmas.Bool.{ltb-false}
use Rattle.std.proofs.lemmas.List.{get_or_past, get_or_default}
use Rattle.std.proofs.lemmas.Option.{cond_some}
use Rattle.memory.proofs.Writes.{all_same}
use Rattle.machine.specs.Tables.{put, put₂, put₃}
use Rattle.tables.specs.Grids.{column, rows, grid, everywhere, everywhere₂, everywhere₃}

-- what a table shows at place q after a write at place p: t tests the key that is read, and b says that it is the key that was written
shown : {A : Type 0} (z : A) (xs : List A) (p q : ℕ) (v : A) (t b : Bool) → p < length xs → (b ≡ true → (t ≡ true) × (q ≡ p)) → (t ≡ true → b ≡ false → q ≢ p)
    → cond t (get_or (set xs p v) q z) z ≡ cond b v (cond t (get_or xs q z) z)
shown z xs p q v true true h same other = rw ((same refl).1) (get_or-set_same xs p v z h)
shown z xs p q v true false h same other = get_or-set_other xs p q v z (other refl refl)
shown z xs p q v false true h same other = let e = (same refl).0 in absurd cc
shown z xs p q v false false h same other = refl

-- a choice between functions, at an argument
at : {K B : Type 0} (t : Bool) (f g : K → B) (k : K) → cond t f g k ≡ cond t (f k) (g k)
at true f g k = refl
at false f g k = refl

-- a change within a change: b tests the inner key, a the outer one, whose rows f and h are the same
within : {K A : Type 0} (a b : Bool) (f g h : K → A) (v : A) (k : K) → g k ≡ cond b v (f k) → (a ≡ true → f ≡ h) → cond a g h k ≡ cond (a && b) v (h k)
within true b f g h v k e same = rw (sym (same refl)) e
within false b f g h v k e same = refl

-- a change at two or three keys, by the tests of all keys together
flat₂ : {A : Type 0} (m n : ℕ) (f : ℕ → ℕ → A) (s c : ℕ) (v : A) (j k : ℕ) → put₂ m n f s c v j k ≡ cond ((ltb s m && eqb j s) && (ltb c n && eqb k c)) v (f j k)
flat₂ m n f s c v j k = within _ _ (f s) (put n (f s) c v) (f j) v k refl (λ e. grind (arith, nat_tests))

flat₃ : {A : Type 0} (m n o : ℕ) (f : ℕ → ℕ → ℕ → A) (s c w : ℕ) (v : A) (j k l : ℕ)
    → put₃ m n o f s c w v j k l ≡ cond ((ltb s m && eqb j s) && ((ltb c n && eqb k c) && (ltb w o && eqb l w))) v (f j k l)
flat₃ m n o f s c w v j k l =
    ap (λ g. g l) (at (ltb s m && eqb j s) (put₂ n o (f s) c w v) (f j) k)
    ∙ within _ _ (f s k) (put₂ n o (f s) c w v k) (f j k) v l (flat₂ n o (f s) c w v k l) (λ e. grind (arith, nat_tests))

-- without a place, what is shown is the zero
none_shown : {A : Type 0} (t : Bool) (q : ℕ) (y z : A) → None ≡ cond t (Some q) None → z ≡ cond t y z
none_shown true q y z e = absurd cc
none_shown false q y z e = refl

-- the place of a key, as the code has it: none for a key that is outside its range
module _ {A : Type 0} (z : A) (xs : List A) where
  pub column_read : (n i : ℕ) → length xs ≡ n → get_or xs i z ≡ column n z xs i
  unfolding column
  column_read n i l = go (ltb i n) refl
    where
      go : (t : Bool) → ltb i n ≡ t → get_or xs i z ≡ cond t (get_or xs i z) z
      go true e = refl
      go false e = get_or_past xs i z (rw l (ltb-false i n e))

  pub column_written : (n i : ℕ) (v : A) → length xs ≡ n → i < n → column n z (set xs i v) ≡ put n (column n z xs) i v
  unfolding column
  column_written n i v l h = fun_ext (λ j. shown z xs i j v (ltb j n) (ltb i n && eqb j i) (rw l h) (λ e. grind (arith, nat_tests)) (λ t f. grind (arith, nat_tests)))

  pub rows_read : (s c p : ℕ) (d : A) → Some p ≡ cond (ltb s 16 && ltb c 8) (Some (s * 8 + c)) None → length xs ≡ 128 → get_or xs p d ≡ rows z xs s c
  unfolding rows
  rows_read s c p d e n = let i = cond_some _ _ _ (sym e) in rw (i.0, i.1) (get_or_default xs p d z (grind (arith, nat_tests)))

  pub rows_none : (s c q : ℕ) → None ≡ cond (ltb s 16 && ltb c 8) (Some q) None → z ≡ rows z xs s c
  unfolding rows
  rows_none s c q e = none_shown _ q (get_or xs (s * 8 + c) z) z e

  pub rows_written : (s c p : ℕ) (v : A) → Some p ≡ cond (ltb s 16 && ltb c 8) (Some (s * 8 + c)) None → length xs ≡ 128 → rows z (set xs p v) ≡ put₂ 16 8 (rows z xs) s c v
  unfolding rows
  rows_written s c p v e n =
      let i = cond_some _ _ _ (sym e) in
      fun_ext (λ j. fun_ext (λ k.
      shown z xs p (j * 8 + k) v (ltb j 16 && ltb k 8) ((ltb s 16 && eqb j s) && (ltb c 8 && eqb k c)) (grind (arith, nat_tests)) (λ b. grind (arith, nat_tests)) (λ t f. grind (arith, nat_tests))
      ∙ sym (flat₂ 16 8 (rows z xs) s c v j k)))

  pub grid_read : (s c w p : ℕ) (d : A) → Some p ≡ cond (ltb s 16 && (ltb c 8 && ltb w 4)) (Some ((s * 8 + c) * 4 + w)) None → length xs ≡ 512 → get_or xs p d ≡ grid z xs s c w
  unfolding grid
  grid_read s c w p d e n = let i = cond_some _ _ _ (sym e) in rw (i.0, i.1) (get_or_default xs p d z (grind (arith, nat_tests)))

  pub grid_none : (s c w q : ℕ) → None ≡ cond (ltb s 16 && (ltb c 8 && ltb w 4)) (Some q) None → z ≡ grid z xs s c w
  unfolding grid
  grid_none s c w q e = none_shown _ q (get_or xs ((s * 8 + c) * 4 + w) z) z e

  pub grid_written : (s c w p : ℕ) (v : A) → Some p ≡ cond (ltb s 16 && (ltb c 8 && ltb w 4)) (Some ((s * 8 + c) * 4 + w)) None → length xs ≡ 512 → grid z (set xs p v) ≡ put₃ 16 8 4 (grid z xs) s c w v
  unfolding grid
  grid_written s c w p v e n =
      let i = cond_some _ _ _ (sym e) in
      fun_ext (λ j. fun_ext (λ k. fun_ext (λ l.
      shown z xs p ((j * 8 + k) * 4 + l) v (ltb j 16 && (ltb k 8 && ltb l 4)) ((ltb s 16 && eqb j s) && ((ltb c 8 && eqb k c) && (ltb w 4 && eqb l w))) (grind (arith, nat_tests)) (λ b. grind (arith, nat_tests)) (λ t f. grind (arith, nat_tests))
      ∙ sym (flat₃ 16 8 4 (grid z xs) s c w v j k l))))

-- ---- new tables

module _ {A : Type 0} (z : A) where
  same : (t : Bool) (n k : ℕ) → cond t (get_or (replicate n z) k z) z ≡ z
  same true n k = all_same n k z
  same false n k = refl

  pub column_new : (n : ℕ) → column n z (replicate n z) ≡ everywhere z
  unfolding column everywhere
  column_new n = fun_ext (λ i. same (ltb i n) n i)

  pub rows_new : rows z (replicate 128 z) ≡ everywhere₂ z
  unfolding rows everywhere₂
  rows_new = fun_ext (λ s. fun_ext (λ c. same (ltb s 16 && ltb c 8) 128 (s * 8 + c)))

  pub grid_new : grid z (replicate 512 z) ≡ everywhere₃ z
  unfolding grid everywhere₃
  grid_new = fun_ext (λ s. fun_ext (λ c. fun_ext (λ w. same (ltb s 16 && (ltb c 8 && ltb w 4)) 512 ((s * 8 + c) * 4 + w))))
