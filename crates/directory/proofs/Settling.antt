-- The entries of a set, written one after another.
use Rattle.std.proofs.Common.{◌≡◌, ℕ, ◌+◌, ◌*◌, ◌<◌, Bool, true, false, cond, ◌&&◌, eqb, ltb, List, get_or, sym, refl, ap, ◌∙◌, arith}
use mathlib.Core.Path.{fun_ext}
use Rattle.std.proofs.lemmas.Bool.{eqb-true, eq-eqb, and_parts}
use Rattle.std.proofs.lemmas.Bool.Decides.{nat_tests}
use Rattle.machine.specs.declared.holding.Entry.{Entry}
use Rattle.machine.specs.Holdings.{no_entry}
use Rattle.machine.specs.Tables.{put, put₂, put₃}
use Rattle.machine.specs.Acceptance.{dismissed}
use Rattle.tables.specs.Grids.{grid}
use Rattle.directory.specs.Settling.{cleared_where}

-- ---- one set of a table

module _ (f : ℕ → ℕ → ℕ → Entry) (s : ℕ) where
  -- what stands there written again
  pub put_own : f ≡ put 16 f s (f s)
  put_own = fun_ext (λ t. go t (ltb s 16 && eqb t s) refl)
    where
      go : (t : ℕ) (x : Bool) → (ltb s 16 && eqb t s) ≡ x → f t ≡ cond x (f s) (f t)
      go t true p = ap f (eqb-true t s (and_parts (ltb s 16) (eqb t s) p).1)
      go t false p = refl

  -- a change of a change
  pub put_again : (F : ℕ → ℕ → Entry) (change : (ℕ → ℕ → Entry) → ℕ → ℕ → Entry) → put 16 (put 16 f s F) s (change (put 16 f s F s)) ≡ put 16 f s (change F)
  put_again F change = fun_ext (λ t. go t (ltb s 16 && eqb t s) refl)
    where
      go : (t : ℕ) (x : Bool) → (ltb s 16 && eqb t s) ≡ x → cond x (change (put 16 f s F s)) (cond x F (f t)) ≡ cond x (change F) (f t)
      go t true p =
          let inside = (and_parts (ltb s 16) (eqb t s) p).0 in
          let same : eqb s s ≡ true = eq-eqb s s refl in
          let here : (ltb s 16 && eqb s s) ≡ true = grind (arith, nat_tests) in
          ap (λ y. change (cond y F (f s))) here
      go t false p = refl

-- ---- the loops

abbrev pub first_ways : ℕ → ℕ → ℕ → ℕ → Bool
first_ways c k d w = eqb d c && ltb w k

abbrev pub first_caches : ℕ → ℕ → ℕ → Bool
first_caches k d w = ltb d k

module _ (b : ℕ) (f : ℕ → ℕ → Entry) where
  by_test : (t u : Bool) (e : Entry) → t ≡ u → cond t (dismissed true b e) e ≡ cond u (dismissed true b e) e
  by_test t u e same = ap (λ x. cond x (dismissed true b e) e) same

  -- nothing is cleared yet
  pub no_ways : (c : ℕ) → f ≡ cleared_where (first_ways c 0) b f
  no_ways c = fun_ext (λ d. fun_ext (λ w. let none : (eqb d c && ltb w 0) ≡ false = grind (arith, nat_tests) in sym (by_test (eqb d c && ltb w 0) false (f d w) none)))

  pub no_caches : f ≡ cleared_where (first_caches 0) b f
  no_caches = fun_ext (λ d. fun_ext (λ w. let none : ltb d 0 ≡ false = grind (arith, nat_tests) in sym (by_test (ltb d 0) false (f d w) none)))

  -- one way more
  pub next_way : (c k : ℕ) → c < 8 → k < 4
      → put₂ 8 4 (cleared_where (first_ways c k) b f) c k (dismissed true b (cleared_where (first_ways c k) b f c k)) ≡ cleared_where (first_ways c (k + 1)) b f
  next_way c k lc lk = fun_ext (λ d. fun_ext (λ w. cache d w (ltb c 8 && eqb d c) refl))
    where
      F : ℕ → ℕ → Entry
      F = cleared_where (first_ways c k) b f

      way : (d w : ℕ) → d ≡ c → (y : Bool) → (ltb k 4 && eqb w k) ≡ y → cond y (dismissed true b (F c k)) (F c w) ≡ cleared_where (first_ways c (k + 1)) b f d w
      way d w e true p =
          let h : w ≡ k = eqb-true w k (and_parts (ltb k 4) (eqb w k) p).1 in
          let before : (eqb c c && ltb k k) ≡ false = grind (arith, nat_tests) in
          let after : (eqb d c && ltb w (k + 1)) ≡ true = grind (arith, nat_tests) in
          let same : f c k ≡ f d w = cc in
          ap (λ y. dismissed true b (cond y (dismissed true b (f c k)) (f c k))) before ∙ ap (dismissed true b) same ∙ sym (by_test (eqb d c && ltb w (k + 1)) true (f d w) after)
      way d w e false p =
          let tests : (eqb c c && ltb w k) ≡ (eqb d c && ltb w (k + 1)) = grind (arith, nat_tests) in
          by_test (eqb c c && ltb w k) (eqb d c && ltb w (k + 1)) (f c w) tests
          ∙ ap (λ x. cond (eqb d c && ltb w (k + 1)) (dismissed true b (f x w)) (f x w)) (sym e)

      cache : (d w : ℕ) (x : Bool) → (ltb c 8 && eqb d c) ≡ x → cond x (put 4 (F c) k (dismissed true b (F c k))) (F d) w ≡ cleared_where (first_ways c (k + 1)) b f d w
      cache d w true p = way d w (eqb-true d c (and_parts (ltb c 8) (eqb d c) p).1) (ltb k 4 && eqb w k) refl
      cache d w false p =
          let tests : (eqb d c && ltb w k) ≡ (eqb d c && ltb w (k + 1)) = grind (arith, nat_tests) in
          by_test (eqb d c && ltb w k) (eqb d c && ltb w (k + 1)) (f d w) tests

  -- one cache more
  pub next_cache : (k : ℕ) → cleared_where (λ d _. eqb d k) b (cleared_where (first_caches k) b f) ≡ cleared_where (first_caches (k + 1)) b f
  next_cache k = fun_ext (λ d. fun_ext (λ w. go d (f d w) (eqb d k) refl))
    where
      go : (d : ℕ) (e : Entry) (x : Bool) → eqb d k ≡ x
          → cond x (dismissed true b (cond (ltb d k) (dismissed true b e) e)) (cond (ltb d k) (dismissed true b e) e) ≡ cond (ltb d (k + 1)) (dismissed true b e) e
      go d e true p =
          let before : ltb d k ≡ false = grind (arith, nat_tests) in
          let after : ltb d (k + 1) ≡ true = grind (arith, nat_tests) in
          ap (λ y. dismissed true b (cond y (dismissed true b e) e)) before ∙ sym (by_test (ltb d (k + 1)) true e after)
      go d e false p = let tests : ltb d k ≡ ltb d (k + 1) = grind (arith, nat_tests) in by_test (ltb d k) (ltb d (k + 1)) e tests

-- ---- their ends: outside the table there is nothing to clear

outside : (xs : List Entry) (s c w : ℕ) → (ltb c 8 && ltb w 4) ≡ false → grid no_entry xs s c w ≡ no_entry
unfolding grid
outside xs s c w out =
    let test : (ltb s 16 && (ltb c 8 && ltb w 4)) ≡ false = grind (arith, nat_tests) in
    ap (λ y. cond y (get_or xs ((s * 8 + c) * 4 + w) no_entry) no_entry) test

nothing : (b : ℕ) (e : Entry) → e ≡ no_entry → dismissed true b e ≡ e
nothing b e none = ap (dismissed true b) none ∙ sym none

module _ (xs : List Entry) (s b : ℕ) where
  pub all_ways : (c : ℕ) → cleared_where (first_ways c 4) b (grid no_entry xs s) ≡ cleared_where (λ d _. eqb d c) b (grid no_entry xs s)
  all_ways c = fun_ext (λ d. fun_ext (λ w. go d w (eqb d c) (ltb w 4) refl))
    where
      go : (d w : ℕ) (t u : Bool) → ltb w 4 ≡ u
          → cond (t && u) (dismissed true b (grid no_entry xs s d w)) (grid no_entry xs s d w) ≡ cond t (dismissed true b (grid no_entry xs s d w)) (grid no_entry xs s d w)
      go d w true true p = refl
      go d w true false p =
          let out : (ltb d 8 && ltb w 4) ≡ false = grind (arith, nat_tests) in
          sym (nothing b (grid no_entry xs s d w) (outside xs s d w out))
      go d w false true p = refl
      go d w false false p = refl

  pub all_caches : ◌≡◌ {A = ℕ → ℕ → Entry} (cleared_where (first_caches 8) b (grid no_entry xs s)) (λ c w. dismissed true b (grid no_entry xs s c w))
  all_caches = fun_ext (λ d. fun_ext (λ w. go d w (ltb d 8) refl))
    where
      go : (d w : ℕ) (t : Bool) → ltb d 8 ≡ t
          → cond t (dismissed true b (grid no_entry xs s d w)) (grid no_entry xs s d w) ≡ dismissed true b (grid no_entry xs s d w)
      go d w true p = refl
      go d w false p =
          let out : (ltb d 8 && ltb w 4) ≡ false = grind (arith, nat_tests) in
          sym (nothing b (grid no_entry xs s d w) (outside xs s d w out))

-- ---- a turn of each loop, on the table that it found

module _ (f g h : ℕ → ℕ → ℕ → Entry) (s b : ℕ) where
  pub way_cleared : (c k : ℕ) → c < 8 → k < 4 → g ≡ put 16 f s (cleared_where (first_ways c k) b (f s)) → h ≡ put₃ 16 8 4 g s c k (dismissed true b (g s c k))
      → h ≡ put 16 f s (cleared_where (first_ways c (k + 1)) b (f s))
  way_cleared c k lc lk before step =
      step
      ∙ ap (λ a. put₃ 16 8 4 a s c k (dismissed true b (a s c k))) before
      ∙ put_again f s (cleared_where (first_ways c k) b (f s)) (λ row. put₂ 8 4 row c k (dismissed true b (row c k)))
      ∙ ap (put 16 f s) (next_way b (f s) c k lc lk)

  pub cache_cleared : (k : ℕ) → g ≡ put 16 f s (cleared_where (first_caches k) b (f s)) → h ≡ put 16 g s (cleared_where (λ d _. eqb d k) b (g s))
      → h ≡ put 16 f s (cleared_where (first_caches (k + 1)) b (f s))
  cache_cleared k before step =
      step
      ∙ ap (λ a. put 16 a s (cleared_where (λ d _. eqb d k) b (a s))) before
      ∙ put_again f s (cleared_where (first_caches k) b (f s)) (cleared_where (λ d _. eqb d k) b)
      ∙ ap (put 16 f s) (next_cache b (f s) k)
