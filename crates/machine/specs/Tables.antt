-- Tables as functions of their keys, changed at one key; and the lowest number that passes a test.
use Rattle.std.specs.Prelude.{ℕ, zero, suc, Bool, cond, ◌&&◌, Some, None, Option, ◌==◌, nat_lt}

-- a table of n places with v at place i; outside its places nothing changes
abbrev pub put : {A : Type 0} → ℕ → (ℕ → A) → ℕ → A → ℕ → A
put n f i v j = cond (nat_lt i n && j == i) v (f j)

-- the same with two and with three keys
abbrev pub put₂ : {A : Type 0} → ℕ → ℕ → (ℕ → ℕ → A) → ℕ → ℕ → A → ℕ → ℕ → A
put₂ l n f i j v = put l f i (put n (f i) j v)

abbrev pub put₃ : {A : Type 0} → ℕ → ℕ → ℕ → (ℕ → ℕ → ℕ → A) → ℕ → ℕ → ℕ → A → ℕ → ℕ → ℕ → A
put₃ l m n f i j k v = put l f i (put₂ m n (f i) j k v)

-- the lowest number below n that passes a test
abbrev pub lowest : (ℕ → Bool) → ℕ → Option ℕ
lowest test zero = None
lowest test (suc n) = elim (lowest test n) [ Some k ↦ Some k | None ↦ cond (test n) (Some n) None ]
