-- Arrays read as functions of their keys. Outside its places a table shows its zero.
use Rattle.std.specs.Prelude.{ℕ, ◌+◌, ◌*◌, cond, ◌&&◌, List, nat_lt, slice_index_or}

-- n places in a row
unfoldable pub column : {A : Type 0} → ℕ → A → List A → ℕ → A
column n z xs i = cond (nat_lt i n) (slice_index_or xs i z) z

-- 16 sets of 8 caches
unfoldable pub rows : {A : Type 0} → A → List A → ℕ → ℕ → A
rows z xs s c = cond (nat_lt s 16 && nat_lt c 8) (slice_index_or xs (s * 8 + c) z) z

-- 16 sets of 8 caches of 4 ways
unfoldable pub grid : {A : Type 0} → A → List A → ℕ → ℕ → ℕ → A
grid z xs s c w = cond (nat_lt s 16 && (nat_lt c 8 && nat_lt w 4)) (slice_index_or xs ((s * 8 + c) * 4 + w) z) z

-- the same at every key
unfoldable pub everywhere : {A : Type 0} → A → ℕ → A
everywhere z i = z

unfoldable pub everywhere₂ : {A : Type 0} → A → ℕ → ℕ → A
everywhere₂ z s c = z

unfoldable pub everywhere₃ : {A : Type 0} → A → ℕ → ℕ → ℕ → A
everywhere₃ z s c w = z
