-- Eight bytes of a sheet are a number.
use Rattle.std.proofs.Common.{◌≡◌, ℕ, ◌+◌, ◌<◌, List, arith}
use Rattle.std.specs.Prelude.{slice_index}
use Rattle.std.specs.Int.{w64, from_le_bytes}
use Rattle.bedrock.proofs.Bytes.{number_is}
use Rattle.sheet.specs.Bytes.{field}

-- a field of eight bytes says what the same bytes say elsewhere
pub field_is : (p : ℕ) (xs ys : List ℕ) → ((j : ℕ) → j < 8 → slice_index xs (p + j) ≡ slice_index ys j) → field p 8 xs ≡ from_le_bytes w64 ys
field_is p xs ys h = let n = number_is xs ys p 7 (λ j l. h j (omega arith)) in grind arith
