-- Numbers in bytes: low byte first.
use Rattle.std.specs.Prelude.{ℕ, zero, suc, ◌+◌, ◌*◌, ◌/◌, ◌%◌, ◌<◌, List, [], ◌∷◌, slice_index}
use Rattle.std.specs.List.{AllByRecursion}

-- the number n as k bytes
abbrev pub bytes_of : ℕ → ℕ → List ℕ
bytes_of zero n = []
bytes_of (suc k) n = (n % 256) ∷ bytes_of k (n / 256)

-- the number in the k bytes of bs from place i on
abbrev pub field : ℕ → ℕ → List ℕ → ℕ
field i zero bs = 0
field i (suc k) bs = slice_index bs i + 256 * field (suc i) k bs

-- each element is a byte
abbrev pub Bytes : List ℕ → Type 0
Bytes bs = AllByRecursion (λ b. b < 256) bs
