-- Bytes in a row: what a chunk of them holds, and the number that they say.
use Rattle.std.proofs.Common.{◌≡◌, ℕ, zero, suc, ◌+◌, ◌*◌, ◌<◌, ◌≤◌, List, drop, sym, refl, ◌∙◌, arith}
use Rattle.std.specs.Prelude.{slice_index, slice_index_or}
use Rattle.std.specs.Int.{byte_worth, sum_through}
use Rattle.std.specs.Simd.{first_chunks}
use Rattle.std.proofs.lemmas.List.{get_or-take, get_or-drop}

-- the bytes of a chunk
pub chunk_byte : (n k i : ℕ) (xs d : List ℕ) (p j : ℕ) → i < k → j < n → p ≡ i * n + j → slice_index xs p ≡ slice_index (slice_index_or (first_chunks n k xs) i d) j
chunk_byte n zero i xs d p j h l e = absurd (omega arith)
chunk_byte n (suc k) zero xs d p j h l e = let q : p ≡ j = omega arith in rw q (sym (get_or-take n xs j 0 l))
chunk_byte n (suc k) (suc i) xs d p j h l e =
    let q : p ≡ n + (i * n + j) = omega arith in
    rw q (sym (get_or-drop n xs (i * n + j) 0) ∙ chunk_byte n k i (drop n xs) d (i * n + j) j (omega arith) l refl)

-- the number that bytes say, in whatever list they stand
pub number_is : (xs ys : List ℕ) (p k : ℕ) → ((j : ℕ) → j ≤ k → slice_index xs (p + j) ≡ slice_index ys j)
    → sum_through (λ i. byte_worth i (slice_index xs (p + i))) k ≡ sum_through (λ i. byte_worth i (slice_index ys i)) k
number_is xs ys p zero h = h 0 (omega arith)
number_is xs ys p (suc k) h = rw (number_is xs ys p k (λ j l. h j (omega arith)), h (suc k) (omega arith)) refl
