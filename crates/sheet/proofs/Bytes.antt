-- Bytes at their places, and the numbers they write.
use Rattle.std.proofs.Common.{◌≡◌, ℕ, zero, suc, ◌+◌, ◌*◌, ◌/◌, ◌%◌, ◌<◌, ◌≤◌, List, [], ◌∷◌, ◌++◌, length, get_or, drop, refl, ap, ◌∙◌, add-one, arith}
use Rattle.std.proofs.lemmas.List.{drop_more}
use Rattle.sheet.specs.Bytes.{bytes_of, field, Bytes}

-- the k elements of bs from place i on
abbrev pub places : ℕ → ℕ → List ℕ → List ℕ
places i zero bs = []
places i (suc k) bs = get_or bs i 0 ∷ places (suc i) k bs

-- the bytes of the number that bytes write are those bytes
pub bytes_of_field : (k i : ℕ) (bs : List ℕ) → ((j : ℕ) → get_or bs j 0 < 256) → bytes_of k (field i k bs) ≡ places i k bs
bytes_of_field zero i bs h = refl
bytes_of_field (suc k) i bs h =
    let b = h i in
    let p : (get_or bs i 0 + 256 * field (suc i) k bs) % 256 ≡ get_or bs i 0 = omega arith in
    let q : (get_or bs i 0 + 256 * field (suc i) k bs) / 256 ≡ field (suc i) k bs = omega arith in
    rw (p, q) (ap (λ l. get_or bs i 0 ∷ l) (bytes_of_field k (suc i) bs h))

-- bytes are their first n, and what follows
unrolled : (n i : ℕ) (bs : List ℕ) → i + n ≤ length bs → drop i bs ≡ places i n bs ++ drop (i + n) bs
unrolled zero i bs h = ap (λ k. drop k bs) (omega arith)
unrolled (suc n) i bs h =
    let m : i < length bs = omega arith in
    let k : i + suc n ≡ suc i + n = omega arith in
    let t = unrolled n (suc i) bs (omega arith) in
    drop_more bs i 0 m ∙ rw (add-one, k) (ap (λ zs. get_or bs i 0 ∷ zs) t)

pub opened : (n : ℕ) (bs : List ℕ) → n ≤ length bs → bs ≡ places 0 n bs ++ drop n bs
opened n bs h = let o : 0 + n ≡ n = omega arith in rw o at (unrolled n 0 bs (omega arith))

-- every element of bytes is below 256, also past the end
pub byte_at : (bs : List ℕ) → Bytes bs → (i : ℕ) → get_or bs i 0 < 256
byte_at [] h i = omega arith
byte_at (b ∷ bs) h zero = h.0
byte_at (b ∷ bs) h (suc i) = byte_at bs h.1 i
