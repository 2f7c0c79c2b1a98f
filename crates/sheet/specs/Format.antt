-- The records of a sheet: each as bytes, and what stands at the front of bytes.
use Rattle.std.specs.Prelude.{ℕ, ◌+◌, ◌*◌, ◌/◌, ◌%◌, Bool, true, cond, ◌&&◌, List, [], ◌∷◌, ◌++◌, length, take, drop, ◌==◌, nat_le, nat_lt, slice_index}
use Rattle.sheet.specs.Bytes.{bytes_of, field}
use Rattle.sheet.specs.Records.{Item, load, store, deliver, turn, content, note}

-- The letter of a record says how many bytes follow:
-- L cache, block (2), word; S the same and value (8); D channel, pick; M pick;
-- C first block (2), count, count times 16 bytes; N length, text.
abbrev pub letter_l : ℕ
letter_l = 76

abbrev pub letter_s : ℕ
letter_s = 83

abbrev pub letter_d : ℕ
letter_d = 68

abbrev pub letter_m : ℕ
letter_m = 77

abbrev pub letter_c : ℕ
letter_c = 67

abbrev pub letter_n : ℕ
letter_n = 78

-- a record as bytes
abbrev pub encode : Item → List ℕ
encode (load c b w) = letter_l ∷ c ∷ (bytes_of 2 b ++ (w ∷ []))
encode (store c b w v) = letter_s ∷ c ∷ (bytes_of 2 b ++ (w ∷ bytes_of 8 v))
encode (deliver k p) = letter_d ∷ k ∷ p ∷ []
encode (turn p) = letter_m ∷ p ∷ []
encode (content b bs) = letter_c ∷ (bytes_of 2 b ++ ((length bs / 16) ∷ bs))
encode (note t) = letter_n ∷ length t ∷ t

-- how many bytes those are
abbrev pub size : Item → ℕ
size (load c b w) = 5
size (store c b w v) = 13
size (deliver k p) = 3
size (turn p) = 2
size (content b bs) = 4 + length bs
size (note t) = 2 + length t

-- a note of at most 255 bytes, a content of 0 to 255 whole blocks
abbrev pub proper : Item → Bool
proper (load c b w) = true
proper (store c b w v) = true
proper (deliver k p) = true
proper (turn p) = true
proper (content b bs) = length bs % 16 == 0 && nat_lt (length bs / 16) 256
proper (note t) = nat_lt (length t) 256

-- What stands at the front of bytes: nothing, a record with the bytes after it, or a refusal by its number.
pub data Front : Type 0 where
  ends : Front
  holds : Item → List ℕ → Front
  refuses : ℕ → Front

-- a record of n bytes, cut short (9) where fewer are there
abbrev pub fixed : ℕ → Item → List ℕ → Front
fixed n x bs = cond (nat_le n (length bs)) (holds x (drop n bs)) (refuses 9)

-- a record of k bytes and then n more, which it holds
abbrev pub sized : ℕ → ℕ → (List ℕ → Item) → List ℕ → Front
sized k n f bs = cond (nat_le k (length bs)) (cond (nat_le n (length (drop k bs))) (holds (f (take n (drop k bs))) (drop n (drop k bs))) (refuses 9)) (refuses 9)

-- what bs, which follow a letter, hold
abbrev pub load_in : List ℕ → Front
load_in bs = fixed 4 (load (slice_index bs 0) (field 1 2 bs) (slice_index bs 3)) bs

abbrev pub store_in : List ℕ → Front
store_in bs = fixed 12 (store (slice_index bs 0) (field 1 2 bs) (slice_index bs 3) (field 4 8 bs)) bs

abbrev pub deliver_in : List ℕ → Front
deliver_in bs = fixed 2 (deliver (slice_index bs 0) (slice_index bs 1)) bs

abbrev pub turn_in : List ℕ → Front
turn_in bs = fixed 1 (turn (slice_index bs 0)) bs

abbrev pub content_in : List ℕ → Front
content_in bs = sized 3 (16 * slice_index bs 2) (content (field 0 2 bs)) bs

abbrev pub note_in : List ℕ → Front
note_in bs = sized 1 (slice_index bs 0) note bs

-- by the letter k, with bs after it; any other letter is refused with 8
abbrev pub lettered : ℕ → List ℕ → Front
lettered k bs =
    cond (k == letter_l) (load_in bs)
    (cond (k == letter_s) (store_in bs)
    (cond (k == letter_d) (deliver_in bs)
    (cond (k == letter_m) (turn_in bs)
    (cond (k == letter_c) (content_in bs)
    (cond (k == letter_n) (note_in bs)
    (refuses 8))))))

unfoldable pub front : List ℕ → Front
front [] = ends
front (k ∷ bs) = lettered k bs
