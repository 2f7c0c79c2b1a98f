-- A text is shown byte by byte, the words of a content word by word.
use Rattle.std.specs.Str.{IsAscii}
use Rattle.std.proofs.lemmas.Str.{IsAscii-append}
use Rattle.std.proofs.lemmas.Str.Ascii.{IsAscii-nil, IsAscii-push}
use Rattle.std.proofs.Common.{refl, subst, ◌≡◌, ℕ, Bool, true, false, cond, ◌/◌, ◌%◌, ◌+◌, ◌*◌, ◌<◌, List, [], ◌∷◌, ◌++◌, length, get_or, take, codes, decimal, sym, ap, ◌∙◌, append_assoc, add-one, arith}
use Rattle.std.specs.Int.{from_le_bytes, w64}
use Rattle.std.specs.Simd.{first_chunks}
use Rattle.std.proofs.lemmas.List.{append-nil, take_more}
use Rattle.bedrock.proofs.Bytes.{chunk_byte}
use Rattle.sheet.specs.Bytes.{field}
use Rattle.sheet.proofs.Fields.{field_is}
use Rattle.listing.specs.Lines.{escaped, plain, hex_digit, shown, first_words}

pub shown_append : (bs cs : List ℕ) → shown (bs ++ cs) ≡ shown bs ++ shown cs
shown_append [] cs = refl
shown_append (b ∷ bs) cs = ap (λ l. escaped b ++ l) (shown_append bs cs) ∙ sym (append_assoc (escaped b) (shown bs) (shown cs))

pub shown_more : (bs : List ℕ) (i : ℕ) → i < length bs → shown (take (i + 1) bs) ≡ shown (take i bs) ++ escaped (get_or bs i 0)
shown_more bs i h =
    ap shown (take_more bs i 0 h)
    ∙ shown_append (take i bs) (get_or bs i 0 ∷ [])
    ∙ ap (λ l. shown (take i bs) ++ l) (append-nil (escaped (get_or bs i 0)))

-- what is shown is ASCII
hex_ascii : (d : ℕ) → d < 16 → hex_digit d < 128
hex_ascii d h = grind arith

plain_ascii : (b : ℕ) → plain b ≡ true → b < 128
plain_ascii b e = grind arith

escaped_ascii : (b : ℕ) → b < 256 → IsAscii (escaped b)
escaped_ascii b h = by_plain (plain b) refl
  where
    by_plain : (p : Bool) → plain b ≡ p → IsAscii (cond p (b ∷ []) (92 ∷ 120 ∷ hex_digit (b / 16) ∷ hex_digit (b % 16) ∷ []))
    by_plain true e = IsAscii-push [] b IsAscii-nil (plain_ascii b e)
    by_plain false e =
        let backslash = IsAscii-push [] 92 IsAscii-nil (omega arith) in
        let x = IsAscii-push (92 ∷ []) 120 backslash (omega arith) in
        let high = IsAscii-push (92 ∷ 120 ∷ []) (hex_digit (b / 16)) x (hex_ascii (b / 16) (omega arith)) in
        IsAscii-push (92 ∷ 120 ∷ hex_digit (b / 16) ∷ []) (hex_digit (b % 16)) high (hex_ascii (b % 16) (omega arith))

pub ascii_more : (bs : List ℕ) (i : ℕ) → i < length bs → get_or bs i 0 < 256 → IsAscii (shown (take i bs)) → IsAscii (shown (take (i + 1) bs))
ascii_more bs i h g a = subst IsAscii (sym (shown_more bs i h)) (IsAscii-append _ _ a (escaped_ascii _ g))

-- word i of a content, as its chunk of 8 bytes gives it
pub word_of_chunk : (bs : List ℕ) (k i : ℕ) → i < k → from_le_bytes w64 (get_or (first_chunks 8 k bs) i []) ≡ field (8 * i) 8 bs
word_of_chunk bs k i h = sym (field_is (8 * i) bs _ (λ j l. chunk_byte 8 k i bs [] (8 * i + j) j h l (omega arith)))

pub words_more : (i v : ℕ) (bs : List ℕ) → v ≡ field (8 * i) 8 bs → first_words i bs ++ (codes " " ++ decimal v) ≡ first_words (i + 1) bs
words_more i v bs e = rw (e, add-one)
