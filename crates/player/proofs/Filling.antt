-- A content is written block by block.
use Rattle.std.proofs.Common.{◌≡◌, ℕ, ◌+◌, ◌*◌, ◌/◌, ◌<◌, List, length, take, drop, sym, refl, ap, ◌∙◌, add-one, arith}
use Rattle.std.specs.Prelude.{slice_index, slice_index_or}
use Rattle.std.specs.Simd.{first_chunks}
use Rattle.std.proofs.lemmas.List.{get_or-take, get_or-drop}
use Rattle.bedrock.specs.declared.words.Words.{Words}
use Rattle.bedrock.specs.BlockWords.{words_in}
use Rattle.bedrock.proofs.Bytes.{chunk_byte}
use Rattle.memory.specs.Blocks.{written}
use Rattle.sheet.proofs.Fields.{field_is}
use Rattle.player.specs.Contents.{filled_by, words_at}

-- the words of a block are those of its chunk
chunk_words : (i : ℕ) (xs d : List ℕ) → i < length xs / 16 → words_in (slice_index_or (first_chunks 16 (length xs / 16) xs) i d) ≡ words_at i xs
chunk_words i xs d h =
    let ys = slice_index_or (first_chunks 16 (length xs / 16) xs) i d in
    let at : (a b : ℕ) → b < 16 → a ≡ 16 * i + b → slice_index xs a ≡ slice_index ys b = λ a b l e. chunk_byte 16 (length xs / 16) i xs d a b h l (omega arith) in
    let one = field_is (16 * i) xs (take 8 ys) (λ j l. at _ j (omega arith) (omega arith) ∙ sym (get_or-take 8 ys j 0 l)) in
    let two = field_is (16 * i + 8) xs (drop 8 ys) (λ j l. at _ (8 + j) (omega arith) (omega arith) ∙ sym (get_or-drop 8 ys j 0)) in
    rw (one, two) refl

pub filled_none : (m : ℕ → Words) (b : ℕ) (bs : List ℕ) → m ≡ filled_by 0 m b bs
unfolding filled_by
filled_none m b bs = refl

-- one block more, written with the words of its chunk
pub filled_more : (n : ℕ) (m was now : ℕ → Words) (b : ℕ) (bs d : List ℕ) (cs : List (List ℕ)) (ws : Words) → was ≡ filled_by n m b bs → cs ≡ first_chunks 16 (length bs / 16) bs
    → n < length bs / 16 → ws ≡ words_in (slice_index_or cs n d) → now ≡ written was (b + n) ws → now ≡ filled_by (n + 1) m b bs
unfolding filled_by
filled_more n m was now b bs d cs ws so_far chunks below words more =
    let here : ws ≡ words_at n bs = words ∙ ap (λ l. words_in (slice_index_or l n d)) chunks ∙ chunk_words n bs d below in
    more ∙ rw (add-one, so_far, here) refl
