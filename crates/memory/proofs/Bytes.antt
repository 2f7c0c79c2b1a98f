-- Words in bytes.
use Rattle.std.specs.Prelude.{◌≡◌, ℕ, ◌+◌, ◌*◌, ◌^◌, ◌<◌, ◌≤◌, ◌≢◌, List, length, take, drop, replicate, slice_index}
use Rattle.std.specs.Int.{w64, from_le_bytes, to_le_bytes}
use Rattle.std.proofs.Math.Path.{ap, fun_ext}
use Rattle.std.proofs.Common.{sym, ◌∙◌, ⊎_elim, arith, rules}
use borrow.Rule.Slice.PartMut.{put_mid}
use Rattle.std.proofs.lemmas.List.{places, get_or-take, get_or-drop}
use Rattle.std.proofs.lemmas.Nat.{from_le_bytes-to_le_bytes_8}
use Rattle.std.proofs.lemmas.Bool.{cases_lt}
use Rattle.bedrock.specs.declared.words.Words.{Words}
use Rattle.bedrock.specs.BlockWords.{words_of, words_in}
use Rattle.bedrock.proofs.Bytes.{number_is}
use Rattle.memory.specs.Blocks.{word_at, start_of, image_blocks, empty_blocks, written}
use Rattle.memory.specs.Beyond.{zero_block}
use Rattle.memory.proofs.Writes.{all_same, written_inside}

-- a word is what its eight bytes say
word_is : (xs ys : List ℕ) (p : ℕ) → ((j : ℕ) → j < 8 → slice_index xs (p + j) ≡ slice_index ys j) → word_at xs p ≡ from_le_bytes w64 ys
unfolding word_at
word_is xs ys p h = let n = number_is xs ys p 7 (λ j l. h j (omega arith)) in grind arith

-- a block is what its sixteen bytes say
block_is : (xs ys : List ℕ) (b : ℕ) → ((p j : ℕ) → j < 16 → p ≡ 16 * b + j → slice_index xs p ≡ slice_index ys j) → image_blocks xs b ≡ words_in ys
unfolding image_blocks
block_is xs ys b h =
    let one = word_is xs (take 8 ys) (start_of b 0) (λ j l. h _ j (omega arith) (omega arith) ∙ sym (get_or-take 8 ys j 0 l)) in
    let two = word_is xs (drop 8 ys) (start_of b 1) (λ j l. h _ (8 + j) (omega arith) (omega arith) ∙ sym (get_or-drop 8 ys j 0)) in
    ap (λ w. words_of w (word_at xs (start_of b 1))) one ∙ ap (λ w. words_of (from_le_bytes w64 (take 8 ys)) w) two

-- a block depends on its sixteen bytes alone
block_same : (xs zs : List ℕ) (b : ℕ) → ((k : ℕ) → 16 * b ≤ k → k < 16 * b + 16 → slice_index zs k ≡ slice_index xs k) → image_blocks zs b ≡ image_blocks xs b
block_same xs zs b h =
    let ys = take 16 (drop (16 * b) xs) in
    let at : (p j : ℕ) → j < 16 → p ≡ 16 * b + j → slice_index xs p ≡ slice_index ys j =
    λ p j l e. rw e (sym (get_or-take 16 (drop (16 * b) xs) j 0 l ∙ get_or-drop (16 * b) xs j 0)) in
    block_is zs ys b (λ p j l e. h p (omega arith) (omega arith) ∙ at p j l e) ∙ sym (block_is xs ys b at)

-- a word depends on its eight bytes alone
pub word_same : (xs zs : List ℕ) (p : ℕ) → ((k : ℕ) → p ≤ k → k < p + 8 → slice_index xs k ≡ slice_index zs k) → word_at xs p ≡ word_at zs p
word_same xs zs p h =
    let ys = take 8 (drop p zs) in
    let at : (j : ℕ) → j < 8 → slice_index zs (p + j) ≡ slice_index ys j = λ j l. sym (get_or-take 8 (drop p zs) j 0 l ∙ get_or-drop p zs j 0) in
    word_is xs ys p (λ j l. h (p + j) (omega arith) (omega arith) ∙ at j l) ∙ sym (word_is zs ys p at)

-- what a write of eight bytes leaves
part_at : (xs ys : List ℕ) (p k j : ℕ) → k ≡ 8 → length ys ≡ 8 → p + 8 ≤ length xs → j < 8 → slice_index (put_mid p k xs ys) (p + j) ≡ slice_index ys j
part_at xs ys p k j e l h i = search (rules, places)

pub part_below : (xs ys : List ℕ) (p k i : ℕ) → p + 8 ≤ length xs → i < p → slice_index (put_mid p k xs ys) i ≡ slice_index xs i
part_below xs ys p k i h l = search (rules, places)

pub part_above : (xs ys : List ℕ) (p k i : ℕ) → k ≡ 8 → length ys ≡ 8 → p + 8 ≤ length xs → p + 8 ≤ i → slice_index (put_mid p k xs ys) i ≡ slice_index xs i
part_above xs ys p k i e l h b = search (rules, places)

pub part_length : (xs ys : List ℕ) (p k : ℕ) → k ≡ 8 → length ys ≡ 8 → p + 8 ≤ length xs → length (put_mid p k xs ys) ≡ length xs
part_length xs ys p k e l h = search (rules, places)

pub word_part : (xs ys : List ℕ) (p k v : ℕ) → k ≡ 8 → ys ≡ to_le_bytes w64 v → v < 2 ^ 64 → p + 8 ≤ length xs → word_at (put_mid p k xs ys) p ≡ v
word_part xs ys p k v e d f h =
    word_is (put_mid p k xs ys) ys p (λ j l. part_at xs ys p k j e (ap length d) h l) ∙ ap (from_le_bytes w64) d ∙ from_le_bytes-to_le_bytes_8 v f

pub image_empty : (n : ℕ) → image_blocks (replicate n 0) ≡ empty_blocks
unfolding empty_blocks
image_empty n = fun_ext (λ b. zero_block (replicate n 0) b (λ k l m. all_same {X = ℕ} n k 0))

-- a write of one block
module _ (xs ys : List ℕ) (b : ℕ) (words : Words)
    (one : word_at ys (start_of b 0) ≡ words.first) (two : word_at ys (start_of b 1) ≡ words.second)
    (below : (k : ℕ) → k < 16 * b → slice_index ys k ≡ slice_index xs k) (above : (k : ℕ) → 16 * b + 16 ≤ k → slice_index ys k ≡ slice_index xs k) where
  here : image_blocks ys b ≡ words
  unfolding image_blocks
  here = ap (λ w. words_of w (word_at ys (start_of b 1))) one ∙ ap (λ w. words_of words.first w) two

  other : (k : ℕ) → k ≢ b → image_blocks ys k ≡ image_blocks xs k
  other k ne =
      ⊎_elim
      (λ (l : k < b). block_same xs ys k (λ i m n. below i (omega arith)))
      (λ l. block_same xs ys k (λ i m n. above i (omega arith)))
      (cases_lt k b)

  pub image_write : b < 1024 → image_blocks ys ≡ written (image_blocks xs) b words
  image_write lt = written_inside (image_blocks xs) (image_blocks ys) b words here other lt
