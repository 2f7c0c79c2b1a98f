-- Past the last block there are zeros: why each kind of memory keeps this law.
use Rattle.std.specs.Prelude.{◌≡◌, ℕ, ◌+◌, ◌*◌, ◌<◌, ◌≤◌, List, length, slice_index}
use Rattle.std.proofs.Common.{ap, ◌∙◌, arith}
use Rattle.std.proofs.lemmas.List.{get_or_past}
use Rattle.bedrock.specs.declared.words.Words.{Words}
use Rattle.bedrock.specs.BlockWords.{words_of, no_words}
use Rattle.memory.specs.Blocks.{word_at, start_of, image_blocks, table_blocks}

-- eight zero bytes are the word 0
zero_word : (xs : List ℕ) (p : ℕ) → ((k : ℕ) → p ≤ k → k < p + 8 → slice_index xs k ≡ 0) → word_at xs p ≡ 0
unfolding word_at
zero_word xs p h =
    let h0 = h p (omega arith) (omega arith) in
    let h1 = h (p + 1) (omega arith) (omega arith) in
    let h2 = h (p + 2) (omega arith) (omega arith) in
    let h3 = h (p + 3) (omega arith) (omega arith) in
    let h4 = h (p + 4) (omega arith) (omega arith) in
    let h5 = h (p + 5) (omega arith) (omega arith) in
    let h6 = h (p + 6) (omega arith) (omega arith) in
    let h7 = h (p + 7) (omega arith) (omega arith) in
    omega arith

-- sixteen zero bytes are the words of an empty block
pub zero_block : (xs : List ℕ) (b : ℕ) → ((k : ℕ) → 16 * b ≤ k → k < 16 * b + 16 → slice_index xs k ≡ 0) → image_blocks xs b ≡ no_words
unfolding image_blocks
zero_block xs b h =
    let one = zero_word xs (start_of b 0) (λ k l m. h k (omega arith) (omega arith)) in
    let two = zero_word xs (start_of b 1) (λ k l m. h k (omega arith) (omega arith)) in
    ap (λ w. words_of w (word_at xs (start_of b 1))) one ∙ ap (λ w. words_of 0 w) two

-- past the last byte there are zeros
pub image_beyond : (xs : List ℕ) → length xs ≡ 16384 → (b : ℕ) → 1024 ≤ b → image_blocks xs b ≡ no_words
image_beyond xs sized b le = zero_block xs b (λ k l m. get_or_past xs k 0 (omega arith))

pub table_beyond : (rows : List Words) → length rows ≡ 1024 → (b : ℕ) → 1024 ≤ b → table_blocks rows b ≡ no_words
unfolding table_blocks
table_beyond rows sized b le = get_or_past rows b no_words (omega arith)
