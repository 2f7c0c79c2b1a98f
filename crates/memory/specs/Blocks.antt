-- What a memory holds: two words for each of the blocks 0 to 1,023, and zeros past them.
use Rattle.std.specs.Prelude.{ℕ, ◌+◌, ◌*◌, ◌^◌, cond, ◌&&◌, List, ◌==◌, nat_lt, slice_index, slice_index_or}
use Rattle.bedrock.specs.declared.words.Words.{Words}
use Rattle.bedrock.specs.BlockWords.{words_of, no_words}

-- zeros in every block
unfoldable pub empty_blocks : ℕ → Words
empty_blocks b = no_words

-- the blocks after a write: block b has the words, and the others are as before; past block 1,023 nothing changes
unfoldable pub written : (ℕ → Words) → ℕ → Words → ℕ → Words
written blocks b words k = cond (nat_lt b 1024 && k == b) words (blocks k)

-- a table of words, a row for each block
unfoldable pub table_blocks : List Words → ℕ → Words
table_blocks rows b = slice_index_or rows b no_words

-- eight bytes from a place on, low byte first
unfoldable pub word_at : List ℕ → ℕ → ℕ
word_at bytes at =
    slice_index bytes at
    + slice_index bytes (at + 1) * 2 ^ 8
    + slice_index bytes (at + 2) * 2 ^ 16
    + slice_index bytes (at + 3) * 2 ^ 24
    + slice_index bytes (at + 4) * 2 ^ 32
    + slice_index bytes (at + 5) * 2 ^ 40
    + slice_index bytes (at + 6) * 2 ^ 48
    + slice_index bytes (at + 7) * 2 ^ 56

-- word w of block b starts at byte 16 b + 8 w
abbrev pub start_of : ℕ → ℕ → ℕ
start_of b w = 16 * b + 8 * w

-- an image of bytes
unfoldable pub image_blocks : List ℕ → ℕ → Words
image_blocks bytes b = words_of (word_at bytes (start_of b 0)) (word_at bytes (start_of b 1))
