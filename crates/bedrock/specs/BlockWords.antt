-- The two words of a block.
use Rattle.std.specs.Prelude.{ℕ, cond, List, ◌++◌, take, drop, ◌==◌}
use Rattle.std.specs.Int.{w64, from_le_bytes, to_le_bytes}
use Rattle.bedrock.specs.declared.words.Words.{Words}

abbrev pub words_of : ℕ → ℕ → Words
words_of a b = record { first = a; second = b }

abbrev pub no_words : Words
no_words = words_of 0 0

abbrev pub word_of : Words → ℕ → ℕ
word_of ws k = cond (k == 0) ws.first ws.second

abbrev pub with_word : Words → ℕ → ℕ → Words
with_word ws k v = cond (k == 0) (words_of v ws.second) (words_of ws.first v)

-- the words in sixteen bytes, low bytes first, and the bytes in which they are
abbrev pub words_in : List ℕ → Words
words_in bytes = words_of (from_le_bytes w64 (take 8 bytes)) (from_le_bytes w64 (drop 8 bytes))

abbrev pub bytes_of : Words → List ℕ
bytes_of ws = to_le_bytes w64 ws.first ++ to_le_bytes w64 ws.second
