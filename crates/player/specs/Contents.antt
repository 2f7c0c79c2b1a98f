-- The contents of a sheet: which are taken, and what they leave in the memory.
use Rattle.std.specs.Prelude.{ℕ, zero, suc, ◌+◌, ◌*◌, ◌/◌, Bool, cond, ◌&&◌, List, [], ◌∷◌, length, nat_le, nat_lt}
use Rattle.bedrock.specs.declared.words.Words.{Words}
use Rattle.bedrock.specs.BlockWords.{words_of}
use Rattle.memory.specs.Blocks.{written}
use Rattle.sheet.specs.Bytes.{field}
use Rattle.sheet.specs.Records.{Item, load, store, deliver, turn, content, note}

-- a content from block b on lies within the blocks: b is one of them, and so is its last
abbrev pub fits : ℕ → ℕ → List ℕ → Bool
fits blocks b bs = nat_lt b blocks && nat_le (b + length bs / 16) blocks

-- the two words of the block number i of a content
abbrev pub words_at : ℕ → List ℕ → Words
words_at i bs = words_of (field (16 * i) 8 bs) (field (16 * i + 8) 8 bs)

-- the first n blocks of a content written from block b on
unfoldable pub filled_by : ℕ → (ℕ → Words) → ℕ → List ℕ → ℕ → Words
filled_by zero m b bs = m
filled_by (suc n) m b bs = written (filled_by n m b bs) (b + n) (words_at n bs)

-- all of its blocks
abbrev pub filled : (ℕ → Words) → ℕ → List ℕ → ℕ → Words
filled m b bs = filled_by (length bs / 16) m b bs

-- a content that does not fit changes nothing
abbrev pub taken : ℕ → (ℕ → Words) → ℕ → List ℕ → ℕ → Words
taken blocks m b bs = cond (fits blocks b bs) (filled m b bs) m

-- what one record leaves in the memory: only a content changes it, and only where no call came before
abbrev pub after_record : ℕ → Bool → (ℕ → Words) → Item → ℕ → Words
after_record blocks early m (load c b w) = m
after_record blocks early m (store c b w v) = m
after_record blocks early m (deliver k p) = m
after_record blocks early m (turn p) = m
after_record blocks early m (content b bs) = cond early (taken blocks m b bs) m
after_record blocks early m (note t) = m

-- what the memory holds at the first call, or at the end where there is none, having held m
abbrev pub starting_content : ℕ → (ℕ → Words) → List Item → ℕ → Words
starting_content blocks m [] = m
starting_content blocks m (load c b w ∷ xs) = m
starting_content blocks m (store c b w v ∷ xs) = m
starting_content blocks m (deliver k p ∷ xs) = m
starting_content blocks m (turn p ∷ xs) = m
starting_content blocks m (content b bs ∷ xs) = starting_content blocks (taken blocks m b bs) xs
starting_content blocks m (note t ∷ xs) = starting_content blocks m xs
