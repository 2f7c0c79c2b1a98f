-- What the bytes after a head read as, to their end or to the first record that is refused.
use Rattle.std.specs.Prelude.{ℕ, zero, suc, List, [], ◌∷◌, length}
use Rattle.sheet.specs.Records.{Item}
use Rattle.sheet.specs.Format.{Front, ends, holds, refuses, front}

pub data Reading : Type 0 where
  through : List Item → Reading  -- these records, to the end
  stopped : List Item → ℕ → Reading  -- these records, and then a refusal

-- a record, and what follows it
abbrev pub after : Item → Reading → Reading
after x (through xs) = through (x ∷ xs)
after x (stopped xs n) = stopped (x ∷ xs) n

-- by what stands at the front, where `reads` tells of the rest
abbrev pub next : (List ℕ → Reading) → Front → Reading
next reads ends = through []
next reads (holds x rest) = after x (reads rest)
next reads (refuses n) = stopped [] n

-- Record by record, at most n. No record is shorter than its letter, so as many as there are bytes are all.
unfoldable pub reading_by : ℕ → List ℕ → Reading
reading_by zero bs = through []
reading_by (suc n) bs = next (reading_by n) (front bs)

unfoldable pub reading : List ℕ → Reading
reading bs = reading_by (length bs) bs
