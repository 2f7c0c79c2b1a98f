-- What listing a whole sheet prints, from its bytes.
use Rattle.std.specs.Prelude.{ℕ, ◌+◌, List, [], ◌∷◌, ◌++◌, length, drop, Ok, Err, Result}
use Rattle.sheet.specs.declared.head.HeadCodes.{HeadCodes}
use Rattle.sheet.specs.Heads.{head_of}
use Rattle.sheet.specs.Records.{Item}
use Rattle.sheet.specs.Readings.{Reading, through, stopped, reading}
use Rattle.listing.specs.Lines.{head_line, record_line, refusal_line}

-- the lines of records, the first having number n
abbrev pub lines_from : ℕ → List Item → List ℕ
lines_from n [] = []
lines_from n (x ∷ xs) = record_line n x ++ lines_from (n + 1) xs

-- the lines of a reading: a refusal has its line, and ends them
abbrev pub reading_lines : ℕ → Reading → List ℕ
reading_lines n (through xs) = lines_from n xs
reading_lines n (stopped xs e) = lines_from n xs ++ refusal_line (n + length xs) e

-- the head's line and those of the records, numbered from 1; a head that is refused has a line with number 0, and that is all
abbrev pub lines_after_head : List ℕ → Result HeadCodes ℕ → List ℕ
lines_after_head bs (Ok h) = head_line h ++ reading_lines 1 (reading (drop 13 bs))
lines_after_head bs (Err e) = refusal_line 0 e

abbrev pub listing_of : List ℕ → List ℕ
listing_of bs = lines_after_head bs (head_of bs)
