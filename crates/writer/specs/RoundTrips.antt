-- Writing and reading are inverse to each other, over whole sheets: head and records.
use Rattle.std.specs.Prelude.{◌≡◌, ℕ, ◌^◌, ◌<◌, ◌≤◌, true, List, [], ◌∷◌, ◌++◌, length, drop, Ok}
use Rattle.std.specs.List.{AllByRecursion}
use Rattle.sheet.specs.declared.head.HeadCodes.{HeadCodes}
use Rattle.sheet.specs.Bytes.{Bytes}
use Rattle.sheet.specs.Heads.{in_bounds, head_bytes, head_of}
use Rattle.sheet.specs.Records.{Item, load, store, deliver, turn, content, note}
use Rattle.sheet.specs.Format.{encode, proper}
use Rattle.sheet.specs.Readings.{reading, through}
use Rattle.writer.specs.Writes.{Page, sheet_on}

-- the records as bytes, one after another
abbrev pub written : List Item → List ℕ
written [] = []
written (x ∷ xs) = encode x ++ written xs

-- a whole sheet as bytes
abbrev pub sheet_bytes : HeadCodes → List Item → List ℕ
sheet_bytes h xs = head_bytes h ++ written xs

-- the bytes are a sheet with this head that reads to its end as these records
pub record ReadsAs (bs : List ℕ) (h : HeadCodes) (xs : List Item) : Type 0 where
  pub head : head_of bs ≡ Ok h
  pub records : reading (drop 13 bs) ≡ through xs

-- the numbers of a record fit the fields that they are written to: 2 bytes for a block, 8 for a value
abbrev pub InFields : Item → Type 0
InFields (load c b w) = b < 256 ^ 2
InFields (store c b w v) = (b < 256 ^ 2) × (v < 256 ^ 8)
InFields (deliver k p) = Unit {0}
InFields (turn p) = Unit {0}
InFields (content b bs) = b < 256 ^ 2
InFields (note t) = Unit {0}

-- what the writer takes: a head within its bounds; records whose numbers fit their fields, notes of at most 255 bytes, contents
-- of 0 to 255 whole blocks; and at most 32,768 bytes in all
pub record Writable (h : HeadCodes) (xs : List Item) : Type 0 where
  pub bounds : in_bounds h ≡ true
  pub fields : AllByRecursion InFields xs
  pub lengths : AllByRecursion (λ x. proper x ≡ true) xs
  pub few : length (sheet_bytes h xs) ≤ 32768

-- the page holds the sheet of this head and these records, which the writer takes
pub record Holds (p : Page) (h : HeadCodes) (xs : List Item) : Type 0 where
  pub bytes : sheet_on p ≡ sheet_bytes h xs
  pub takes : Writable h xs

-- the records of a written sheet, read back, are those records, with the head that was written
abbrev pub ReadsBack : Type 0
ReadsBack = (h : HeadCodes) (xs : List Item) → Writable h xs → ReadsAs (sheet_bytes h xs) h xs

-- a sheet that reads through to its end, written out again, gives its own bytes
abbrev pub WritesBack : Type 0
WritesBack = (bs : List ℕ) (h : HeadCodes) (xs : List Item) → Bytes bs → ReadsAs bs h xs → sheet_bytes h xs ≡ bs
