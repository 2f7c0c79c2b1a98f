-- What a writer does with its buffer.
use Rattle.std.specs.Prelude.{ℕ, ◌+◌, cond, List, ◌++◌, length, take, drop, Ok, Err, Result, nat_lt}
use Rattle.sheet.specs.declared.head.HeadCodes.{HeadCodes}
use Rattle.sheet.specs.Heads.{in_bounds, head_bytes}
use Rattle.sheet.specs.Records.{Item}
use Rattle.sheet.specs.Format.{encode, size, proper}

-- bs with ys written over it from place i on; what stands before and after stays
unfoldable pub pasted : List ℕ → ℕ → List ℕ → List ℕ
pasted bs i ys = take i bs ++ (ys ++ drop (i + length ys) bs)

-- where a head ends in a buffer of n bytes, or why it cannot be written: 7, then 16
abbrev pub head_end : ℕ → HeadCodes → Result ℕ ℕ
head_end n h = cond (in_bounds h) (cond (nat_lt n 13) (Err 16) (Ok 13)) (Err 7)

-- where a record that begins at place i ends in a buffer of n bytes, or why it cannot be written:
-- 5 where the sheet would pass 32,768 bytes, then 7, then 16
abbrev pub record_end : ℕ → ℕ → Item → Result ℕ ℕ
record_end i n x = cond (nat_lt 32768 (i + size x)) (Err 5) (cond (proper x) (cond (nat_lt n (i + size x)) (Err 16) (Ok (i + size x))) (Err 7))

-- a buffer, and how much of it is the sheet
pub record Page : Type 0 where
  pub bytes : List ℕ
  pub end : ℕ

-- the sheet so far
abbrev pub sheet_on : Page → List ℕ
sheet_on p = take p.end p.bytes

-- a page with the head at its front and nothing after it
abbrev pub start_at : List ℕ → HeadCodes → Result ℕ ℕ → Result Page ℕ
start_at bs h (Ok n) = Ok (record { bytes = pasted bs 0 (head_bytes h); end = n })
start_at bs h (Err e) = Err e

abbrev pub start_on : List ℕ → HeadCodes → Result Page ℕ
start_on bs h = start_at bs h (head_end (length bs) h)

-- the page after a record was put at its end: a refusal leaves it as it was
abbrev pub put_at : Page → Item → Result ℕ ℕ → Page
put_at p x (Ok n) = record { bytes = pasted p.bytes p.end (encode x); end = n }
put_at p x (Err e) = p

abbrev pub put_on : Page → Item → Page
put_on p x = put_at p x (record_end p.end (length p.bytes) x)
