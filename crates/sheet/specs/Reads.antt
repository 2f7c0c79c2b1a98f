-- What a reader has left, what it answers, and what a whole sheet reads as.
use Rattle.std.specs.Prelude.{ℕ, List, drop, Some, None, Ok, Err, Option, Result}
use Rattle.bedrock.specs.declared.refusal.Refusal.{Refusal}
use Rattle.bedrock.specs.Refusals.{number}
use Rattle.sheet.specs.declared.records.Record.{Record}
use Rattle.sheet.specs.declared.reader.Reader.{Reader}
use Rattle.sheet.specs.Records.{Item, item}
use Rattle.sheet.specs.Format.{Front, ends, holds, refuses}

-- the bytes that a reader has not yet drawn from
abbrev pub left : Reader → List ℕ
left r = drop r.at r.bytes.now

-- an answer by its values: a record, none, or a refusal's number
abbrev pub drawn : Result (Option Record) Refusal → Result (Option Item) ℕ
drawn (Ok None) = Ok None
drawn (Ok (Some x)) = Ok (Some (item x))
drawn (Err e) = Err (number e)

-- what a reader answers at this front: none at the end, which is no refusal
abbrev pub answer_at : Front → Result (Option Item) ℕ
answer_at ends = Ok None
answer_at (holds x rest) = Ok (Some x)
answer_at (refuses n) = Err n

-- what it has left then: a refusal keeps its place
abbrev pub left_at : Front → List ℕ → List ℕ
left_at ends bs = bs
left_at (holds x rest) bs = rest
left_at (refuses n) bs = bs
