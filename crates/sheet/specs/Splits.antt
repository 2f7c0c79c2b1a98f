-- What the code's split of a slice says of the front of its bytes.
use Rattle.std.specs.Prelude.{ℕ, List, Some, None, Ok, Err, Option, Result}
use Rattle.std.specs.Borrow.{Bor}
use Rattle.bedrock.specs.declared.refusal.Refusal.{Refusal}
use Rattle.bedrock.specs.Refusals.{number}
use Rattle.sheet.specs.declared.records.Record.{Record}
use Rattle.sheet.specs.Records.{item}
use Rattle.sheet.specs.Format.{Front, ends, holds, refuses}

-- a record with what follows it, or a refusal
abbrev pub part : Result (Record × Bor (List ℕ)) Refusal → Front
part (Ok p) = holds (item p.0) p.1.now
part (Err e) = refuses (number e)

-- the same, or nothing where the sheet ends
abbrev pub split : Result (Option (Record × Bor (List ℕ))) Refusal → Front
split (Ok None) = ends
split (Ok (Some p)) = holds (item p.0) p.1.now
split (Err e) = refuses (number e)
