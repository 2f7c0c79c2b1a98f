-- What checking a sheet answers.
use Rattle.std.specs.Prelude.{ℕ, Ok, Err, Result}
use Rattle.bedrock.specs.declared.refusal.Refusal.{Refusal}
use Rattle.bedrock.specs.Refusals.{number}
use Rattle.sheet.specs.declared.head.HeadCodes.{HeadCodes}
use Rattle.sheet.specs.declared.sheets.CheckedSheet.{CheckedSheet}
use Rattle.sheet.specs.declared.sheets.UncheckedSheet.{UncheckedSheet}
use Rattle.sheet.specs.Heads.{head_codes}

-- the head's codes, or the refusal's number
abbrev pub verdict : Result CheckedSheet (UncheckedSheet × Refusal) → Result HeadCodes ℕ
verdict (Ok s) = Ok (head_codes s.head)
verdict (Err p) = Err (number p.1)
