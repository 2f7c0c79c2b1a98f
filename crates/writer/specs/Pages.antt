-- What an open and a sealed sheet hold.
use Rattle.std.specs.Prelude.{ℕ, Ok, Err, vec_items, Result}
use Rattle.bedrock.specs.declared.refusal.Refusal.{Refusal}
use Rattle.bedrock.specs.Refusals.{number}
use Rattle.writer.specs.declared.open.OpenSheet.{OpenSheet}
use Rattle.writer.specs.declared.sealed.SealedSheet.{SealedSheet}
use Rattle.writer.specs.Writes.{Page}

abbrev pub open_page : OpenSheet → Page
open_page s = record { bytes = vec_items s.buffer; end = s.end }

abbrev pub sealed_page : SealedSheet → Page
sealed_page s = record { bytes = vec_items s.buffer; end = s.end }

-- what starting a sheet answers: its page, or the refusal's number
abbrev pub started : {B : Type 0} → Result OpenSheet (B × Refusal) → Result Page ℕ
started (Ok s) = Ok (open_page s)
started (Err p) = Err (number p.1)
