use Rattle.std.proofs.Common.{refl, ap, ◌∙◌, arith}
use Rattle.sheet.specs.Records.{item}
use Rattle.sheet.specs.Format.{encode}
use Rattle.writer.proofs.Numbers.{eight_bytes}
use Rattle.writer.proofs.Pastes.{in_two}
use Rattle.writer.proofs.encode.write_record.Goals as goal

pub returns-in-Store-clause-bytes : goal.returns-in-Store-clause-bytes
returns-in-Store-clause-bytes c =
    in_two _ c.args.at _ _ _ _ _ (omega arith) c.paste-in-Store.ensures c.paste-in-Store-2.ensures
    (ap (λ r. encode (item r)) c.in-Store.is ∙ rw (c.to_le_bytes-in-Store.ensures, c.to_le_bytes-in-Store-2.ensures, eight_bytes c.in-Store.value) refl)

pub returns-in-Content-clause-bytes : goal.returns-in-Content-clause-bytes
returns-in-Content-clause-bytes c =
    in_two _ c.args.at _ _ _ _ _ (omega arith) c.paste-in-Content.ensures c.paste-in-Content-2.ensures
    (ap (λ r. encode (item r)) c.in-Content.is ∙ rw c.to_le_bytes-in-Content.ensures refl)

pub returns-in-Note-clause-bytes : goal.returns-in-Note-clause-bytes
returns-in-Note-clause-bytes c =
    in_two _ c.args.at _ _ _ _ _ (omega arith) c.paste-in-Note.ensures c.paste-in-Note-2.ensures
    (ap (λ r. encode (item r)) c.in-Note.is)
