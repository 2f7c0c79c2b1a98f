use Rattle.std.proofs.Common.{◌≡◌, length, Ok, vec_items, ap, ◌∙◌, arith}
use Rattle.std.proofs.lemmas.List.{with_items_is}
use Rattle.sheet.specs.Records.{item}
use Rattle.sheet.specs.Format.{encode}
use Rattle.writer.specs.Writes.{pasted, record_end}
use Rattle.writer.specs.Pages.{open_page}
use Rattle.writer.proofs.Ends.{record_fits}
use Rattle.writer.proofs.Holding.{holds_more}
use Rattle.writer.proofs.open.OpenSheet.put.Goals as goal

pub returns-clause-holds : goal.returns-clause-holds
returns-clause-holds c =
    let s = c.args.self.now in
    let x = item c.args.rec.now in
    let a : Ok c.in_ok-end.end ≡ record_end s.end (length (vec_items s.buffer)) x =
    c.in_ok-end.ensures ∙ ap (λ n. record_end s.end n x) (c.len.ensures ∙ s.buffer.ok.0) in
    let b = with_items_is s.buffer c.write_record.new.out (omega arith) ∙ c.write_record.ensures.bytes ∙ ap (λ l. pasted l s.end (encode x)) c.as_mut_slice.ensures.value in
    λ h xs _ held. holds_more (open_page s) _ h xs x held (record_fits _ _ x _ a) (omega arith) c.write_record.ensures.fields b
