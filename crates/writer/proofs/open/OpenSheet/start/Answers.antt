use Rattle.std.proofs.Common.{vec_items, ap, ◌∙◌, arith}
use Rattle.std.proofs.lemmas.List.{with_items_is}
use Rattle.sheet.specs.Heads.{head_bytes}
use Rattle.writer.specs.Writes.{pasted}
use Rattle.writer.proofs.Ends.{head_fits}
use Rattle.writer.proofs.Holding.{holds_none}
use Rattle.writer.proofs.open.OpenSheet.start.Goals as goal

pub returns-in-Ok-clause-gives : goal.returns-in-Ok-clause-gives
returns-in-Ok-clause-gives c =
    let v = c.args.buffer in
    let f = head_fits _ c.args.codes _ c.in-Ok.ensures in
    let b = with_items_is v c.write_head.new.out (omega arith) ∙ c.write_head.ensures ∙ ap (λ l. pasted l 0 (head_bytes c.args.codes)) c.as_mut_slice.ensures.value in
    rw f.1 (holds_none (vec_items v) _ c.args.codes f.2 b)
