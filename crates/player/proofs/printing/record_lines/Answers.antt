use Rattle.std.proofs.Common.{◌≡◌, ◌+◌, ◌&&◌, ◌++◌, map, vec_items, sym, ap, ◌∙◌, arith}
use Rattle.std.proofs.lemmas.List.{drop-map}
use Rattle.std.specs.Slice.Iter.{iter_rest}
use Rattle.bedrock.specs.Refusals.{number}
use Rattle.machine.specs.Outcomes.{said}
use Rattle.sheet.specs.Records.{item}
use Rattle.sheet.specs.Reads.{left}
use Rattle.sheet.proofs.Readings.{drew_record}
use Rattle.player.specs.Calls.{call_count}
use Rattle.player.specs.Lines.{record_line, refusal_line}
use Rattle.player.proofs.PrintedLines.{no_call, printed_record, printed_all, printed_refusal}
use Rattle.player.proofs.printing.record_lines.Goals as goal
use Rattle.player.proofs.printing.record_lines.Goals.{in-None, in-Some+in-Ok-None, in-Some+in-Err+in_ok-line-in-Err+in_ok-extend_from_slice-in-Err}

pub loop-place-preserved : goal.loop-place-preserved
loop-place-preserved c =
    let a = rw c.in-Ok-Some.field-0-is at c.in-Ok-Some.ensures.answers in
    let g = c.in-Ok-Some.ensures.goes in
    let x = item c.in-Ok-Some.rec in
    let here : c.in-Some.place ≡ c.loop-place.place-iterator.start = c.in-Some.ensures.steps.0 in
    let up : c.next.new.self.start ≡ c.loop-place.place-iterator.start + 1 = omega (arith, c.in-Some.ensures.steps) in (
      omega (arith, (drew_record _ _ _ a g).1, c.loop-place.invariant.0),
      printed_record c.loop-place.invariant.1 (vec_items c.extend_from_slice.new.self) (vec_items c.in_ok-line-in-Ok-Some.line) (left c.next_record.new.self) _ _ _ x a g
          (c.in_ok-extend_from_slice-in-Ok-Some.ensures.items ∙ ap (λ l. vec_items c.loop-place.out ++ l) c.deref.ensures.value)
          (c.in_ok-line-in-Ok-Some.ensures.line ∙ ap (λ n. record_line c.args.blocks n c.loop-place.early (map said (iter_rest c.loop-place.answers)) x) here)
          (ap (λ b. c.loop-place.early && b) (no_call c.call_in.result x c.is_none-early.result c.call_in.ensures c.is_none-early.ensures))
          (ap (map said) c.record_line.ensures.taken ∙ sym (drop-map said (call_count x) (iter_rest c.loop-place.answers)))
          up,
    )

pub returns : goal.returns
returns c = elim c.match-next.branch [
  | in-None w ↦ absurd (omega (arith, c.loop-place.invariant.0, (rw w.in-None.is at c.next.ensures.steps).0))
  | in-Some+in-Ok-None w ↦ ap vec_items w.out-is ∙ printed_all c.loop-place.invariant.1 (rw w.in-Ok-None.field-0-is at w.in-Ok-None.ensures.answers)
  | in-Some+in-Err+in_ok-line-in-Err+in_ok-extend_from_slice-in-Err w ↦
      ap vec_items w.out-is ∙ printed_refusal c.loop-place.invariant.1 _ _ w.in-Err.ensures.answers
      (w.in_ok-extend_from_slice-in-Err.ensures.items ∙ ap (λ l. vec_items c.loop-place.out ++ l)
      (w.deref-in-Err.ensures.value ∙ w.in_ok-line-in-Err.ensures ∙ ap (λ n. refusal_line n (number w.in-Err.why)) w.in-Some.ensures.steps.0))
]
