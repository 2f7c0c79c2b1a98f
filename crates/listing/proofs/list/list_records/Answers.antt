use Rattle.std.proofs.Common.{◌≡◌, ◌+◌, ◌++◌, string_bytes, ap, ◌∙◌, arith}
use Rattle.bedrock.specs.Refusals.{number}
use Rattle.sheet.specs.Reads.{left}
use Rattle.sheet.specs.Readings.{reading}
use Rattle.sheet.specs.Records.{item}
use Rattle.sheet.proofs.Readings.{drew_record}
use Rattle.listing.specs.Lines.{record_line, refusal_line}
use Rattle.listing.specs.Listings.{reading_lines}
use Rattle.listing.proofs.Listing.{listed_record, listed_all, listed_refusal}
use Rattle.listing.proofs.list.list_records.Goals as goal

pub loop-place-preserved : goal.loop-place-preserved
loop-place-preserved c =
    let a = rw c.in-Ok-Some.field-0-is at c.in-Ok-Some.ensures.answers in
    let g = c.in-Ok-Some.ensures.goes in
    let out = string_bytes c.loop-place.out in
    let zs = reading (left c.next_record.new.self) in
    let here : c.in-Some.place ≡ c.loop-place.place-iterator.start = c.in-Some.ensures.steps.0 in
    let up : c.next.new.self.start ≡ c.loop-place.place-iterator.start + 1 = omega (arith, c.in-Some.ensures.steps) in (
      omega (arith, (drew_record _ _ _ a g).1, c.loop-place.invariant.0),
      ap (λ n. string_bytes c.push_str.new.self ++ reading_lines n zs) up
          ∙ listed_record out _ _ _ c.loop-place.invariant.1 _ _ _ a g
          (c.in_ok-push_str-in-Ok-Some.ensures.bytes ∙ ap (λ l. out ++ l)
          (c.as_str.ensures.value ∙ c.in_ok-line-in-Ok-Some.ensures ∙ ap (λ n. record_line n (item c.in-Ok-Some.rec)) here)),
    )

pub returns-in-Ok-None : goal.returns-in-Ok-None
returns-in-Ok-None c = listed_all (string_bytes c.loop-place.out) _ _ _ c.loop-place.invariant.1 (rw c.in-Ok-None.field-0-is at c.in-Ok-None.ensures.answers)

pub returns-in_ok-push_str-in-Err : goal.returns-in_ok-push_str-in-Err
returns-in_ok-push_str-in-Err c =
    let out = string_bytes c.loop-place.out in
    listed_refusal out _ _ _ c.loop-place.invariant.1 _ _ c.in-Err.ensures.answers
    (c.in_ok-push_str-in-Err.ensures.bytes ∙ ap (λ l. out ++ l)
    (c.as_str-in-Err.ensures.value ∙ c.in_ok-line-in-Err.ensures ∙ ap (λ n. refusal_line n (number c.in-Err.why)) c.in-Some.ensures.steps.0))
