use Rattle.std.proofs.Common.{◌≡◌, ◌++◌, ap, sym, ◌∙◌, append_assoc, rules}
use Rattle.std.proofs.Output.{has_written_append, has_written_of_eq}
use Rattle.std.proofs.lemmas.Str.{IsUtf8-from_ascii}
use Rattle.std.specs.Fmt.{HasWritten}
use Rattle.std.specs.Slice.Iter.{chunks_rest}
use Rattle.std.specs.Str.{IsUtf8}
use Rattle.listing.specs.Lines.{shown}
use Rattle.listing.proofs.Showing.{shown_append}
use Rattle.listing.proofs.details.ShownDisplay.fmt.Goals as goal

pub loop-bytes-preserved : goal.loop-bytes-preserved
loop-bytes-preserved g c =
    let bytes = c.in-Some.bytes.now in
    let left = chunks_rest c.next.new.self in
    let utf8 : IsUtf8 (shown bytes) = IsUtf8-from_ascii (shown bytes) c.put_shown-end.ensures.ascii in
    let text : c.unwrap_or.result.now ≡ shown bytes = search rules in
    let rest : chunks_rest c.loop-bytes.bytes-iterator ≡ bytes ++ left = search rules in (
      search rules,
      λ p.
          let so = c.loop-bytes.invariant.1 p in
          let more : HasWritten g.W.Write.write_str_gives c.args.f.now (so.0 ++ c.unwrap_or.result.now) c.write_str.new.self = has_written_append _ _ _ _ _ _ so.1.0 (search rules) in
          let all : (so.0 ++ shown bytes) ++ shown left ≡ shown c.args.self.now.0.now =
          append_assoc so.0 (shown bytes) (shown left) ∙ ap (λ l. so.0 ++ l) (sym (shown_append bytes left) ∙ ap shown (sym rest)) ∙ so.1.1 in
          (so.0 ++ shown bytes, (has_written_of_eq _ _ _ _ _ (ap (λ l. so.0 ++ l) text) more, all)),
    )
