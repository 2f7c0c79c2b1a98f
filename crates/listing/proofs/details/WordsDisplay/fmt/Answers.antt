use Rattle.std.proofs.Common.{◌≡◌, ◌*◌, ◌/◌, length, get_or, [], arith, rules, ap, ◌∙◌}
use Rattle.std.specs.Int.{from_le_bytes, w64}
use Rattle.std.proofs.Output.{has_written_append, has_written_of_eq}
use Rattle.sheet.specs.Bytes.{field}
use Rattle.listing.proofs.Showing.{word_of_chunk, words_more}
use Rattle.listing.proofs.details.WordsDisplay.fmt.Goals as goal

pub loop-bytes-preserved : goal.loop-bytes-preserved
loop-bytes-preserved g c =
    λ p.
    let i = c.loop-bytes.bytes-index in
    let bs = c.args.self.now.0.now in
    let w : c.from_le_bytes-word.result ≡ field (8 * i) 8 bs =
    c.from_le_bytes-word.ensures
    ∙ ap (λ cs. from_le_bytes w64 (get_or cs i [])) c.as_chunks.ensures.front
    ∙ word_of_chunk bs (length bs / 8) i (omega arith) in
    has_written_of_eq _ _ _ _ _ (words_more i _ bs w) (has_written_append _ _ _ _ _ _ (c.loop-bytes.invariant p) (search rules))
