use Rattle.std.proofs.Common.{◌≡◌, List, ℕ, ◌++◌}
use Rattle.std.specs.Fmt.{HasWritten, IsPlainFormatter}
use Rattle.std.specs.Slice.Iter.{chunks_rest, chunks_size}
use Rattle.listing.specs.Lines.{shown}
use Rattle.listing.proofs.details.ShownDisplay.fmt.Given as goal

-- what is written, and what is left as it is shown, are all
abbrev pub invariant-loop-bytes : goal.invariant-loop-bytes
invariant-loop-bytes g l =
    (chunks_size l.bytes-iterator ≡ 64)
    × (IsPlainFormatter l.initial.f
    → (done : List ℕ) × ((HasWritten g.W.Write.write_str_gives l.initial.f done l.f) × (done ++ shown (chunks_rest l.bytes-iterator) ≡ shown l.self.0.now)))
