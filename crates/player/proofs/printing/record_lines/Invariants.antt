use Rattle.std.proofs.Common.{◌+◌, ◌≤◌, true, map, length, vec_items}
use Rattle.std.specs.Slice.Iter.{iter_rest}
use Rattle.machine.specs.Outcomes.{said}
use Rattle.sheet.specs.Reads.{left}
use Rattle.sheet.specs.Readings.{reading}
use Rattle.player.specs.Lines.{reading_lines}
use Rattle.player.proofs.PrintedLines.{Printed}
use Rattle.player.proofs.printing.record_lines.Given as goal

abbrev pub invariant-loop-place : goal.invariant-loop-place
invariant-loop-place l =
    (l.place-iterator.start + length (left l.reader) ≤ 32769)
    × Printed l.blocks (reading_lines l.blocks 1 true (reading (left l.initial.reader)) (map said l.fn.answers))
    (vec_items l.out) l.place-iterator.start l.early (map said (iter_rest l.answers)) (left l.reader)
