use Rattle.std.proofs.Common.{length, vec_items}
use Rattle.sheet.specs.Reads.{left}
use Rattle.sheet.specs.Readings.{reading}
use Rattle.player.specs.Calls.{calls_in, items_in}
use Rattle.player.specs.Contents.{starting_content}
use Rattle.player.proofs.Loading.{Loaded}
use Rattle.player.proofs.calls.load_records.Given as goal

abbrev pub invariant-loop-rec : goal.invariant-loop-rec
invariant-loop-rec g l =
    Loaded l.blocks
    (calls_in (items_in (reading (left l.initial.reader))))
    (starting_content l.blocks (g.M.Memory.blocks l.initial.memory) (items_in (reading (left l.initial.reader))))
    (vec_items l.calls)
    (g.M.Memory.blocks l.memory)
    (left l.reader)

abbrev pub decreases-loop-rec : goal.decreases-loop-rec
decreases-loop-rec g l = length (left l.reader)
