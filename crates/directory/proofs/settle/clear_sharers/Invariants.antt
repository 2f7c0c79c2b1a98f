use Rattle.std.proofs.Common.{◌≡◌}
use Rattle.machine.specs.Holdings.{no_entry}
use Rattle.machine.specs.Tables.{put}
use Rattle.tables.specs.Grids.{grid}
use Rattle.directory.specs.Settling.{cleared_where}
use Rattle.directory.proofs.Settling.{first_caches}
use Rattle.directory.proofs.settle.clear_sharers.Given as goal

abbrev pub invariant-loop-cache : goal.invariant-loop-cache
invariant-loop-cache l =
    grid no_entry l.entries.cells
    ≡ put 16 (grid no_entry l.initial.entries.cells) l.set (cleared_where (first_caches l.cache) l.block (grid no_entry l.initial.entries.cells l.set))
