use Rattle.std.proofs.Common.{◌≡◌, ℕ, ap, ◌∙◌, arith}
use Rattle.machine.specs.declared.holding.Entry.{Entry}
use Rattle.machine.specs.Holdings.{no_entry}
use Rattle.machine.specs.Tables.{put}
use Rattle.tables.specs.Grids.{grid}
use Rattle.directory.specs.Settling.{cleared_where}
use Rattle.directory.proofs.Settling.{put_own, no_ways, way_cleared, all_ways, first_ways}
use Rattle.directory.proofs.settle.clear_cache.Goals as goal

pub loop-way-init : goal.loop-way-init
loop-way-init c =
    let a = c.args in
    let f : ℕ → ℕ → ℕ → Entry = grid no_entry a.entries.now.cells in
    put_own f a.set ∙ ap (put 16 f a.set) (no_ways a.block (f a.set) a.cache)

pub loop-way-preserved : goal.loop-way-preserved
loop-way-preserved c =
    let a = c.args in
    let l = c.loop-way in
    way_cleared (grid no_entry a.entries.now.cells) (grid no_entry l.entries.cells) (grid no_entry c.clear_way.new.entries.cells) a.set a.block a.cache l.way c.requires (omega arith) l.invariant c.clear_way.ensures

pub returns : goal.returns
returns c =
    let a = c.args in
    let f : ℕ → ℕ → ℕ → Entry = grid no_entry a.entries.now.cells in
    let end : c.loop-way.way ≡ 4 = omega arith in
    c.loop-way.invariant
    ∙ ap (λ k. put 16 f a.set (cleared_where (first_ways a.cache k) a.block (f a.set))) end
    ∙ ap (put 16 f a.set) (all_ways a.entries.now.cells a.set a.block a.cache)
