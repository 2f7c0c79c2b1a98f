use Rattle.std.proofs.Common.{◌≡◌, ℕ, ap, ◌∙◌, arith}
use Rattle.machine.specs.declared.holding.Entry.{Entry}
use Rattle.machine.specs.Holdings.{no_entry}
use Rattle.machine.specs.Tables.{put}
use Rattle.tables.specs.Grids.{grid}
use Rattle.directory.specs.Settling.{cleared_where}
use Rattle.directory.proofs.Settling.{put_own, no_caches, cache_cleared, all_caches, first_caches}
use Rattle.directory.proofs.settle.clear_sharers.Goals as goal

pub loop-cache-init : goal.loop-cache-init
loop-cache-init c =
    let a = c.args in
    let f : ℕ → ℕ → ℕ → Entry = grid no_entry a.entries.now.cells in
    put_own f a.set ∙ ap (put 16 f a.set) (no_caches a.block (f a.set))

pub loop-cache-preserved : goal.loop-cache-preserved
loop-cache-preserved c =
    let a = c.args in
    let l = c.loop-cache in
    cache_cleared (grid no_entry a.entries.now.cells) (grid no_entry l.entries.cells) (grid no_entry c.clear_cache.new.entries.cells) a.set a.block l.cache l.invariant c.clear_cache.ensures

pub returns : goal.returns
returns c =
    let a = c.args in
    let f : ℕ → ℕ → ℕ → Entry = grid no_entry a.entries.now.cells in
    let end : c.loop-cache.cache ≡ 8 = omega arith in
    c.loop-cache.invariant
    ∙ ap (λ k. put 16 f a.set (cleared_where (first_caches k) a.block (f a.set))) end
    ∙ ap (put 16 f a.set) (all_caches a.entries.now.cells a.set a.block)
