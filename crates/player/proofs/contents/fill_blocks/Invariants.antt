use Rattle.std.proofs.Common.{◌≡◌}
use Rattle.player.specs.Contents.{filled_by}
use Rattle.player.proofs.contents.fill_blocks.Given as goal

-- the blocks before this one are written
abbrev pub invariant-loop-i : goal.invariant-loop-i
invariant-loop-i g l = g.M.Memory.blocks l.memory ≡ filled_by l.i (g.M.Memory.blocks l.initial.memory) l.block l.bytes
