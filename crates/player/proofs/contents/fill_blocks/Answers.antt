use Rattle.std.proofs.Common.{◌/◌, ◌<◌, [], length, arith}
use Rattle.player.proofs.Filling.{filled_none, filled_more}
use Rattle.player.proofs.contents.fill_blocks.Goals as goal

pub loop-i-init : goal.loop-i-init
loop-i-init g c = filled_none (g.M.Memory.blocks c.args.memory.now) c.args.block c.args.bytes.now

pub loop-i-preserved : goal.loop-i-preserved
loop-i-preserved g c =
    let below : c.loop-i.i < length c.args.bytes.now / 16 = omega (arith, c.as_chunks.ensures.front_len, c.loop-i-test.true) in
    filled_more c.loop-i.i (g.M.Memory.blocks c.args.memory.now) (g.M.Memory.blocks c.loop-i.memory) (g.M.Memory.blocks c.write.new.self) c.args.block c.args.bytes.now []
    c.as_chunks.result.0.now c.from_le_bytes-words.result c.loop-i.invariant c.as_chunks.ensures.front below c.from_le_bytes-words.ensures c.write.ensures
