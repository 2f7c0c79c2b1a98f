use Rattle.memory.specs.Blocks.{table_blocks}
use Rattle.memory.proofs.Writes.{table_write, written_outside}
use Rattle.memory.proofs.word_table.WordTableMemory.write.Goals as goal

pub returns-then-block-lt1024 : goal.returns-then-block-lt1024
returns-then-block-lt1024 c = table_write c.args.self.now.rows c.args.block c.args.words c.args.self.now.sized c.if-block-lt1024.true

pub returns-else-block-lt1024 : goal.returns-else-block-lt1024
returns-else-block-lt1024 c = written_outside (table_blocks c.args.self.now.rows) c.args.block c.args.words c.if-block-lt1024.false
