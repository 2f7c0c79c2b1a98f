use Rattle.std.proofs.Common.{replicate, ap, ◌∙◌}
use Rattle.memory.specs.Blocks.{table_blocks}
use Rattle.memory.proofs.Writes.{default_is, table_empty}
use Rattle.memory.proofs.word_table.WordTableMemory.new.Goals as goal

pub returns : goal.returns
returns c = ap (λ w. table_blocks (replicate 1024 w)) (default_is c.default.result c.default.ensures) ∙ table_empty 1024
