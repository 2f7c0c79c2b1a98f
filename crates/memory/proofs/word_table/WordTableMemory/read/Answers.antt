use Rattle.std.proofs.Common.{arith, ap, ◌∙◌}
use Rattle.std.specs.Option.{unwrap_or}
use Rattle.memory.proofs.Writes.{table_read}
use Rattle.memory.proofs.word_table.WordTableMemory.read.Goals as goal

pub returns : goal.returns
returns c =
    table_read c.args.self.now.rows c.args.block c.copied.result _ (λ d. ap (λ o. unwrap_or o d) c.copied.ensures ∙ c.get.ensures.lookup.4 (omega arith) d) c.unwrap_or_default.ensures
