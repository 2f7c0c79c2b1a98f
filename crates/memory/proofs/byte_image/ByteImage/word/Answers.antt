use Rattle.std.proofs.Common.{rules}
use Rattle.memory.specs.Blocks.{word_at}
use Rattle.memory.proofs.byte_image.ByteImage.word.Goals as goal

pub returns : goal.returns
unfolding word_at
returns c = search rules
