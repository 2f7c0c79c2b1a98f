use Rattle.memory.proofs.Bytes.{image_empty}
use Rattle.memory.proofs.byte_image.ByteImageMemory.new.Goals as goal

pub returns : goal.returns
returns c = image_empty 16384
