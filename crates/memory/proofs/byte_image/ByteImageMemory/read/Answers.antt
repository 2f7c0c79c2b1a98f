use Rattle.std.proofs.Common.{sym, ap, ◌∙◌}
use Rattle.bedrock.specs.BlockWords.{words_of}
use Rattle.memory.specs.Blocks.{word_at, start_of, image_blocks}
use Rattle.memory.specs.Beyond.{image_beyond}
use Rattle.memory.proofs.Writes.{default_is}
use Rattle.memory.proofs.byte_image.ByteImageMemory.read.Goals as goal

pub returns-then-block-lt1024 : goal.returns-then-block-lt1024
unfolding image_blocks
returns-then-block-lt1024 c =
    let bytes = c.args.self.now.bytes in
    ap (λ w. words_of w c.word-then-block-lt1024.result) (c.word.ensures ∙ ap (word_at bytes) c.start.ensures)
    ∙ ap (λ w. words_of (word_at bytes (start_of c.args.block 0)) w) (c.word-then-block-lt1024.ensures ∙ ap (word_at bytes) c.start-then-block-lt1024.ensures)

pub returns : goal.returns
returns c = default_is c.default.result c.default.ensures ∙ sym (image_beyond c.args.self.now.bytes c.args.self.now.sized c.args.block c.if-block-lt1024.false)
