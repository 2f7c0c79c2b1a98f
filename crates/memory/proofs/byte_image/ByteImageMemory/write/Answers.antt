use Rattle.std.proofs.Common.{◌≡◌, sym, ap, ◌∙◌, arith}
use Rattle.memory.specs.Blocks.{word_at, start_of, image_blocks}
use Rattle.memory.proofs.Bytes.{image_write, word_same}
use Rattle.memory.proofs.Writes.{written_outside}
use Rattle.memory.proofs.byte_image.ByteImageMemory.write.Goals as goal

pub returns-then-block-lt1024 : goal.returns-then-block-lt1024
returns-then-block-lt1024 c =
    let first = c.put.ensures in
    let second = c.put-then-block-lt1024.ensures in
    let mid = c.put.new.self.bytes in
    let end = c.put-then-block-lt1024.new.self.bytes in
    let b = c.args.block in
    let p : c.start.result ≡ start_of b 0 = c.start.ensures in
    let q : c.start-then-block-lt1024.result ≡ start_of b 1 = c.start-then-block-lt1024.ensures in
    image_write c.args.self.now.bytes end b c.args.words
    (word_same end mid (start_of b 0) (λ k l m. second.below k (omega arith)) ∙ ap (word_at mid) (sym p) ∙ first.here)
    (ap (word_at end) (sym q) ∙ second.here)
    (λ k h. second.below k (omega arith) ∙ first.below k (omega arith))
    (λ k h. second.above k (omega arith) ∙ first.above k (omega arith))
    c.if-block-lt1024.true

pub returns-else-block-lt1024 : goal.returns-else-block-lt1024
returns-else-block-lt1024 c = written_outside (image_blocks c.args.self.now.bytes) c.args.block c.args.words c.if-block-lt1024.false
