use Rattle.std.proofs.Common.{◌≡◌, ◌+◌, ◌-◌, ◌≤◌, length, ap, ◌∙◌, arith}
use Rattle.memory.proofs.Bytes.{word_part, part_below, part_above, part_length}
use Rattle.memory.proofs.byte_image.ByteImage.put.Goals as goal

pub invariant_of-self : goal.invariant_of-self
invariant_of-self c =
    let xs = c.args.self.now.bytes in
    let room : c.args.at + 8 ≤ length xs = omega arith in
    let eight = c.copy_from_slice.ensures.after ∙ c.to_le_bytes.ensures in
    record { sized = part_length xs c.copy_from_slice.new.self c.args.at _ (omega arith) (ap length eight) room ∙ c.args.self.now.sized }

pub returns : goal.returns
returns c =
    let xs = c.args.self.now.bytes in
    let p = c.args.at in
    let ys = c.copy_from_slice.new.self in
    let room : p + 8 ≤ length xs = omega arith in
    let k : (p + 8) - p ≡ 8 = omega arith in
    let eight = c.copy_from_slice.ensures.after ∙ c.to_le_bytes.ensures in
    record {
      here = word_part xs ys p _ c.args.value k eight (omega arith) room;
      below = λ i h. part_below xs ys p _ i room h;
      above = λ i h. part_above xs ys p _ i k (ap length eight) room h;
    }
