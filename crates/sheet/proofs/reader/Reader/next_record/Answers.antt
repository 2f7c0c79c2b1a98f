use Rattle.sheet.proofs.Fronts.{drawn_front, drawn_within, drawn_left}
use Rattle.sheet.proofs.reader.Reader.next_record.Goals as goal

pub overflow_sub-self : goal.overflow_sub-self
overflow_sub-self c =
    let e = rw c.in-Some.is at c.in_ok-rec.ensures in
    drawn_within c.args.self.now.bytes.now c.args.self.now.at _ _ c.args.self.now.inside e

pub returns-clause-goes : goal.returns-clause-goes
returns-clause-goes c =
    let e = rw c.in-Some.is at c.in_ok-rec.ensures in
    let f = drawn_front c.args.self.now.bytes.now c.args.self.now.at _ _ c.args.self.now.inside e in
    let d = drawn_left c.args.self.now.bytes.now c.args.self.now.at _ _ c.args.self.now.inside e in
    rw f d
