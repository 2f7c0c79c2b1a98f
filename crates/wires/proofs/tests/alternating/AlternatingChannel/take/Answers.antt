use Rattle.std.proofs.Common.{ap, ◌∙◌}
use Rattle.wires.specs.Waiting.{without}
use Rattle.wires.proofs.Removing.{taken}
use Rattle.wires.proofs.tests.alternating.AlternatingChannel.take.Goals as goal

pub returns-then-is_some-clause-after : goal.returns-then-is_some-clause-after
returns-then-is_some-clause-after g c =
    let e = c.pop_at-message.ensures in
    let v = c.args.self.now.messages in
    taken v _ _ _ e.value e.items e.absent ∙ ap (without v.items) c.index-index.ensures
