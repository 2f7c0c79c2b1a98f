use Rattle.std.proofs.Common.{◌≡◌, rules, ap, ◌∙◌}
use Rattle.wires.specs.Waiting.{without}
use Rattle.wires.proofs.Removing.{taken}
use Rattle.wires.proofs.wire.WireChannel.take.Goals as goal

pub returns-clause-after : goal.returns-clause-after
returns-clause-after g c =
    let e = c.pop_at.ensures in
    let v = c.args.self.now.messages in
    let index : c.choose-index.result ≡ g.K.Choice.choice v.items c.args.pick = search rules in
    taken v _ _ _ e.value e.items e.absent ∙ ap (without v.items) index
