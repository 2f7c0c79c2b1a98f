use Rattle.std.proofs.Common.{◌≤◌, length}
use Rattle.machine.specs.Commands.{answers_to, sends_on}
use Rattle.cache_steps.proofs.Rooms.{without_shorter, room_for}
use Rattle.cache_steps.proofs.commands.deliver_command.Goals as goal

pub obey-requires : goal.obey-requires
obey-requires g c =
    let waits = g.B.Commands.Channel.waiting c.args.parts.now.commands in
    let shorter : length (g.B.Commands.Channel.waiting c.take.new.self) ≤ length waits =
    rw c.take.ensures.after (without_shorter waits (g.B.Commands.Channel.chosen c.args.parts.now.commands c.args.pick)) in
    room_for (length (g.B.Responses.Channel.waiting c.args.parts.now.responses)) (answers_to c.in_ok-command.command) (length waits) (length (g.B.Commands.Channel.waiting c.take.new.self))
    (sends_on c.in_ok-command.command) c.has_room_for.result c.has_room_for.ensures c.if-not-has_room_for.false shorter
