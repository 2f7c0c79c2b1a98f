use Rattle.std.proofs.Common.{◌≡◌, ◌++◌, take}
use Rattle.directory_steps.proofs.requests.send_all.Given as goal

abbrev pub invariant-loop-command : goal.invariant-loop-command
invariant-loop-command g l = g.C.Channel.waiting l.channel ≡ g.C.Channel.waiting l.initial.channel ++ take l.command-index l.batch.items
