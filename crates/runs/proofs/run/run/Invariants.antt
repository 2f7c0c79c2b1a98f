use Rattle.std.proofs.Common.{◌≡◌, List, reverse, take, vec_items}
use Rattle.machine.specs.Runs.{Event, says_in}
use Rattle.fabric.specs.Arrivals.{call_at}
use Rattle.fabric.specs.Views.{view}
use Rattle.runs.specs.Following.{Follows, all_said}
use Rattle.runs.proofs.run.run.Given as goal

-- the calls so far were followed, and their answers are there
abbrev pub invariant-loop-call : goal.invariant-loop-call
invariant-loop-call g l =
    (events : List Event)
    × Follows (view g.B.Protocol.Protocol.row g.B.Requests.Channel.waiting g.B.Commands.Channel.waiting g.B.Responses.Channel.waiting g.B.MemoryCommands.Channel.waiting g.B.Memory.Memory.blocks)
    (call_at g.B.Requests.Channel.chosen g.B.Commands.Channel.chosen g.B.Responses.Channel.chosen g.B.MemoryCommands.Channel.chosen)
    (view g.B.Protocol.Protocol.row g.B.Requests.Channel.waiting g.B.Commands.Channel.waiting g.B.Responses.Channel.waiting g.B.MemoryCommands.Channel.waiting g.B.Memory.Memory.blocks l.initial.fabric)
    (reverse (take l.call-index l.calls)) events l.fabric
    × (says_in events ≡ all_said (vec_items l.answers))
