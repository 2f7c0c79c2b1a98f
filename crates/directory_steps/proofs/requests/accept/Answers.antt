use Rattle.std.proofs.Common.{◌+◌, ◌<◌, ◌≤◌, ℕ, List, ◌++◌, length, sym, ap, ◌∙◌, arith}
use Rattle.messages.specs.declared.request.Request.{Request}
use Rattle.messages.specs.declared.command.Command.{Command}
use Rattle.wires.specs.Waiting.{without}
use Rattle.machine.specs.Machines.{Machine, with_requests, with_commands}
use Rattle.machine.specs.Outcomes.{move_on}
use Rattle.machine.specs.Acceptance.{record_job}
use Rattle.parts.specs.Views.{view}
use Rattle.directory_steps.proofs.Accepting.{accepted_sending}
use Rattle.directory_steps.proofs.requests.accept.Goals as goal

pub returns : goal.returns
returns g c =
    let a = c.args in
    let before : Machine = view g.B.Protocol.Protocol.row g.B.Requests.Channel.waiting g.B.Commands.Channel.waiting g.B.Responses.Channel.waiting g.B.MemoryCommands.Channel.waiting g.B.Memory.Memory.blocks a.parts.now in
    let xs = a.first.now.items in
    let some : 0 < length xs = omega arith in
    let room : length before.commands + length xs ≤ 128 = omega arith in
    let at : ℕ = g.B.Requests.Channel.chosen a.parts.now.requests a.pick in
    let left : List Request = without before.requests at in
    let recorded =
    c.record_job.ensures
    ∙ ap (λ (l : List Request). record_job (with_requests before l) a.job c.len-left.result) c.take.ensures.after
    ∙ ap (λ (n : ℕ). record_job (with_requests before left) a.job n) c.len-left.ensures.value in
    ap (λ (l : List Command). move_on (with_commands (view g.B.Protocol.Protocol.row g.B.Requests.Channel.waiting g.B.Commands.Channel.waiting g.B.Responses.Channel.waiting g.B.MemoryCommands.Channel.waiting g.B.Memory.Memory.blocks c.record_job.new.parts) l)) c.send_all.ensures
    ∙ ap (λ (m : Machine). move_on (with_commands m (m.commands ++ xs))) recorded
    ∙ sym (accepted_sending before at a.request a.job xs some room)
