use Rattle.std.proofs.Common.{◌≡◌, false, cond, not, leb, List, length, sym, ap, ◌∙◌}
use Rattle.messages.specs.declared.request.Request.{Request}
use Rattle.machine.specs.Machines.{Machine, with_requests}
use Rattle.machine.specs.Outcomes.{move_on}
use Rattle.machine.specs.Acceptance.{from_memory, record_job, begin_two}
use Rattle.parts.specs.Views.{view}
use Rattle.directory_steps.proofs.requests.accept_at_once.Goals as goal

pub returns : goal.returns
returns g c =
    let before : Machine = view g.B.Protocol.Protocol.row g.B.Requests.Channel.waiting g.B.Commands.Channel.waiting g.B.Responses.Channel.waiting g.B.MemoryCommands.Channel.waiting g.B.Memory.Memory.blocks c.args.parts.now in
    let job = c.args.job in
    let room : cond (from_memory job.source) (leb 128 (length before.memory_commands)) (leb 128 (length before.commands)) ≡ false =
    sym c.has_room_for_two.ensures ∙ ap not c.if-not-has_room_for_two.false in
    rw room (ap move_on (c.begin_two.ensures ∙ ap (λ (m : Machine). begin_two m job) (c.record_job.ensures ∙ ap (λ (l : List Request). record_job (with_requests before l) job 0) c.take.ensures.after)))
