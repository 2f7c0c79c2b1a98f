use Rattle.std.proofs.Common.{◌≡◌, List, [], ◌∷◌, ◌++◌, reverse, get_or, take, vec_items, sym, refl, ap, ◌∙◌, subst, arith}
use Rattle.std.proofs.lemmas.List.{take_all, map-append}
use Rattle.bedrock.specs.Geometries.{sizes}
use Rattle.machine.specs.declared.fabric_call.FabricCall.{FabricCall}
use Rattle.machine.specs.declared.fabric_call.FabricCall.TheVariants.{Order}
use Rattle.machine.specs.declared.order.Order.TheVariants.{Load}
use Rattle.machine.specs.Machines.{Machine, new}
use Rattle.machine.specs.Outcomes.{Said, said}
use Rattle.machine.specs.Runs.{Event}
use Rattle.fabric.specs.Arrivals.{call_at}
use Rattle.fabric.specs.Views.{view}
use Rattle.runs.specs.Following.{Follows, all_said}
use Rattle.runs.proofs.Follow.{follows_next, follows_coherent}
use Rattle.runs.proofs.Premises.{geometry_bounded, rows_lawful}
use Rattle.runs.proofs.run.run.Goals as goal

pub loop-call-init : goal.loop-call-init
loop-call-init g c = ([], refl, sym (ap all_said c.new-answers.ensures.items))

pub loop-call-preserved : goal.loop-call-preserved
loop-call-preserved g c =
    let shows = view g.B.Protocol.Protocol.row g.B.Requests.Channel.waiting g.B.Commands.Channel.waiting g.B.Responses.Channel.waiting g.B.MemoryCommands.Channel.waiting g.B.Memory.Memory.blocks in
    let arrives = call_at g.B.Requests.Channel.chosen g.B.Commands.Channel.chosen g.B.Responses.Channel.chosen g.B.MemoryCommands.Channel.chosen in
    let calls = c.args.calls.now in
    let i = c.loop-call.call-index in
    let events : List Event = c.loop-call.invariant.0 in
    let a : Said = said c.call.result in
    let first : FabricCall = Order 0 (Load 0 0) in (
      record { call = arrives c.loop-call.fabric (get_or calls i first); says = a } ∷ events,
      follows_next shows arrives (shows c.build-fabric.result) calls i first events c.loop-call.fabric c.call.new.self a (omega arith) c.loop-call.invariant.1 c.call.ensures,
      ap (λ (l : List Said). l ++ a ∷ []) c.loop-call.invariant.2 ∙ (sym (map-append said (vec_items c.loop-call.answers) (c.call.result ∷ [])) ∙ ap all_said (sym c.in_ok-push.ensures.items)),
    )

pub returns : goal.returns
returns g c =
    let shows = view g.B.Protocol.Protocol.row g.B.Requests.Channel.waiting g.B.Commands.Channel.waiting g.B.Responses.Channel.waiting g.B.MemoryCommands.Channel.waiting g.B.Memory.Memory.blocks in
    let arrives = call_at g.B.Requests.Channel.chosen g.B.Commands.Channel.chosen g.B.Responses.Channel.chosen g.B.MemoryCommands.Channel.chosen in
    let start : Machine = new (sizes c.args.geometry) (g.B.Protocol.Protocol.row c.args.protocol) (g.B.Memory.Memory.blocks c.args.memory) in
    let events : List Event = c.loop-call.invariant.0 in
    let all : take c.loop-call.call-index c.args.calls.now ≡ c.args.calls.now = take_all c.loop-call.call-index c.args.calls.now c.loop-call-test.false in
    let follows : Follows shows arrives start (reverse c.args.calls.now) events c.loop-call.fabric =
    subst (λ (m : Machine). Follows shows arrives m (reverse c.args.calls.now) events c.loop-call.fabric) c.build-fabric.ensures
    (subst (λ (l : List FabricCall). Follows shows arrives (shows c.build-fabric.result) (reverse l) events c.loop-call.fabric) all c.loop-call.invariant.1) in
    record {
      events = events;
      follows = follows;
      answered = c.loop-call.invariant.2;
      coherent = follows_coherent shows arrives (sizes c.args.geometry) (g.B.Protocol.Protocol.row c.args.protocol) (g.B.Memory.Memory.blocks c.args.memory) c.coherent.ensures
          (geometry_bounded c.args.geometry)
          (rows_lawful (g.B.Protocol.Protocol.row c.args.protocol) (g.met.B.Protocol.Protocol.unowned c.args.protocol) (g.met.B.Protocol.Protocol.handover c.args.protocol) (g.met.B.Protocol.Protocol.exclusive c.args.protocol) (g.met.B.Protocol.Protocol.dirty c.args.protocol))
          (reverse c.args.calls.now) events c.loop-call.fabric follows;
    }
