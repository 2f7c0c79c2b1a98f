-- The delivery of a command to its cache.
use Rattle.std.specs.Prelude.{ℕ, ◌+◌, Bool, true, false, cond, ◌&&◌, ◌||◌, length, Some, None, Option, nat_le, nat_lt}
use Rattle.std.specs.List.{slice_get}
use Rattle.bedrock.specs.declared.words.Words.{Words}
use Rattle.bedrock.specs.declared.party.Party.TheVariants.{Cache}
use Rattle.protocols.specs.declared.state.State.{State}
use Rattle.protocols.specs.declared.state.State.TheVariants.{M}
use Rattle.protocols.specs.States.{dirty}
use Rattle.messages.specs.declared.command.Command.{Command}
use Rattle.messages.specs.declared.command.Command.TheVariants.{Invalidate, SetStateWriteback, Transfer, SetTagData, SetStateWakeup}
use Rattle.messages.specs.declared.response.Response.{Response}
use Rattle.messages.specs.declared.response.Response.TheVariants.{InvalidateAck, CoherenceAck, Writeback, NullWriteback}
use Rattle.wires.specs.Waiting.{without}
use Rattle.machine.specs.declared.holding.Way.{Way}
use Rattle.machine.specs.declared.order.Order.{Order}
use Rattle.machine.specs.Holdings.{no_way, way_in}
use Rattle.machine.specs.Machines.{Machine, home, with_way, with_kept, with_commands, command, respond}
use Rattle.machine.specs.Outcomes.{Outcome, refuse, move_on}
use Rattle.machine.specs.Orders.{finish}

-- what a cache writes back, judged by the state that the way was in
abbrev pub given_back : ℕ → ℕ → Way → Response
given_back c b h = cond (dirty h.state) (Writeback c b h.words) (NullWriteback c b)

-- the requestor has the block's words in a state: the kept order is carried out, the wait ends, and Coherence Ack goes out
abbrev pub fill_for : Machine → ℕ → ℕ → ℕ → State → Words → Option Order → Outcome
fill_for m c b w st ws None = move_on (respond m (CoherenceAck c b))
fill_for m c b w st ws (Some o) = finish (respond (with_kept m c None) (CoherenceAck c b)) (home m b) c w st ws o

abbrev pub fill : Machine → ℕ → ℕ → ℕ → State → Words → Outcome
fill m c b w st ws = fill_for m c b w st ws (m.kept c)

-- what each command does
abbrev pub obey : Machine → Command → Outcome
obey m (Invalidate c b w) = move_on (respond (with_way m (home m b) c w no_way) (InvalidateAck c b))
obey m (SetStateWriteback c b w) = move_on (respond (with_way m (home m b) c w no_way) (given_back c b (m.way (home m b) c w)))
obey m (Transfer c b w r rw next given writeback) =
    let h : Way = m.way (home m b) c w in
    let n : Machine = command (with_way m (home m b) c w (way_in next b h.words)) (SetTagData r b rw given h.words (Cache c)) in
    move_on (cond writeback (respond n (given_back c b h)) n)
obey m (SetTagData c b w next ws sender) = fill m c b w next ws
obey m (SetStateWakeup c b w) = fill m c b w M (m.way (home m b) c w).words

-- how many responses it sends, and whether it sends a command
abbrev pub answers_to : Command → ℕ
answers_to (Invalidate c b w) = 1
answers_to (SetStateWriteback c b w) = 1
answers_to (Transfer c b w r rw next given writeback) = cond writeback 1 0
answers_to (SetTagData c b w next ws sender) = 1
answers_to (SetStateWakeup c b w) = 1

abbrev pub sends_on : Command → Bool
sends_on (Invalidate c b w) = false
sends_on (SetStateWriteback c b w) = false
sends_on (Transfer c b w r rw next given writeback) = true
sends_on (SetTagData c b w next ws sender) = false
sends_on (SetStateWakeup c b w) = false

-- 12 where none waits; 14 counts the free places before the command is taken
abbrev pub deliver_command : Machine → ℕ → Outcome
deliver_command m i = elim (slice_get m.commands i) [
  | None ↦ refuse m 12
  | Some x ↦ cond (nat_lt 128 (length m.responses + answers_to x) || (sends_on x && nat_le 128 (length m.commands))) (refuse m 14)
      (obey (with_commands m (without m.commands i)) x)
]
