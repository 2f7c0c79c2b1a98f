-- Calls with picks. Which message a pick shows is each channel's choice; the three kinds choose by what waits.
use Rattle.std.specs.Prelude.{ℕ, zero, suc, List, [], ◌∷◌}
use Rattle.messages.specs.declared.request.Request.{Request}
use Rattle.messages.specs.declared.command.Command.{Command}
use Rattle.messages.specs.declared.response.Response.{Response}
use Rattle.messages.specs.declared.memory_command.MemoryCommand.{MemoryCommand}
use Rattle.messages.specs.Routes.{request_from, request_to, command_from, command_to, response_from, response_to, memory_command_from, memory_command_to}
use Rattle.wires.specs.Picks.{unordered_pick, single_file_pick, paired_pick}
use Rattle.machine.specs.declared.fabric_call.FabricCall.{FabricCall}
use Rattle.machine.specs.declared.fabric_call.FabricCall.TheVariants as made
use Rattle.machine.specs.Machines.{Machine}
use Rattle.machine.specs.Outcomes.{Said, Outcome}
use Rattle.machine.specs.Runs.{Call, orders, delivers, turns, step, Past, Event}

-- how the four channels pick: what waits and the pick give the index of the message that arrives, the oldest being 0
pub record Picks : Type 0 where
  pub requests : List Request → ℕ → ℕ
  pub commands : List Command → ℕ → ℕ
  pub responses : List Response → ℕ → ℕ
  pub memory_commands : List MemoryCommand → ℕ → ℕ

abbrev pub unordered : Picks
unordered = record { requests = unordered_pick; commands = unordered_pick; responses = unordered_pick; memory_commands = unordered_pick }

abbrev pub paired : Picks
paired = record { requests = paired_pick request_from request_to; commands = paired_pick command_from command_to; responses = paired_pick response_from response_to; memory_commands = paired_pick memory_command_from memory_command_to }

abbrev pub single_file : Picks
single_file = record { requests = single_file_pick; commands = single_file_pick; responses = single_file_pick; memory_commands = single_file_pick }

-- the index that a pick shows on channel 0, 1 or 2
abbrev pub shown_on : Picks → Machine → ℕ → ℕ → ℕ
shown_on k m zero p = k.requests m.requests p
shown_on k m (suc zero) p = k.commands m.commands p
shown_on k m (suc (suc n)) p = k.responses m.responses p

-- the call with the index of the message that arrives
abbrev pub arriving : Picks → Machine → FabricCall → Call
arriving k m (made.Order c o) = orders c o
arriving k m (made.Deliver ch p) = delivers ch (shown_on k m ch p)
arriving k m (made.MemoryTurn p) = turns (k.memory_commands m.memory_commands p)

-- a run of calls with picks: the machine after it, and its events, latest first
abbrev pub play_on : Picks → Machine → List Event → List FabricCall → Past
play_on k m past [] = record { machine = m; events = past }
play_on k m past (x ∷ xs) =
    let a : Call = arriving k m x in
    let o : Outcome = step m a in
    play_on k o.after (record { call = a; says = o.says } ∷ past) xs

abbrev pub play : Picks → Machine → List FabricCall → Past
play k m calls = play_on k m [] calls

-- what the calls answered, in their order
abbrev pub heard : Picks → Machine → List FabricCall → List Said
heard k m [] = []
heard k m (x ∷ xs) = let o : Outcome = step m (arriving k m x) in o.says ∷ heard k o.after xs
