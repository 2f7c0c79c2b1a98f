-- Runs: a list of calls, each on what the one before left.
use Rattle.std.specs.Prelude.{ℕ, zero, suc, List, [], ◌∷◌, ◌++◌}
use Rattle.machine.specs.declared.order.Order.{Order}
use Rattle.machine.specs.Machines.{Machine}
use Rattle.machine.specs.Outcomes.{Said, Outcome, refuse}
use Rattle.machine.specs.Orders.{order}
use Rattle.machine.specs.Acceptance.{deliver_request}
use Rattle.machine.specs.Commands.{deliver_command}
use Rattle.machine.specs.Responses.{deliver_response, memory_turn}

-- The three calls that move a fabric. A delivery and a memory turn take the index of the message that arrives, the oldest being 0:
-- a channel only chooses which index a pick shows, so what holds for every index holds for every channel.
pub data Call : Type 0 where
  orders : ℕ → Order → Call  -- cache
  delivers : ℕ → ℕ → Call  -- channel, index
  turns : ℕ → Call  -- index

-- 4 no such channel
abbrev pub deliver : Machine → ℕ → ℕ → Outcome
deliver m zero i = deliver_request m i
deliver m (suc zero) i = deliver_command m i
deliver m (suc (suc zero)) i = deliver_response m i
deliver m (suc (suc (suc n))) i = refuse m 4

abbrev pub step : Machine → Call → Outcome
step m (orders c o) = order m c o
step m (delivers ch i) = deliver m ch i
step m (turns i) = memory_turn m i

-- a call that was made, and what it answered
pub record Event : Type 0 where
  pub call : Call
  pub says : Said

-- the machine after a run, and its events, latest first
pub record Past : Type 0 where
  pub machine : Machine
  pub events : List Event

abbrev pub run_on : Machine → List Event → List Call → Past
run_on m past [] = record { machine = m; events = past }
run_on m past (x ∷ xs) = let o : Outcome = step m x in run_on o.after (record { call = x; says = o.says } ∷ past) xs

abbrev pub run : Machine → List Call → Past
run m calls = run_on m [] calls

-- what the calls answered, in their order
abbrev pub answers : Machine → List Call → List Said
answers m [] = []
answers m (x ∷ xs) = let o : Outcome = step m x in o.says ∷ answers o.after xs

-- what events answered, in their order: the events are latest first
abbrev pub says_in : List Event → List Said
says_in [] = []
says_in (e ∷ past) = says_in past ++ (e.says ∷ [])
