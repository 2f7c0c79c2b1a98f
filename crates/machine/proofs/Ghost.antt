-- The machine read by keys, together with what the proof adds to it: ghost state, of which no call reads anything.
use Rattle.std.proofs.Common.{ℕ, None, Option}
use Rattle.bedrock.specs.declared.words.Words.{Words}
use Rattle.bedrock.specs.Geometries.{Sizes}
use Rattle.protocols.specs.declared.state.State.{State}
use Rattle.messages.specs.declared.request.Request.{Request}
use Rattle.messages.specs.declared.command.Command.{Command}
use Rattle.messages.specs.declared.response.Response.{Response}
use Rattle.machine.specs.declared.holding.Way.{Way}
use Rattle.machine.specs.declared.holding.Entry.{Entry}
use Rattle.machine.specs.declared.order.Order.{Order}
use Rattle.machine.specs.declared.transaction.Job.{Job}
use Rattle.machine.specs.Holdings.{no_way, no_entry}
use Rattle.machine.proofs.Updates.{update, update₂, update₃}

-- How far the transaction of a set has come. Round one is Evicting and then Clearing, round two is the rest.
pub data Stage : Type 0 where
  Evicting : Stage  -- the requestor's way has to be written back, and the command is on its way
  Clearing : Stage  -- that is done or was not needed; caches still let go of what they must, and answer
  Asked : Stage  -- the words are asked for: from the memory, from the owner, or by a Wakeup for the requestor's own copy
  Sent : Stage  -- the words are on their way to the requestor
  Filled : Stage  -- the requestor has the block; the rest of the answers come in

-- a set's job and its stage
pub record Progress : Type 0 where
  pub job : Job
  pub stage : Stage

abbrev pub at_stage : Stage → Job → Progress
at_stage st j = record { job = j; stage = st }

-- the one message between a cache and the directory: none, a command to the cache, or a response from it
pub data Mail : Type 0 where
  Nothing : Mail
  To : Command → Mail
  From : Response → Mail

-- a cache in a set: the entries that it still goes by, and its mail. The directory records final entries at once; the cache
-- knows of a change when the command that makes it has arrived.
pub record Mailbox : Type 0 where
  pub known : ℕ → Entry  -- way
  pub mail : Mail

-- a cache: the order that it waits with, and its request while that has not been accepted
pub record Waiter : Type 0 where
  pub kept : Option Order
  pub request : Option Request

-- what is on its way between the directory and the memory about a block
pub data Pending : Type 0 where
  Idle : Pending
  Reading : ℕ → ℕ → State → Pending  -- a memory read, for a cache, a way and the state that the way takes
  Coming : Words → Pending  -- words in a Writeback
  Waiting : Words → Pending  -- words in a memory write

-- a block: the memory's words, what is on its way, and the latest words, which the last store on the block left
pub record BlockAtMemory : Type 0 where
  pub memory : Words
  pub pending : Pending
  pub latest : Words

-- all of it: what the machine has at each key, and what the proof adds
pub record Ghost : Type 0 where
  pub geometry : Sizes
  pub entry : ℕ → ℕ → ℕ → Entry  -- set, cache, way: the directory's
  pub way : ℕ → ℕ → ℕ → Way  -- set, cache, way
  pub mailbox : ℕ → ℕ → Mailbox  -- set, cache
  pub progress : ℕ → Option Progress  -- set
  pub waiter : ℕ → Waiter  -- cache
  pub at_memory : ℕ → BlockAtMemory  -- block

-- One part changed.
abbrev pub set_way : Ghost → ℕ → ℕ → ℕ → Way → Ghost
set_way g s c w v = record {
  geometry = g.geometry;
  entry = g.entry;
  way = update₃ g.way s c w v;
  mailbox = g.mailbox;
  progress = g.progress;
  waiter = g.waiter;
  at_memory = g.at_memory;
}

abbrev pub set_mailbox : Ghost → ℕ → ℕ → Mailbox → Ghost
set_mailbox g s c x = record {
  geometry = g.geometry;
  entry = g.entry;
  way = g.way;
  mailbox = update₂ g.mailbox s c x;
  progress = g.progress;
  waiter = g.waiter;
  at_memory = g.at_memory;
}

abbrev pub set_progress : Ghost → ℕ → Option Progress → Ghost
set_progress g s h = record {
  geometry = g.geometry;
  entry = g.entry;
  way = g.way;
  mailbox = g.mailbox;
  progress = update g.progress s h;
  waiter = g.waiter;
  at_memory = g.at_memory;
}

abbrev pub set_waiter : Ghost → ℕ → Waiter → Ghost
set_waiter g c d = record {
  geometry = g.geometry;
  entry = g.entry;
  way = g.way;
  mailbox = g.mailbox;
  progress = g.progress;
  waiter = update g.waiter c d;
  at_memory = g.at_memory;
}

abbrev pub set_block : Ghost → ℕ → BlockAtMemory → Ghost
set_block g b k = record {
  geometry = g.geometry;
  entry = g.entry;
  way = g.way;
  mailbox = g.mailbox;
  progress = g.progress;
  waiter = g.waiter;
  at_memory = update g.at_memory b k;
}

-- of a new fabric
abbrev pub new_ghost : Sizes → (ℕ → Words) → Ghost
new_ghost geometry content = record {
  geometry = geometry;
  entry = λ _ _ _. no_entry;
  way = λ _ _ _. no_way;
  mailbox = λ _ _. record { known = λ _. no_entry; mail = Nothing };
  progress = λ _. None;
  waiter = λ _. record { kept = None; request = None };
  at_memory = λ b. record { memory = content b; pending = Idle; latest = content b };
}
