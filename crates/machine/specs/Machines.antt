-- The whole fabric as values: what stands at each key, and the four lists of waiting messages, oldest first.
use Rattle.std.specs.Prelude.{ℕ, ◌+◌, min, List, [], ◌∷◌, ◌++◌, None, Option}
use Rattle.bedrock.specs.declared.words.Words.{Words}
use Rattle.bedrock.specs.Geometries.{Sizes, set_of}
use Rattle.protocols.specs.declared.state.State.{State}
use Rattle.protocols.specs.declared.row.Row.{Row}
use Rattle.messages.specs.declared.request.Request.{Request}
use Rattle.messages.specs.declared.command.Command.{Command}
use Rattle.messages.specs.declared.response.Response.{Response}
use Rattle.messages.specs.declared.memory_command.MemoryCommand.{MemoryCommand}
use Rattle.memory.specs.Blocks.{written}
use Rattle.machine.specs.declared.holding.Way.{Way}
use Rattle.machine.specs.declared.holding.Entry.{Entry}
use Rattle.machine.specs.declared.order.Order.{Order}
use Rattle.machine.specs.declared.transaction.Transaction.{Transaction}
use Rattle.machine.specs.Tables.{put, put₂, put₃}
use Rattle.machine.specs.Holdings.{no_way, no_entry}

pub record Machine : Type 0 where
  pub geometry : Sizes
  pub rows : State → Row  -- the protocol: the row of a read, by the state that the directory shows
  pub way : ℕ → ℕ → ℕ → Way  -- set, cache, way
  pub entry : ℕ → ℕ → ℕ → Entry  -- set, cache, way
  pub kept : ℕ → Option Order  -- cache: the order that it waits with
  pub turn : ℕ → ℕ → ℕ  -- set, cache: the way to empty next, where none is in I
  pub serving : ℕ → Option Transaction  -- set
  pub count : ℕ → ℕ  -- set: how many answers the directory awaits
  pub memory : ℕ → Words  -- block
  pub requests : List Request  -- channel 0
  pub commands : List Command  -- channel 1
  pub responses : List Response  -- channel 2
  pub memory_commands : List MemoryCommand  -- channel 3

-- a fabric that was just built: all ways in I, counts 0, nothing on its way; the starting content is what the memory holds
abbrev pub new : Sizes → (State → Row) → (ℕ → Words) → Machine
new g rows content = record { geometry = g; rows = rows; way = λ _ _ _. no_way; entry = λ _ _ _. no_entry; kept = λ _. None; turn = λ _ _. 0; serving = λ _. None; count = λ _. 0; memory = content; requests = []; commands = []; responses = []; memory_commands = [] }

-- the set that a block belongs to
abbrev pub home : Machine → ℕ → ℕ
home m b = set_of m.geometry b

-- One part changed. Tables have room for the largest geometry: 16 sets, 8 caches, 4 ways.
abbrev pub with_way : Machine → ℕ → ℕ → ℕ → Way → Machine
with_way m s c w v = record { geometry = m.geometry; rows = m.rows; way = put₃ 16 8 4 m.way s c w v; entry = m.entry; kept = m.kept; turn = m.turn; serving = m.serving; count = m.count; memory = m.memory; requests = m.requests; commands = m.commands; responses = m.responses; memory_commands = m.memory_commands }

abbrev pub with_entries : Machine → (ℕ → ℕ → ℕ → Entry) → Machine
with_entries m f = record { geometry = m.geometry; rows = m.rows; way = m.way; entry = f; kept = m.kept; turn = m.turn; serving = m.serving; count = m.count; memory = m.memory; requests = m.requests; commands = m.commands; responses = m.responses; memory_commands = m.memory_commands }

abbrev pub with_kept : Machine → ℕ → Option Order → Machine
with_kept m c v = record { geometry = m.geometry; rows = m.rows; way = m.way; entry = m.entry; kept = put 8 m.kept c v; turn = m.turn; serving = m.serving; count = m.count; memory = m.memory; requests = m.requests; commands = m.commands; responses = m.responses; memory_commands = m.memory_commands }

abbrev pub with_turn : Machine → ℕ → ℕ → ℕ → Machine
with_turn m s c v = record { geometry = m.geometry; rows = m.rows; way = m.way; entry = m.entry; kept = m.kept; turn = put₂ 16 8 m.turn s c v; serving = m.serving; count = m.count; memory = m.memory; requests = m.requests; commands = m.commands; responses = m.responses; memory_commands = m.memory_commands }

abbrev pub with_serving : Machine → ℕ → Option Transaction → Machine
with_serving m s v = record { geometry = m.geometry; rows = m.rows; way = m.way; entry = m.entry; kept = m.kept; turn = m.turn; serving = put 16 m.serving s v; count = m.count; memory = m.memory; requests = m.requests; commands = m.commands; responses = m.responses; memory_commands = m.memory_commands }

abbrev pub with_count : Machine → ℕ → ℕ → Machine
with_count m s v = record { geometry = m.geometry; rows = m.rows; way = m.way; entry = m.entry; kept = m.kept; turn = m.turn; serving = m.serving; count = put 16 m.count s v; memory = m.memory; requests = m.requests; commands = m.commands; responses = m.responses; memory_commands = m.memory_commands }

abbrev pub with_memory : Machine → ℕ → Words → Machine
with_memory m b v = record { geometry = m.geometry; rows = m.rows; way = m.way; entry = m.entry; kept = m.kept; turn = m.turn; serving = m.serving; count = m.count; memory = written m.memory b v; requests = m.requests; commands = m.commands; responses = m.responses; memory_commands = m.memory_commands }

abbrev pub with_requests : Machine → List Request → Machine
with_requests m l = record { geometry = m.geometry; rows = m.rows; way = m.way; entry = m.entry; kept = m.kept; turn = m.turn; serving = m.serving; count = m.count; memory = m.memory; requests = l; commands = m.commands; responses = m.responses; memory_commands = m.memory_commands }

abbrev pub with_commands : Machine → List Command → Machine
with_commands m l = record { geometry = m.geometry; rows = m.rows; way = m.way; entry = m.entry; kept = m.kept; turn = m.turn; serving = m.serving; count = m.count; memory = m.memory; requests = m.requests; commands = l; responses = m.responses; memory_commands = m.memory_commands }

abbrev pub with_responses : Machine → List Response → Machine
with_responses m l = record { geometry = m.geometry; rows = m.rows; way = m.way; entry = m.entry; kept = m.kept; turn = m.turn; serving = m.serving; count = m.count; memory = m.memory; requests = m.requests; commands = m.commands; responses = l; memory_commands = m.memory_commands }

abbrev pub with_memory_commands : Machine → List MemoryCommand → Machine
with_memory_commands m l = record { geometry = m.geometry; rows = m.rows; way = m.way; entry = m.entry; kept = m.kept; turn = m.turn; serving = m.serving; count = m.count; memory = m.memory; requests = m.requests; commands = m.commands; responses = m.responses; memory_commands = l }

-- One answer more is awaited. The count is kept in 16 bits and would stop at their end, which no run comes near.
abbrev pub one_more : ℕ → ℕ
one_more n = min (n + 1) 65535

-- A message goes out: it comes last on its channel.
abbrev pub request : Machine → Request → Machine
request m x = with_requests m (m.requests ++ x ∷ [])

abbrev pub command : Machine → Command → Machine
command m x = with_commands m (m.commands ++ x ∷ [])

abbrev pub respond : Machine → Response → Machine
respond m x = with_responses m (m.responses ++ x ∷ [])

abbrev pub ask_memory : Machine → MemoryCommand → Machine
ask_memory m x = with_memory_commands m (m.memory_commands ++ x ∷ [])
