-- What the parts of a fabric are to the machine: its tables as functions, its channels as lists, its protocol and memory by their meaning.
use Rattle.std.specs.Prelude.{ℕ, List, None}
use Rattle.bedrock.specs.declared.words.Words.{Words}
use Rattle.bedrock.specs.Geometries.{sizes}
use Rattle.protocols.specs.declared.state.State.{State}
use Rattle.protocols.specs.declared.row.Row.{Row}
use Rattle.messages.specs.declared.request.Request.{Request}
use Rattle.messages.specs.declared.command.Command.{Command}
use Rattle.messages.specs.declared.response.Response.{Response}
use Rattle.messages.specs.declared.memory_command.MemoryCommand.{MemoryCommand}
use Rattle.machine.specs.Holdings.{no_way, no_entry}
use Rattle.machine.specs.Machines.{Machine}
use Rattle.tables.specs.Grids.{column, rows, grid}
use Rattle.parts.specs.declared.state.Parts.{Parts}

abbrev pub view : {B P Q C R D M : Type 0} → (P → State → Row) → (Q → List Request) → (C → List Command) → (R → List Response) → (D → List MemoryCommand) → (M → ℕ → Words) → Parts B P Q C R D M → Machine
view p q c r d m f = record {
  geometry = sizes f.directory.geometry;
  rows = p f.protocol;
  way = grid no_way f.ways.cells;
  entry = grid no_entry f.directory.entries.cells;
  kept = column 8 None f.kept.cells;
  turn = rows 0 f.turns.cells;
  serving = column 16 None f.serving.cells;
  count = column 16 0 f.counts.cells;
  memory = m f.memory;
  requests = q f.requests;
  commands = c f.commands;
  responses = r f.responses;
  memory_commands = d f.memory_commands;
}
