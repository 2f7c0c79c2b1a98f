-- What a fabric is to the machine: what its parts are.
use Rattle.std.specs.Prelude.{ℕ, List}
use Rattle.bedrock.specs.declared.words.Words.{Words}
use Rattle.protocols.specs.declared.state.State.{State}
use Rattle.protocols.specs.declared.row.Row.{Row}
use Rattle.messages.specs.declared.request.Request.{Request}
use Rattle.messages.specs.declared.command.Command.{Command}
use Rattle.messages.specs.declared.response.Response.{Response}
use Rattle.messages.specs.declared.memory_command.MemoryCommand.{MemoryCommand}
use Rattle.machine.specs.Machines.{Machine}
use Rattle.parts.specs.Views as parts
use Rattle.fabric.specs.declared.state.Fabric.{Fabric}

abbrev pub view : {B P Q C R D M : Type 0} → (P → State → Row) → (Q → List Request) → (C → List Command) → (R → List Response) → (D → List MemoryCommand) → (M → ℕ → Words) → Fabric B P Q C R D M → Machine
view p q c r d m f = parts.view p q c r d m f.parts
