-- What a run answers, and what the definitions say of the sheet.
use Rattle.std.proofs.Common.{◌≡◌, ℕ, zero, suc, List, sym, refl, ap, ◌∙◌}
use Rattle.bedrock.specs.declared.words.Words.{Words}
use Rattle.protocols.specs.declared.state.State.{State}
use Rattle.protocols.specs.declared.row.Row.{Row}
use Rattle.protocols.specs.declared.protocol_kind.ProtocolKind.{ProtocolKind}
use Rattle.protocols.specs.declared.protocol_kind.ProtocolKind.TheVariants.{Mi, Msi, Mesi, Mesif, Mosi, Mosif, Moesi, Moesif}
use Rattle.protocols.specs.ProtocolKinds.{code_of}
use Rattle.protocols.specs.Tables.{read_row}
use Rattle.messages.specs.declared.request.Request.{Request}
use Rattle.messages.specs.declared.command.Command.{Command}
use Rattle.messages.specs.declared.response.Response.{Response}
use Rattle.messages.specs.declared.memory_command.MemoryCommand.{MemoryCommand}
use Rattle.machine.specs.declared.fabric_call.FabricCall.{FabricCall}
use Rattle.machine.specs.declared.fabric_call.FabricCall.TheVariants as made
use Rattle.machine.specs.Machines.{Machine}
use Rattle.machine.specs.Outcomes.{Said}
use Rattle.machine.specs.Runs.{Call, delivers, turns}
use Rattle.machine.specs.Picking.{Picks, arriving, shown_on, heard}
use Rattle.fabric.specs.declared.state.Fabric.{Fabric}
use Rattle.fabric.specs.Arrivals.{index_on, call_at}
use Rattle.fabric.specs.Views.{view}
use Rattle.runs.specs.Following.{Ran}
use Rattle.runs.proofs.Hearing.{follows_heard}
use Rattle.player.specs.Plays.{rows_of}
use Rattle.player.specs.PickedAs.{Chooser, PickedAs}

-- the rows of a protocol are those of its code
pub rows_of_code : (p : ProtocolKind) → read_row p ≡ rows_of (code_of p)
rows_of_code Mi = refl
rows_of_code Msi = refl
rows_of_code Mesi = refl
rows_of_code Mesif = refl
rows_of_code Mosi = refl
rows_of_code Mosif = refl
rows_of_code Moesi = refl
rows_of_code Moesif = refl

module _ {B P Q C R D M : Type 0} (row : P → State → Row) (q : Chooser Request Q) (c : Chooser Command C) (r : Chooser Response R) (d : Chooser MemoryCommand D) (blocks : M → ℕ → Words) (k : Picks) (picked : PickedAs k q c r d) where
  abbrev shows : Fabric B P Q C R D M → Machine
  shows = view row q.waiting c.waiting r.waiting d.waiting blocks

  abbrev arrives : Fabric B P Q C R D M → FabricCall → Call
  arrives = call_at q.chosen c.chosen r.chosen d.chosen

  same_index : (f : Fabric B P Q C R D M) (channel p : ℕ) → index_on q.chosen c.chosen r.chosen f channel p ≡ shown_on k (shows f) channel p
  same_index f zero p = picked.requests f.parts.requests p
  same_index f (suc zero) p = picked.commands f.parts.commands p
  same_index f (suc (suc n)) p = picked.responses f.parts.responses p

  same_call : (f : Fabric B P Q C R D M) (x : FabricCall) → arrives f x ≡ arriving k (shows f) x
  same_call f (made.Order cache o) = refl
  same_call f (made.Deliver channel p) = ap (delivers channel) (same_index f channel p)
  same_call f (made.MemoryTurn p) = ap turns (picked.memory_commands f.parts.memory_commands p)

  -- the answers of a run are the machine's, under these picks
  pub ran_heard : (start : Machine) (calls : List FabricCall) (answers : List Said) (f : Fabric B P Q C R D M) → Ran shows arrives start calls answers f → answers ≡ heard k start calls
  ran_heard start calls answers f x = sym x.answered ∙ follows_heard shows arrives k same_call start calls x.events f x.follows
