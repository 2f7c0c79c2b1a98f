-- Channels that pick by what waits on them.
use Rattle.std.specs.Prelude.{◌≡◌, ℕ, List}
use Rattle.messages.specs.declared.request.Request.{Request}
use Rattle.messages.specs.declared.command.Command.{Command}
use Rattle.messages.specs.declared.response.Response.{Response}
use Rattle.messages.specs.declared.memory_command.MemoryCommand.{MemoryCommand}
use Rattle.machine.specs.Picking.{Picks}

-- what waits on a channel of some type, and which of it a pick shows
pub record Chooser (X : Type 0) (Q : Type 0) : Type 0 where
  pub waiting : Q → List X
  pub chosen : Q → ℕ → ℕ

-- the four channels choose as k says
pub record PickedAs (k : Picks) {Q C R D : Type 0} (q : Chooser Request Q) (c : Chooser Command C) (r : Chooser Response R) (d : Chooser MemoryCommand D) : Type 0 where
  pub requests : (x : Q) (p : ℕ) → q.chosen x p ≡ k.requests (q.waiting x) p
  pub commands : (x : C) (p : ℕ) → c.chosen x p ≡ k.commands (c.waiting x) p
  pub responses : (x : R) (p : ℕ) → r.chosen x p ≡ k.responses (r.waiting x) p
  pub memory_commands : (x : D) (p : ℕ) → d.chosen x p ≡ k.memory_commands (d.waiting x) p
