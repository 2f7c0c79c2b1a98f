-- A call that finishes no order, lifted: what it leaves matches a ghost state, and keeps the invariant.
use Rattle.std.proofs.Common.{◌≡◌, ℕ, None, ◌∙◌}
use Rattle.machine.specs.Machines.{Machine}
use Rattle.machine.proofs.Invariant.{Invariant}
use Rattle.machine.proofs.Matches.{Added, ghost_of, Matches}

-- a set has a transaction only while something is owed
abbrev pub Owed : Machine → Type 0
Owed m = (s : ℕ) → m.count s ≡ 0 → m.serving s ≡ None

pub record Lifted (m : Machine) (x : Added) (after : Machine) : Type 0 where
  pub added : Added
  pub matches : Matches after added
  pub invariant : Invariant (ghost_of after added)
  pub owed : Owed after
  pub latest : added.latest ≡ x.latest
  pub kept : after.kept ≡ m.kept
  pub geometry : after.geometry ≡ m.geometry
  pub rows : after.rows ≡ m.rows
  pub turn : after.turn ≡ m.turn

-- what a step keeps of a machine
pub record Frame (m after : Machine) : Type 0 where
  pub kept : after.kept ≡ m.kept
  pub geometry : after.geometry ≡ m.geometry
  pub rows : after.rows ≡ m.rows
  pub turn : after.turn ≡ m.turn

-- one step after another
pub lifted_after : (m : Machine) (x : Added) (n : Machine) (y : Added) (o : Machine) → y.latest ≡ x.latest → Frame m n → Lifted n y o → Lifted m x o
lifted_after m x n y o e f l = record {
  added = l.added;
  matches = l.matches;
  invariant = l.invariant;
  owed = l.owed;
  latest = l.latest ∙ e;
  kept = l.kept ∙ f.kept;
  geometry = l.geometry ∙ f.geometry;
  rows = l.rows ∙ f.rows;
  turn = l.turn ∙ f.turn;
}
