-- What every run keeps, and that it holds of a new fabric.
use Rattle.std.proofs.Common.{◌≡◌, ℕ, ◌<◌, List, [], ◌∷◌, Some, None, refl, arith}
use Rattle.bedrock.specs.declared.words.Words.{Words}
use Rattle.bedrock.specs.BlockWords.{word_of}
use Rattle.bedrock.specs.Geometries.{Sizes}
use Rattle.protocols.specs.declared.state.State.{State}
use Rattle.protocols.specs.declared.row.Row.{Row}
use Rattle.machine.specs.declared.order.Order.{Order}
use Rattle.machine.specs.Holdings.{no_entry, word_asked}
use Rattle.machine.specs.Machines.{Machine, new}
use Rattle.machine.specs.Outcomes.{Outcome}
use Rattle.machine.specs.Runs.{Call, Event}
use Rattle.machine.specs.Coherence.{latest, waiting_order, Sound, Lawful}
use Rattle.machine.proofs.Ranges.{Bounds}
use Rattle.machine.proofs.Ghost.{Nothing, Idle}
use Rattle.machine.proofs.Invariant.{Invariant}
use Rattle.machine.proofs.NewFabric.{new_fabric_good}
use Rattle.machine.proofs.Matches.{Added, ghost_of, Matches}
use Rattle.machine.proofs.Rooms.{Rooms}

pub record Reached (content : ℕ → Words) (m : Machine) (past : List Event) (x : Added) : Type 0 where
  pub bounds : Bounds m.geometry
  pub lawful : Lawful m.rows
  pub matches : Matches m x
  pub inv : Invariant (ghost_of m x)
  pub rooms : Rooms m
  -- a set has a transaction only while something is owed
  pub owed : (s : ℕ) → m.count s ≡ 0 → m.serving s ≡ None
  pub words : (b k : ℕ) → k < 2 → word_of (x.latest b) k ≡ latest content past b k
  pub orders : (c : ℕ) → (waiting_order c past ≡ m.kept c) × ((o : Order) → m.kept c ≡ Some o → word_asked o < 2)
  pub turns : (s c : ℕ) → m.turn s c < m.geometry.ways

abbrev pub added_at_start : (ℕ → Words) → Added
added_at_start content = record {
  mailbox = λ _ _. record { known = λ _. no_entry; mail = Nothing };
  progress = λ _. None;
  request = λ _. None;
  pending = λ _. Idle;
  latest = content;
}

pub reached_start : (g : Sizes) (rows : State → Row) (content : ℕ → Words) → Bounds g → Lawful rows
    → Reached content (new g rows content) [] (added_at_start content)
reached_start g rows content bounds lawful = record {
  bounds = bounds;
  lawful = lawful;
  matches = record { serving = λ s. tt; requests = λ c. refl; mails = λ s c. refl; pendings = λ b. refl; weights = λ s. refl; left = λ s. tt };
  inv = new_fabric_good g content;
  rooms = record { requests = omega arith; commands = omega arith; responses = omega arith; memory_commands = omega arith };
  owed = λ s _. refl;
  words = λ b k _. refl;
  orders = λ c. (refl, λ o e. grind arith);
  turns = λ s c. bounds.some_ways;
}

-- what a call with this outcome keeps
abbrev pub Keeps : (ℕ → Words) → Machine → List Event → Call → Outcome → Type 0
Keeps content m past a o =
    (y : Added) × Reached content o.after (record { call = a; says = o.says } ∷ past) y × Sound content (record { call = a; says = o.says }) past
