-- Which message arrives: the one at the index that the channel itself shows for the pick.
use Rattle.std.specs.Prelude.{ℕ, zero, suc}
use Rattle.machine.specs.declared.fabric_call.FabricCall.{FabricCall}
use Rattle.machine.specs.declared.fabric_call.FabricCall.TheVariants as made
use Rattle.machine.specs.Runs.{Call, orders, delivers, turns}
use Rattle.fabric.specs.declared.state.Fabric.{Fabric}

-- on channel 0, 1 or 2
abbrev pub index_on : {B P Q C R D M : Type 0} → (Q → ℕ → ℕ) → (C → ℕ → ℕ) → (R → ℕ → ℕ) → Fabric B P Q C R D M → ℕ → ℕ → ℕ
index_on q c r f zero p = q f.parts.requests p
index_on q c r f (suc zero) p = c f.parts.commands p
index_on q c r f (suc (suc n)) p = r f.parts.responses p

-- a call with the index of the message that arrives
abbrev pub call_at : {B P Q C R D M : Type 0} → (Q → ℕ → ℕ) → (C → ℕ → ℕ) → (R → ℕ → ℕ) → (D → ℕ → ℕ) → Fabric B P Q C R D M → FabricCall → Call
call_at q c r d f (made.Order cache o) = orders cache o
call_at q c r d f (made.Deliver channel p) = delivers channel (index_on q c r f channel p)
call_at q c r d f (made.MemoryTurn p) = turns (d f.parts.memory_commands p)
