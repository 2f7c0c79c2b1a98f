-- What the directory shows of a block.
use Rattle.std.specs.Prelude.{ℕ, Bool, true, false, ◌&&◌, Some, None, Option, ◌==◌}
use Rattle.protocols.specs.declared.state.State.{State}
use Rattle.protocols.specs.declared.state.State.TheVariants.{I, S}
use Rattle.protocols.specs.States.{held, owning, same_state}
use Rattle.machine.specs.Tables.{lowest}
use Rattle.machine.specs.Machines.{Machine, home}

-- the way in which the directory shows cache c with block b
abbrev pub shown_way : Machine → ℕ → ℕ → Option ℕ
shown_way m c b = lowest (λ w. held (m.entry (home m b) c w).state && (m.entry (home m b) c w).block == b) m.geometry.ways

-- the state in which it shows that cache: I where it shows it without the block
abbrev pub state_at : Machine → ℕ → ℕ → Option ℕ → State
state_at m c b None = I
state_at m c b (Some w) = (m.entry (home m b) c w).state

abbrev pub shown_state : Machine → ℕ → ℕ → State
shown_state m c b = state_at m c b (shown_way m c b)

abbrev pub sharing : State → Bool
sharing st = same_state st S

-- A cache shown in E, M, O or F is the owner.
abbrev pub owner : Machine → ℕ → Option ℕ
owner m b = lowest (λ c. owning (shown_state m c b)) m.geometry.caches

-- The owner gives the state; without one it is S where some cache shows S, else I.
abbrev pub unowned : Option ℕ → State
unowned (Some c) = S
unowned None = I

abbrev pub state_by : Machine → ℕ → Option ℕ → State
state_by m b (Some c) = shown_state m c b
state_by m b None = unowned (lowest (λ c. sharing (shown_state m c b)) m.geometry.caches)

-- the directory's view of a block: its state, and its owner if there is one
abbrev pub view : Machine → ℕ → State × Option ℕ
view m b = (state_by m b (owner m b), owner m b)

-- a way that was looked up, 0 where there is none
abbrev pub or_zero : Option ℕ → ℕ
or_zero (Some w) = w
or_zero None = 0

abbrev pub found : Option ℕ → Bool
found (Some w) = true
found None = false
