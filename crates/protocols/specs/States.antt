-- The states of a block in a cache, and what each allows.
use Rattle.std.specs.Prelude.{ℕ, Bool, true, false, ◌==◌}
use Rattle.protocols.specs.declared.state.State.{State}
use Rattle.protocols.specs.declared.state.State.TheVariants.{I, S, E, M, O, F}

-- the place of a state in a protocol's table
abbrev pub state_number : State → ℕ
state_number I = 0
state_number S = 1
state_number E = 2
state_number M = 3
state_number O = 4
state_number F = 5

abbrev pub same_state : State → State → Bool
same_state a b = state_number a == state_number b

-- the cache has the block, so a load hits
abbrev pub held : State → Bool
held I = false
held S = true
held E = true
held M = true
held O = true
held F = true

-- the cache is the block's owner, and hands its words to others
abbrev pub owning : State → Bool
owning I = false
owning S = false
owning E = true
owning M = true
owning O = true
owning F = true

-- a store hits
abbrev pub writable : State → Bool
writable I = false
writable S = false
writable E = true
writable M = true
writable O = false
writable F = false

-- the words may differ from the memory's, so a write back carries them
abbrev pub dirty : State → Bool
dirty I = false
dirty S = false
dirty E = false
dirty M = true
dirty O = true
dirty F = false

-- shown by the directory, which cannot tell E from M: the cache's words may differ from the memory's
abbrev pub may_be_dirty : State → Bool
may_be_dirty I = false
may_be_dirty S = false
may_be_dirty E = true
may_be_dirty M = true
may_be_dirty O = true
may_be_dirty F = false
