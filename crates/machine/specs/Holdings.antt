-- Ways, entries and orders.
use Rattle.std.specs.Prelude.{ℕ, Bool, true, false}
use Rattle.bedrock.specs.declared.words.Words.{Words}
use Rattle.bedrock.specs.BlockWords.{no_words}
use Rattle.protocols.specs.declared.state.State.{State}
use Rattle.protocols.specs.declared.state.State.TheVariants.{I, S, E, M, O, F}
use Rattle.protocols.specs.States.{held, writable}
use Rattle.messages.specs.declared.request.Access.{Access}
use Rattle.messages.specs.declared.request.Access.TheVariants.{Read, Write}
use Rattle.machine.specs.declared.holding.Way.{Way}
use Rattle.machine.specs.declared.holding.Entry.{Entry}
use Rattle.machine.specs.declared.order.Order.{Order}
use Rattle.machine.specs.declared.order.Order.TheVariants.{Load, Store}

-- what a way and an entry show in I
abbrev pub no_way : Way
no_way = record { state = I; block = 0; words = no_words }

abbrev pub no_entry : Entry
no_entry = record { state = I; block = 0 }

-- a block's words in a state
abbrev pub way_in : State → ℕ → Words → Way
way_in I b ws = no_way
way_in S b ws = record { state = S; block = b; words = ws }
way_in E b ws = record { state = E; block = b; words = ws }
way_in M b ws = record { state = M; block = b; words = ws }
way_in O b ws = record { state = O; block = b; words = ws }
way_in F b ws = record { state = F; block = b; words = ws }

-- a block in a state, as the directory shows it
abbrev pub entry_in : State → ℕ → Entry
entry_in I b = no_entry
entry_in S b = record { state = S; block = b }
entry_in E b = record { state = E; block = b }
entry_in M b = record { state = M; block = b }
entry_in O b = record { state = O; block = b }
entry_in F b = record { state = F; block = b }

abbrev pub block_of : Order → ℕ
block_of (Load b k) = b
block_of (Store b k v) = b

abbrev pub word_asked : Order → ℕ
word_asked (Load b k) = k
word_asked (Store b k v) = k

-- a load asks for a copy, a store for the right to store
abbrev pub access_of : Order → Access
access_of (Load b k) = Read
access_of (Store b k v) = Write

abbrev pub is_write : Access → Bool
is_write Read = false
is_write Write = true

-- a load hits in any state but I, a store in E or M
abbrev pub hits : Order → State → Bool
hits (Load b k) st = held st
hits (Store b k v) st = writable st
