-- What coherence promises, of the events of a run and the machine after it.
use Rattle.std.specs.Prelude.{◌≡◌, ℕ, true, cond, ◌&&◌, ◌⊎◌, List, [], ◌∷◌, Some, None, Option, ◌==◌}
use Rattle.bedrock.specs.declared.words.Words.{Words}
use Rattle.bedrock.specs.BlockWords.{word_of}
use Rattle.bedrock.specs.Geometries.{Sizes, bounded}
use Rattle.protocols.specs.declared.state.State.{State}
use Rattle.protocols.specs.declared.state.State.TheVariants.{I, S, E, M, O, F}
use Rattle.protocols.specs.declared.row.Row.{Row}
use Rattle.protocols.specs.States.{held, writable}
use Rattle.protocols.specs.Rows.{lawful}
use Rattle.machine.specs.declared.holding.Way.{Way}
use Rattle.machine.specs.declared.holding.Entry.{Entry}
use Rattle.machine.specs.declared.order.Order.{Order}
use Rattle.machine.specs.declared.order.Order.TheVariants.{Load, Store}
use Rattle.machine.specs.Machines.{Machine, new}
use Rattle.machine.specs.Outcomes.{moved_on, loaded, stored, refused}
use Rattle.machine.specs.Runs.{Call, orders, delivers, turns, Event, run}

-- ---- which order an event finishes (events are latest first)

-- the last order of cache c that answered "moved on", unless an event has finished it since
abbrev pub waiting_order : ℕ → List Event → Option Order
waiting_order c [] = None
waiting_order c (e ∷ past) = elim e.says [
  | moved_on ↦ elim e.call [ orders d o ↦ cond (d == c) (Some o) (waiting_order c past) | delivers ch i ↦ waiting_order c past | turns i ↦ waiting_order c past ]
  | loaded d v ↦ cond (d == c) None (waiting_order c past)
  | stored d v ↦ cond (d == c) None (waiting_order c past)
  | refused n ↦ waiting_order c past
]

-- the order that a call finishes which answers "finished" for cache c: its own, if it is an order of that cache, else the one
-- that the cache waits with
abbrev pub finished : ℕ → Call → List Event → Option Order
finished c (orders d o) past = cond (d == c) (Some o) None
finished c (delivers ch i) past = waiting_order c past
finished c (turns i) past = waiting_order c past

-- ---- no load is stale

-- what an order that is finished leaves in word k of block b, which had the value old
abbrev pub leaves : Option Order → ℕ → ℕ → ℕ → ℕ
leaves None b k old = old
leaves (Some o) b k old = elim o [ Load d l ↦ old | Store d l v ↦ cond (d == b && l == k) v old ]

-- what the last store on word k of block b to finish put there, or the starting content if none did
abbrev pub latest : (ℕ → Words) → List Event → ℕ → ℕ → ℕ
latest content [] b k = word_of (content b) k
latest content (e ∷ past) b k = elim e.says [
  | moved_on ↦ latest content past b k
  | loaded c v ↦ latest content past b k
  | stored c v ↦ leaves (finished c e.call past) b k (latest content past b k)
  | refused n ↦ latest content past b k
]

-- An event that finishes a load finishes one of its cache, and answers the latest value of its word; one that finishes a store
-- finishes one of its cache, and answers its own value.
abbrev pub Sound : (ℕ → Words) → Event → List Event → Type 0
Sound content e past = elim e.says [
  | moved_on ↦ Unit {0}
  | loaded c v ↦ (b : ℕ) × (k : ℕ) × (finished c e.call past ≡ Some (Load b k)) × (v ≡ latest content past b k)
  | stored c v ↦ (b : ℕ) × (k : ℕ) × (finished c e.call past ≡ Some (Store b k v))
  | refused n ↦ Unit {0}
]

abbrev pub NoStaleLoad : (ℕ → Words) → List Event → Type 0
NoStaleLoad content [] = Unit {0}
NoStaleLoad content (e ∷ past) = Sound content e past × NoStaleLoad content past

-- ---- E and M exclude other holders

-- a cache that holds a block in E or M is the only one that holds it
abbrev pub SoleHolder : Machine → Type 0
SoleHolder m = (s c w t d x : ℕ) → writable (m.way s c w).state ≡ true → held (m.way t d x).state ≡ true → (m.way s c w).block ≡ (m.way t d x).block → c ≡ d

-- ---- nothing is owed once the channels are empty

pub record Quiet (m : Machine) : Type 0 where
  pub no_requests : m.requests ≡ []
  pub no_commands : m.commands ≡ []
  pub no_responses : m.responses ≡ []
  pub no_memory_commands : m.memory_commands ≡ []

-- the state of a way that an entry shows: its own, but that E may be M there
abbrev pub Shows : State → State → Type 0
Shows I t = t ≡ I
Shows S t = t ≡ S
Shows E t = (t ≡ E) ⊎ (t ≡ M)
Shows M t = t ≡ M
Shows O t = t ≡ O
Shows F t = t ≡ F

-- an entry shows a way: in I both have block 0
pub record Agrees (e : Entry) (v : Way) : Type 0 where
  pub state : Shows e.state v.state
  pub block : e.block ≡ v.block

pub record Settled (m : Machine) : Type 0 where
  pub none_waits : (c : ℕ) → m.kept c ≡ None
  pub none_owed : (s : ℕ) → m.count s ≡ 0
  pub agrees : (s c w : ℕ) → Agrees (m.entry s c w) (m.way s c w)

-- ---- the promises

pub record Coherent (content : ℕ → Words) (m : Machine) (events : List Event) : Type 0 where
  pub no_stale_load : NoStaleLoad content events
  pub sole_holder : SoleHolder m
  pub settled : Quiet m → Settled m
  -- with nothing on its way, every order that moved on has been finished
  pub all_finished : Quiet m → (c : ℕ) → waiting_order c events ≡ None

-- a protocol keeps the four laws at every state
abbrev pub Lawful : (State → Row) → Type 0
Lawful rows = (st : State) → lawful st (rows st) ≡ true

-- For every geometry within its bounds, every lawful protocol, every starting content, every list of calls and every choice of the
-- message that arrives, the promises hold after the list.
abbrev pub Coherence : Type 0
Coherence = (g : Sizes) (rows : State → Row) (content : ℕ → Words) → bounded g ≡ true → Lawful rows → (calls : List Call) →
    Coherent content (run (new g rows content) calls).machine (run (new g rows content) calls).events
