-- A machine and its ghost state match: at each key the lists hold the one message that the ghost state has, and counts are weights.
use Rattle.std.proofs.Common.{◌≡◌, ℕ, ◌+◌, ◌<◌, ◌≤◌, Bool, false, cond, ◌&&◌, eqb, List, [], ◌∷◌, ◌++◌, map, length, Some, None, filter, Option, sym, refl, arith}
use Rattle.std.specs.List.{slice_get}
use Rattle.std.proofs.lemmas.Bool.{eq-eqb, and_from}
use Rattle.bedrock.specs.declared.words.Words.{Words}
use Rattle.bedrock.specs.Geometries.{Sizes, set_of}
use Rattle.messages.specs.declared.request.Request.{Request}
use Rattle.messages.specs.declared.command.Command.{Command}
use Rattle.messages.specs.declared.command.Command.TheVariants.{Invalidate, SetStateWriteback, Transfer, SetTagData, SetStateWakeup}
use Rattle.messages.specs.declared.response.Response.{Response}
use Rattle.messages.specs.declared.response.Response.TheVariants.{InvalidateAck, CoherenceAck, Writeback, NullWriteback}
use Rattle.messages.specs.declared.memory_command.MemoryCommand.{MemoryCommand}
use Rattle.messages.specs.declared.memory_command.MemoryCommand.TheVariants.{Read, Write}
use Rattle.messages.specs.Messages.{command_cache, command_block, response_cache, response_block, memory_command_block}
use Rattle.wires.specs.Waiting.{without}
use Rattle.machine.specs.declared.transaction.Round.{Round}
use Rattle.machine.specs.declared.transaction.Round.TheVariants.{One, Two}
use Rattle.machine.specs.declared.transaction.Transaction.{Transaction}
use Rattle.machine.specs.Machines.{Machine}
use Rattle.machine.proofs.Keys.{only_left}
use Rattle.machine.proofs.Weights.{weigh}
use Rattle.machine.proofs.Ghost.{Stage, Evicting, Clearing, Asked, Sent, Filled, Progress, Mail, Nothing, To, From, Mailbox, Pending, Idle, Reading, Coming, Waiting, Ghost}

-- what the proof adds to a machine
pub record Added : Type 0 where
  pub mailbox : ℕ → ℕ → Mailbox
  pub progress : ℕ → Option Progress
  pub request : ℕ → Option Request
  pub pending : ℕ → Pending
  pub latest : ℕ → Words

-- the machine read by keys
abbrev pub ghost_of : Machine → Added → Ghost
ghost_of m x = record {
  geometry = m.geometry;
  entry = m.entry;
  way = m.way;
  mailbox = x.mailbox;
  progress = x.progress;
  waiter = λ c. record { kept = m.kept c; request = x.request c };
  at_memory = λ b. record { memory = m.memory b; pending = x.pending b; latest = x.latest b };
}

-- ---- at most one message, as a list

abbrev pub mail_slot : Mail → List Mail
mail_slot Nothing = []
mail_slot (To x) = To x ∷ []
mail_slot (From r) = From r ∷ []

abbrev pub pending_slot : Pending → List Pending
pending_slot Idle = []
pending_slot (Reading c w st) = Reading c w st ∷ []
pending_slot (Coming ws) = Coming ws ∷ []
pending_slot (Waiting ws) = Waiting ws ∷ []

abbrev pub request_slot : Option Request → List Request
request_slot None = []
request_slot (Some q) = q ∷ []

-- ---- keys

-- a command to, and a response from, cache c about set s
abbrev pub to_mailbox : Sizes → ℕ → ℕ → Command → Bool
to_mailbox n s c x = eqb (set_of n (command_block x)) s && eqb (command_cache x) c

abbrev pub from_mailbox : Sizes → ℕ → ℕ → Response → Bool
from_mailbox n s c x = eqb (set_of n (response_block x)) s && eqb (response_cache x) c

-- a memory command about block b, and a response that brings its words
abbrev pub at_block : ℕ → MemoryCommand → Bool
at_block b x = eqb (memory_command_block x) b

abbrev pub writes_back : ℕ → Response → Bool
writes_back b (InvalidateAck c d) = false
writes_back b (Writeback c d ws) = eqb d b
writes_back b (NullWriteback c d) = false
writes_back b (CoherenceAck c d) = false

-- what each has on its way
abbrev pub pending_of : MemoryCommand → Pending
pending_of (Read b r w next) = Reading r w next
pending_of (Write b ws) = Waiting ws

abbrev pub pending_in : Response → Pending
pending_in (InvalidateAck c d) = Idle
pending_in (Writeback c d ws) = Coming ws
pending_in (NullWriteback c d) = Idle
pending_in (CoherenceAck c d) = Idle

-- ---- weights: what a message adds to the count of set s, with what will still come of it

abbrev pub command_weight : Sizes → ℕ → Command → ℕ
command_weight n s (Invalidate c b w) = cond (eqb (set_of n b) s) 1 0
command_weight n s (SetStateWriteback c b w) = cond (eqb (set_of n b) s) 1 0
command_weight n s (Transfer c b w r place next given writeback) = cond (eqb (set_of n b) s) (cond writeback 2 1) 0
command_weight n s (SetTagData c b w next ws sender) = cond (eqb (set_of n b) s) 1 0
command_weight n s (SetStateWakeup c b w) = cond (eqb (set_of n b) s) 1 0

abbrev pub response_weight : Sizes → ℕ → Response → ℕ
response_weight n s x = cond (eqb (set_of n (response_block x)) s) 1 0

abbrev pub memory_weight : Sizes → ℕ → MemoryCommand → ℕ
memory_weight n s (Read b r w next) = cond (eqb (set_of n b) s) 2 0
memory_weight n s (Write b ws) = cond (eqb (set_of n b) s) 1 0

-- each command as one answer that is awaited in round one
abbrev pub command_one : Sizes → ℕ → Command → ℕ
command_one n s x = cond (eqb (set_of n (command_block x)) s) 1 0

-- in round one the Coherence Ack is counted, and nothing that brings it is out
abbrev pub ack_owed : Option Transaction → ℕ
ack_owed None = 0
ack_owed (Some t) = elim t.round [ Two ↦ 0 | One n ↦ 1 ]

-- the answers that round one awaits are those that are out, and some are
abbrev pub LeftIn : Round → ℕ → Type 0
LeftIn Two n = Unit {0}
LeftIn (One k) n = (k ≡ n) × (0 < k)

abbrev pub Left : Option Transaction → ℕ → Type 0
Left None n = Unit {0}
Left (Some t) n = LeftIn t.round n

-- ---- the transaction and its stage

abbrev pub InRound : Stage → Round → Type 0
InRound Evicting r = (n : ℕ) × (r ≡ One n)
InRound Clearing r = (n : ℕ) × (r ≡ One n)
InRound Asked r = r ≡ Two
InRound Sent r = r ≡ Two
InRound Filled r = r ≡ Two

-- both have no transaction, or the same job in the same round
abbrev pub SameProgress : Option Transaction → Option Progress → Type 0
SameProgress None None = Unit {0}
SameProgress None (Some h) = ⊥
SameProgress (Some t) None = ⊥
SameProgress (Some t) (Some h) = (t.job ≡ h.job) × InRound h.stage t.round

-- ---- all of it

pub record Matches (m : Machine) (x : Added) : Type 0 where
  pub serving : (s : ℕ) → SameProgress (m.serving s) (x.progress s)
  pub requests : (c : ℕ) → filter (λ q. eqb q.cache c) m.requests ≡ request_slot (x.request c)
  pub mails : (s c : ℕ)
      → map To (filter (to_mailbox m.geometry s c) m.commands) ++ map From (filter (from_mailbox m.geometry s c) m.responses)
      ≡ mail_slot (x.mailbox s c).mail
  pub pendings : (b : ℕ)
      → map pending_of (filter (at_block b) m.memory_commands) ++ map pending_in (filter (writes_back b) m.responses) ≡ pending_slot (x.pending b)
  pub weights : (s : ℕ) → m.count s ≡ weigh (command_weight m.geometry s) m.commands
      + (weigh (response_weight m.geometry s) m.responses + (weigh (memory_weight m.geometry s) m.memory_commands + ack_owed (m.serving s)))
  pub left : (s : ℕ) → Left (m.serving s) (weigh (command_one m.geometry s) m.commands + weigh (response_weight m.geometry s) m.responses)

pub slot_short : (x : Mail) → length (mail_slot x) ≤ 1
slot_short Nothing = omega arith
slot_short (To x) = omega arith
slot_short (From x) = omega arith

pub slot_is : (x : Mail) (k : Command) → mail_slot x ≡ To k ∷ [] → x ≡ To k
slot_is Nothing k e = cc
slot_is (To x) k e = cc
slot_is (From x) k e = cc

pub slot_from : (x : Mail) (k : Response) → mail_slot x ≡ From k ∷ [] → x ≡ From k
slot_from Nothing k e = cc
slot_from (To x) k e = cc
slot_from (From x) k e = cc

-- the command that arrives is its mailbox's mail
pub took_command : (m : Machine) (x : Added) → Matches m x → (i : ℕ) (k : Command) → slice_get m.commands i ≡ Some k → (s c : ℕ)
    → s ≡ set_of m.geometry (command_block k) → c ≡ command_cache k
    → ((x.mailbox s c).mail ≡ To k)
    × (filter (to_mailbox m.geometry s c) (without m.commands i) ≡ []) × (filter (from_mailbox m.geometry s c) m.responses ≡ [])
took_command m x sh i k e s c p q =
    let there = and_from (eqb (set_of m.geometry (command_block k)) s) (eqb (command_cache k) c)
    (eq-eqb (set_of m.geometry (command_block k)) s (sym p)) (eq-eqb (command_cache k) c (sym q)) in
    let r = only_left To From (to_mailbox m.geometry s c) m.commands (filter (from_mailbox m.geometry s c) m.responses) i k
    (mail_slot (x.mailbox s c).mail) e there (sh.mails s c) (slot_short (x.mailbox s c).mail) in
    (slot_is (x.mailbox s c).mail k r.0, r.1, r.2)

pub pending_short : (p : Pending) → length (pending_slot p) ≤ 1
pending_short Idle = omega arith
pending_short (Reading c w st) = omega arith
pending_short (Coming ws) = omega arith
pending_short (Waiting ws) = omega arith

pub pending_is : (p q : Pending) → pending_slot p ≡ q ∷ [] → p ≡ q
pending_is Idle q e = cc
pending_is (Reading c w st) q e = cc
pending_is (Coming ws) q e = cc
pending_is (Waiting ws) q e = cc

-- the memory command whose turn it is is what its block has on its way
pub took_memory_command : (m : Machine) (x : Added) → Matches m x → (i : ℕ) (k : MemoryCommand) → slice_get m.memory_commands i ≡ Some k
    → (x.pending (memory_command_block k) ≡ pending_of k)
    × (filter (at_block (memory_command_block k)) (without m.memory_commands i) ≡ []) ×
    (filter (writes_back (memory_command_block k)) m.responses ≡ [])
took_memory_command m x sh i k e =
    let b : ℕ = memory_command_block k in
    let r = only_left pending_of pending_in (at_block b) m.memory_commands (filter (writes_back b) m.responses) i k (pending_slot (x.pending b)) e
    (eq-eqb b b refl) (sh.pendings b) (pending_short (x.pending b)) in
    (pending_is (x.pending b) (pending_of k) r.0, r.1, r.2)
