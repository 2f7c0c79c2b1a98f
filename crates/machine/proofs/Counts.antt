-- A set whose count is 0 has nothing on its way.
use Rattle.std.proofs.Common.{◌≡◌, ℕ, ◌+◌, ◌<◌, Bool, true, false, cond, eqb, [], filter, sym, refl, ap, ◌∙◌, arith}
use Rattle.std.proofs.lemmas.Bool.{false≢true, eqb-true, eq-eqb, and_parts}
use Rattle.bedrock.specs.Geometries.{Sizes, set_of}
use Rattle.messages.specs.declared.command.Command.{Command}
use Rattle.messages.specs.declared.command.Command.TheVariants.{Invalidate, SetStateWriteback, Transfer, SetTagData, SetStateWakeup}
use Rattle.messages.specs.declared.response.Response.{Response}
use Rattle.messages.specs.declared.response.Response.TheVariants.{InvalidateAck, CoherenceAck, Writeback, NullWriteback}
use Rattle.messages.specs.declared.memory_command.MemoryCommand.{MemoryCommand}
use Rattle.messages.specs.declared.memory_command.MemoryCommand.TheVariants.{Read, Write}
use Rattle.messages.specs.Messages.{response_cache, response_block}
use Rattle.machine.specs.Machines.{Machine}
use Rattle.machine.proofs.Weights.{weigh, weigh_none}
use Rattle.machine.proofs.Ghost.{Mail, Nothing, To, From, Pending, Idle, Reading, Coming, Waiting}
use Rattle.machine.proofs.Matches.{Added, mail_slot, pending_slot, to_mailbox, from_mailbox, at_block, writes_back, command_weight, response_weight, memory_weight, ack_owed, Matches}

-- ---- what stands at a key of the set weighs something

command_heavy : (n : Sizes) (s c : ℕ) (k : Command) → to_mailbox n s c k ≡ true → 0 < command_weight n s k
command_heavy n s c (Invalidate d b w) e = let p = and_parts (eqb (set_of n b) s) (eqb d c) e in rw p.0 (omega arith)
command_heavy n s c (SetStateWriteback d b w) e = let p = and_parts (eqb (set_of n b) s) (eqb d c) e in rw p.0 (omega arith)
command_heavy n s c (Transfer d b w r place next given writeback) e = let p = and_parts (eqb (set_of n b) s) (eqb d c) e in rw p.0 (heavy writeback)
  where
    heavy : (t : Bool) → 0 < cond t 2 1
    heavy true = omega arith
    heavy false = omega arith
command_heavy n s c (SetTagData d b w next ws sender) e = let p = and_parts (eqb (set_of n b) s) (eqb d c) e in rw p.0 (omega arith)
command_heavy n s c (SetStateWakeup d b w) e = let p = and_parts (eqb (set_of n b) s) (eqb d c) e in rw p.0 (omega arith)

pub response_heavy : (n : Sizes) (s c : ℕ) (k : Response) → from_mailbox n s c k ≡ true → 0 < response_weight n s k
response_heavy n s c k e = let p = and_parts (eqb (set_of n (response_block k)) s) (eqb (response_cache k) c) e in rw p.0 (omega arith)

writes_back_heavy : (n : Sizes) (s b : ℕ) → set_of n b ≡ s → (k : Response) → writes_back b k ≡ true → 0 < response_weight n s k
writes_back_heavy n s b e (InvalidateAck c d) g = absurd (false≢true g)
writes_back_heavy n s b e (Writeback c d ws) g = let p : set_of n d ≡ s = ap (set_of n) (eqb-true d b g) ∙ e in
    rw (eq-eqb (set_of n d) s p) (omega arith)
writes_back_heavy n s b e (NullWriteback c d) g = absurd (false≢true g)
writes_back_heavy n s b e (CoherenceAck c d) g = absurd (false≢true g)

memory_heavy : (n : Sizes) (s b : ℕ) → set_of n b ≡ s → (k : MemoryCommand) → at_block b k ≡ true → 0 < memory_weight n s k
memory_heavy n s b e (Read d r w next) g = let p : set_of n d ≡ s = ap (set_of n) (eqb-true d b g) ∙ e in rw (eq-eqb (set_of n d) s p) (omega arith)
memory_heavy n s b e (Write d ws) g = let p : set_of n d ≡ s = ap (set_of n) (eqb-true d b g) ∙ e in rw (eq-eqb (set_of n d) s p) (omega arith)

-- ---- nothing in a slot

pub no_slot : (x : Mail) → [] ≡ mail_slot x → x ≡ Nothing
no_slot Nothing e = refl
no_slot (To k) e = cc
no_slot (From k) e = cc

pub no_pending : (x : Pending) → [] ≡ pending_slot x → x ≡ Idle
no_pending Idle e = refl
no_pending (Reading c w st) e = cc
no_pending (Coming ws) e = cc
no_pending (Waiting ws) e = cc

-- ---- the count

pub quiet_from_count : (m : Machine) (x : Added) → Matches m x → (s : ℕ) → m.count s ≡ 0
    → ((c : ℕ) → (x.mailbox s c).mail ≡ Nothing) × ((b : ℕ) → set_of m.geometry b ≡ s → x.pending b ≡ Idle) × (ack_owed (m.serving s) ≡ 0)
quiet_from_count m x sh s z = (
  (λ c. no_slot (x.mailbox s c).mail (rw (no_commands_hold c, no_responses_hold c) at (sh.mails s c))),
  (λ b e. no_pending (x.pending b) (rw (no_memory_commands_hold b e, no_writebacks b e) at (sh.pendings b))),
  no_ack,
)
  where
    n : Sizes
    n = m.geometry

    sum : 0 ≡ weigh (command_weight n s) m.commands
        + (weigh (response_weight n s) m.responses + (weigh (memory_weight n s) m.memory_commands + ack_owed (m.serving s)))
    sum = sym z ∙ sh.weights s

    no_commands_hold : (c : ℕ) → filter (to_mailbox n s c) m.commands ≡ []
    no_commands_hold c = weigh_none (command_weight n s) (to_mailbox n s c) (command_heavy n s c) m.commands (omega arith)

    no_responses_hold : (c : ℕ) → filter (from_mailbox n s c) m.responses ≡ []
    no_responses_hold c = weigh_none (response_weight n s) (from_mailbox n s c) (response_heavy n s c) m.responses (omega arith)

    no_memory_commands_hold : (b : ℕ) → set_of n b ≡ s → filter (at_block b) m.memory_commands ≡ []
    no_memory_commands_hold b e = weigh_none (memory_weight n s) (at_block b) (memory_heavy n s b e) m.memory_commands (omega arith)

    no_writebacks : (b : ℕ) → set_of n b ≡ s → filter (writes_back b) m.responses ≡ []
    no_writebacks b e = weigh_none (response_weight n s) (writes_back b) (writes_back_heavy n s b e) m.responses (omega arith)

    no_ack : ack_owed (m.serving s) ≡ 0
    no_ack = omega arith
