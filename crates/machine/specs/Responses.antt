-- The delivery of a response to the directory, and the turn of the memory.
use Rattle.std.specs.Prelude.{ℕ, zero, suc, ◌+◌, ◌-◌, Bool, true, false, cond, ◌&&◌, ◌||◌, length, Some, None, Option, ◌==◌, nat_le, nat_lt}
use Rattle.std.specs.List.{slice_get}
use Rattle.bedrock.specs.declared.party.Party.TheVariants.{Directory}
use Rattle.messages.specs.declared.command.Command.TheVariants.{SetTagData}
use Rattle.messages.specs.declared.response.Response.{Response}
use Rattle.messages.specs.declared.response.Response.TheVariants.{InvalidateAck, CoherenceAck, Writeback, NullWriteback}
use Rattle.messages.specs.declared.memory_command.MemoryCommand.{MemoryCommand}
use Rattle.messages.specs.declared.memory_command.MemoryCommand.TheVariants.{Read, Write}
use Rattle.messages.specs.Messages.{response_block, memory_command_block}
use Rattle.wires.specs.Waiting.{without}
use Rattle.machine.specs.declared.transaction.Source.{Source}
use Rattle.machine.specs.declared.transaction.Round.TheVariants.{One, Two}
use Rattle.machine.specs.declared.transaction.Transaction.{Transaction}
use Rattle.machine.specs.Machines.{Machine, home, one_more, with_serving, with_count, with_memory, with_responses, with_memory_commands, command, ask_memory}
use Rattle.machine.specs.Outcomes.{Outcome, refuse, move_on}
use Rattle.machine.specs.Acceptance.{begin_two, from_memory}

-- a set whose count is 0 has no transaction any more
abbrev pub close : Machine → ℕ → Machine
close m s = cond (m.count s == 0) (with_serving m s None) m

-- a Writeback makes the directory send a memory write, which is awaited
abbrev pub pass_on : Machine → Response → Machine
pass_on m (InvalidateAck c b) = m
pass_on m (CoherenceAck c b) = m
pass_on m (Writeback c b ws) = with_count (ask_memory m (Write b ws)) (home m b) (one_more (m.count (home m b)))
pass_on m (NullWriteback c b) = m

abbrev pub writes_on : Response → ℕ
writes_on (InvalidateAck c b) = 0
writes_on (CoherenceAck c b) = 0
writes_on (Writeback c b ws) = 1
writes_on (NullWriteback c b) = 0

-- What an arriving answer does depends on the round that the set is in: in round one it is one answer fewer, and the last
-- one starts round two; in round two nothing starts.
abbrev pub advance : Machine → ℕ → Option Transaction → Machine
advance m s None = m
advance m s (Some t) = elim t.round [
  | Two ↦ m
  | One n ↦ elim n [
    | zero ↦ m
    | suc k ↦ elim k [
      | zero ↦ begin_two m t.job
      | suc l ↦ with_serving m s (Some (record { job = t.job; round = One (suc l) }))
    ]
  ]
]

-- the source that the next answer would start to fetch from, if it starts round two
abbrev pub starts : Option Transaction → Option Source
starts None = None
starts (Some t) = elim t.round [ Two ↦ None | One n ↦ elim n [ zero ↦ None | suc k ↦ elim k [ zero ↦ Some t.job.source | suc l ↦ None ] ] ]

abbrev pub memory_reads : Option Source → ℕ
memory_reads None = 0
memory_reads (Some x) = cond (from_memory x) 1 0

abbrev pub commands_sent : Option Source → ℕ
commands_sent None = 0
commands_sent (Some x) = cond (from_memory x) 0 1

-- a response is taken: one answer fewer is awaited, and a Writeback goes on before anything that round two sends
abbrev pub take_response : Machine → ℕ → Response → Machine
take_response m i x =
    let s : ℕ = home m (response_block x) in
    pass_on (with_count (with_responses m (without m.responses i)) s (m.count s - 1)) x

abbrev pub deliver_response : Machine → ℕ → Outcome
deliver_response m i = elim (slice_get m.responses i) [
  | None ↦ refuse m 12
  | Some x ↦ let s : ℕ = home m (response_block x) in
      cond (nat_lt 128 (length m.memory_commands + (writes_on x + memory_reads (starts (m.serving s)))) || nat_lt 128 (length m.commands + commands_sent (starts (m.serving s)))) (refuse m 14)
      (move_on (close (advance (take_response m i x) s (m.serving s)) s))
]

-- ---- the memory's turn: a read sends Set Tag with Data, a write changes the memory

abbrev pub carry_out : Machine → MemoryCommand → Machine
carry_out m (Read b r w next) = command m (SetTagData r b w next (m.memory b) Directory)
carry_out m (Write b ws) = with_memory m b ws

abbrev pub is_read : MemoryCommand → Bool
is_read (Read b r w next) = true
is_read (Write b ws) = false

abbrev pub memory_turn : Machine → ℕ → Outcome
memory_turn m i = elim (slice_get m.memory_commands i) [
  | None ↦ refuse m 12
  | Some x ↦ let s : ℕ = home m (memory_command_block x) in
      cond (is_read x && nat_le 128 (length m.commands)) (refuse m 14)
      (move_on (close (carry_out (with_count (with_memory_commands m (without m.memory_commands i)) s (m.count s - 1)) x) s))
]
