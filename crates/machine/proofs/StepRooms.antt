-- What the directory and the memory send leaves each list within its channel, as 14 is answered where it would not.
use Rattle.std.proofs.Common.{◌≡◌, ℕ, zero, suc, ◌+◌, ◌≤◌, Bool, true, false, cond, eqb, List, ◌++◌, length, Some, None, Option, arith}
use Rattle.std.specs.List.{slice_get}
use Rattle.messages.specs.declared.request.Request.{Request}
use Rattle.messages.specs.declared.command.Command.{Command}
use Rattle.messages.specs.declared.command.Command.TheVariants.{Transfer, SetTagData, SetStateWakeup}
use Rattle.messages.specs.declared.response.Response.{Response}
use Rattle.messages.specs.declared.response.Response.TheVariants.{InvalidateAck, CoherenceAck, Writeback, NullWriteback}
use Rattle.messages.specs.declared.memory_command.MemoryCommand.{MemoryCommand}
use Rattle.messages.specs.declared.memory_command.MemoryCommand.TheVariants.{Read, Write}
use Rattle.bedrock.specs.declared.party.Party.TheVariants.{Directory}
use Rattle.wires.specs.Waiting.{without}
use Rattle.machine.specs.declared.transaction.Source.{Source}
use Rattle.machine.specs.declared.transaction.Source.TheVariants.{Memory, OwnCopy, Owner}
use Rattle.machine.specs.declared.transaction.Job.{Job}
use Rattle.machine.specs.declared.transaction.Round.{Round}
use Rattle.machine.specs.declared.transaction.Round.TheVariants.{One, Two}
use Rattle.machine.specs.declared.transaction.Transaction.{Transaction}
use Rattle.machine.specs.Machines.{Machine, home, with_serving, with_count, with_requests, with_commands, with_memory_commands}
use Rattle.machine.specs.Acceptance.{record_job, fetch, begin_two}
use Rattle.machine.specs.Responses.{close, advance, take_response, starts, memory_reads, commands_sent, writes_on, carry_out, is_read}
use Rattle.machine.proofs.Rooms.{Rooms, taken_length, push_length, append_length}

-- ---- places that are left

-- room for c commands and k memory commands more
pub record RoomFor (m : Machine) (c k : ℕ) : Type 0 where
  pub requests : length m.requests ≤ 128
  pub commands : length m.commands + c ≤ 128
  pub responses : length m.responses ≤ 128
  pub memory_commands : length m.memory_commands + k ≤ 128

pub close_rooms : (m : Machine) (s : ℕ) → Rooms m → Rooms (close m s)
close_rooms m s r = go (eqb (m.count s) 0)
  where
    go : (t : Bool) → Rooms (cond t (with_serving m s None) m)
    go true = record { requests = r.requests; commands = r.commands; responses = r.responses; memory_commands = r.memory_commands }
    go false = r

-- ---- round two

begin_rooms : (m : Machine) (j : Job) → RoomFor m (commands_sent (Some j.source)) (memory_reads (Some j.source)) → Rooms (begin_two m j)
begin_rooms m j r = go j.source r.commands r.memory_commands
  where
    go : (z : Source) → length m.commands + commands_sent (Some z) ≤ 128 → length m.memory_commands + memory_reads (Some z) ≤ 128
        → Rooms (with_serving (fetch m j z) (home m j.block) (Some (record { job = j; round = Two })))
    go Memory c k = record {
      requests = r.requests;
      responses = r.responses;
      commands = omega arith;
      memory_commands = let h = push_length m.memory_commands (Read j.block j.requestor j.way j.next) in omega arith;
    }
    go OwnCopy c k = record {
      requests = r.requests;
      responses = r.responses;
      memory_commands = omega arith;
      commands = let h = push_length m.commands (SetStateWakeup j.requestor j.block j.way) in omega arith;
    }
    go (Owner o p shown keeps writeback) c k = record {
      requests = r.requests;
      responses = r.responses;
      memory_commands = omega arith;
      commands = let h = push_length m.commands (Transfer o j.block p j.requestor j.way keeps j.next writeback) in omega arith;
    }

-- an answer leads to nothing, or to round two
advance_rooms : (m : Machine) (s : ℕ) (t : Option Transaction) → RoomFor m (commands_sent (starts t)) (memory_reads (starts t)) → Rooms (advance m s t)
advance_rooms m s None r = record {
  requests = r.requests;
  responses = r.responses;
  commands = let h = r.commands in omega arith;
  memory_commands = let h = r.memory_commands in omega arith;
}
advance_rooms m s (Some t) r = go t.round r
  where
    still : RoomFor m 0 0 → Rooms m
    still r = record {
      requests = r.requests;
      responses = r.responses;
      commands = let h = r.commands in omega arith;
      memory_commands = let h = r.memory_commands in omega arith;
    }

    go : (z : Round) → RoomFor m (commands_sent (starts (Some (record { job = t.job; round = z }))))
        (memory_reads (starts (Some (record { job = t.job; round = z }))))
        → Rooms (advance m s (Some (record { job = t.job; round = z })))
    go Two r = still r
    go (One zero) r = still r
    go (One (suc zero)) r = begin_rooms m t.job r
    go (One (suc (suc n))) r = let h = still r in
        record { requests = h.requests; commands = h.commands; responses = h.responses; memory_commands = h.memory_commands }

-- ---- a response is delivered

taken_rooms : (m : Machine) → Rooms m → (i : ℕ) (x : Response) → slice_get m.responses i ≡ Some x → (c k : ℕ)
    → length m.commands + c ≤ 128 → length m.memory_commands + (writes_on x + k) ≤ 128 → RoomFor (take_response m i x) c k
taken_rooms m r i (InvalidateAck d b) e c k p q = record {
  requests = r.requests;
  commands = p;
  memory_commands = omega arith;
  responses = let h = taken_length m.responses i (InvalidateAck d b) e in let l = r.responses in omega arith;
}
taken_rooms m r i (CoherenceAck d b) e c k p q = record {
  requests = r.requests;
  commands = p;
  memory_commands = omega arith;
  responses = let h = taken_length m.responses i (CoherenceAck d b) e in let l = r.responses in omega arith;
}
taken_rooms m r i (Writeback d b ws) e c k p q = record {
  requests = r.requests;
  commands = p;
  memory_commands = let h = push_length m.memory_commands (Write b ws) in omega arith;
  responses = let h = taken_length m.responses i (Writeback d b ws) e in let l = r.responses in omega arith;
}
taken_rooms m r i (NullWriteback d b) e c k p q = record {
  requests = r.requests;
  commands = p;
  memory_commands = omega arith;
  responses = let h = taken_length m.responses i (NullWriteback d b) e in let l = r.responses in omega arith;
}

pub response_rooms : (m : Machine) → Rooms m → (i : ℕ) (x : Response) → slice_get m.responses i ≡ Some x → (t : Option Transaction)
    → length m.memory_commands + (writes_on x + memory_reads (starts t)) ≤ 128 → length m.commands + commands_sent (starts t) ≤ 128
    → (s : ℕ) → Rooms (close (advance (take_response m i x) s t) s)
response_rooms m r i x e t p q s = close_rooms (advance (take_response m i x) s t) s
    (advance_rooms (take_response m i x) s t (taken_rooms m r i x e (commands_sent (starts t)) (memory_reads (starts t)) q p))

-- ---- the memory's turn

pub turn_rooms : (m : Machine) → Rooms m → (i : ℕ) (x : MemoryCommand) → slice_get m.memory_commands i ≡ Some x
    → length m.commands + cond (is_read x) 1 0 ≤ 128
    → (s v : ℕ) → Rooms (close (carry_out (with_count (with_memory_commands m (without m.memory_commands i)) s v) x) s)
turn_rooms m r i (Read b d w next) e l s v =
    close_rooms (carry_out (with_count (with_memory_commands m (without m.memory_commands i)) s v) (Read b d w next)) s
    (record {
      requests = r.requests;
      responses = r.responses;
      commands = let h = push_length m.commands (SetTagData d b w next (m.memory b) Directory) in omega arith;
      memory_commands = let h = taken_length m.memory_commands i (Read b d w next) e in let k = r.memory_commands in omega arith;
    })
turn_rooms m r i (Write b ws) e l s v =
    close_rooms (carry_out (with_count (with_memory_commands m (without m.memory_commands i)) s v) (Write b ws)) s
    (record {
      requests = r.requests;
      responses = r.responses;
      commands = r.commands;
      memory_commands = let h = taken_length m.memory_commands i (Write b ws) e in let k = r.memory_commands in omega arith;
    })

-- ---- a request is accepted

-- round two begins at once, or the commands of round one go out
pub begun_rooms : (m : Machine) → Rooms m → (i : ℕ) (q : Request) → slice_get m.requests i ≡ Some q → (j : Job)
    → RoomFor m (commands_sent (Some j.source)) (memory_reads (Some j.source))
    → Rooms (begin_two (record_job (with_requests m (without m.requests i)) j 0) j)
begun_rooms m r i q e j room = begin_rooms (record_job (with_requests m (without m.requests i)) j 0) j
    (record {
      responses = r.responses;
      commands = room.commands;
      memory_commands = room.memory_commands;
      requests = let h = taken_length m.requests i q e in let l = r.requests in omega arith;
    })

pub first_rooms : (m : Machine) → Rooms m → (i : ℕ) (q : Request) → slice_get m.requests i ≡ Some q → (j : Job) (n : ℕ) (xs : List Command)
    → length m.commands + length xs ≤ 128 → Rooms (with_commands (record_job (with_requests m (without m.requests i)) j n) (m.commands ++ xs))
first_rooms m r i q e j n xs l = record {
  responses = r.responses;
  memory_commands = r.memory_commands;
  commands = let h = append_length m.commands xs in omega arith;
  requests = let h = taken_length m.requests i q e in let k = r.requests in omega arith;
}
