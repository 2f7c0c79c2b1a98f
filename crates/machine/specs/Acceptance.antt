-- The delivery of a request: what accepting it decides, round one, and the start of round two.
use Rattle.std.specs.Prelude.{ℕ, zero, suc, ◌+◌, Bool, true, false, cond, not, ◌&&◌, List, [], ◌∷◌, ◌++◌, length, Some, None, Option, ◌==◌, nat_le, nat_lt}
use Rattle.std.specs.List.{slice_get}
use Rattle.protocols.specs.declared.row.Row.{Row}
use Rattle.protocols.specs.States.{held, may_be_dirty}
use Rattle.protocols.specs.Rows.{write_row}
use Rattle.messages.specs.declared.request.Request.{Request}
use Rattle.messages.specs.declared.command.Command.{Command}
use Rattle.messages.specs.declared.command.Command.TheVariants.{Invalidate, SetStateWriteback, Transfer, SetStateWakeup}
use Rattle.messages.specs.declared.memory_command.MemoryCommand.TheVariants.{Read}
use Rattle.wires.specs.Waiting.{without}
use Rattle.machine.specs.declared.holding.Entry.{Entry}
use Rattle.machine.specs.declared.transaction.Source.{Source}
use Rattle.machine.specs.declared.transaction.Source.TheVariants.{Memory, OwnCopy, Owner}
use Rattle.machine.specs.declared.transaction.Job.{Job}
use Rattle.machine.specs.declared.transaction.Round.TheVariants.{One, Two}
use Rattle.machine.specs.Tables.{put, put₂}
use Rattle.machine.specs.Holdings.{no_entry, entry_in, is_write}
use Rattle.machine.specs.Machines.{Machine, home, one_more, with_entries, with_serving, with_count, with_requests, with_commands, command, ask_memory}
use Rattle.machine.specs.Outcomes.{Outcome, refuse, move_on}
use Rattle.machine.specs.Directory.{shown_way, shown_state, sharing, owner, view, or_zero, found}

-- ---- what is decided

-- a Write has one row under every protocol; a Read has the protocol's row at the state that the directory shows
abbrev pub row_for : Machine → Request → Row
row_for m q = cond (is_write q.access) write_row (m.rows (view m q.block).0)

-- an upgrade: a Write by a cache that the directory shows with the block
abbrev pub upgrading : Machine → Request → Bool
upgrading m q = is_write q.access && found (shown_way m q.cache q.block)

-- without another owner the words are the requestor's own in an upgrade, else the memory's
abbrev pub unowned_source : Bool → Source
unowned_source true = OwnCopy
unowned_source false = Memory

abbrev pub source_by : Machine → Request → Option ℕ → Source
source_by m q None = unowned_source (upgrading m q)
source_by m q (Some c) =
    cond (c == q.cache) (unowned_source (upgrading m q))
    (Owner c (or_zero (shown_way m c q.block)) (shown_state m c q.block) (row_for m q).owner (row_for m q).writeback)

abbrev pub job_for : Machine → Request → Job
job_for m q = record { access = q.access; requestor = q.cache; block = q.block; way = q.way; next = (row_for m q).requestor; upgrade = upgrading m q; source = source_by m q (owner m q.block) }

-- ---- round one

-- the requestor's way is emptied, if it shows a block: what may be dirty is written back
abbrev pub evict : ℕ → ℕ → Entry → List Command
evict c w e = cond (held e.state) (cond (may_be_dirty e.state) (SetStateWriteback c e.block w ∷ []) (Invalidate c e.block w ∷ [])) []

-- each other cache below n that is shown in S lets go of the block, lowest first
abbrev pub dismiss : Machine → ℕ → ℕ → ℕ → List Command
dismiss m r b zero = []
dismiss m r b (suc c) = dismiss m r b c ++ cond (sharing (shown_state m c b) && not (c == r)) (Invalidate c b (or_zero (shown_way m c b)) ∷ []) []

-- the victim first, unless it is an upgrade; then, for a Write, the sharers
abbrev pub first_round : Machine → Request → List Command
first_round m q =
    cond (upgrading m q) [] (evict q.cache q.way (m.entry (home m q.block) q.cache q.way))
    ++ cond (is_write q.access) (dismiss m q.cache q.block m.geometry.caches) []

-- ---- the final entries of the set, recorded at once

-- a sharer of a block that is written shows it no more
abbrev pub dismissed : Bool → ℕ → Entry → Entry
dismissed true b e = cond (sharing e.state && e.block == b) no_entry e
dismissed false b e = e

-- another owner shows its next state
abbrev pub handed_over : Source → ℕ → (ℕ → ℕ → Entry) → ℕ → ℕ → Entry
handed_over Memory b f = f
handed_over OwnCopy b f = f
handed_over (Owner c w shown next writeback) b f = put₂ 8 4 f c w (entry_in next b)

-- and the requestor's way shows the block in its next state
abbrev pub settled : Job → (ℕ → ℕ → Entry) → ℕ → ℕ → Entry
settled j f = put₂ 8 4 (handed_over j.source j.block (λ c w. dismissed (is_write j.access) j.block (f c w))) j.requestor j.way (entry_in j.next j.block)

-- the job with n answers awaited in round one; the count: these, and 1 for the Coherence Ack
abbrev pub record_job : Machine → Job → ℕ → Machine
record_job m j n =
    with_count
    (with_serving
    (with_entries m (put 16 m.entry (home m j.block) (settled j (m.entry (home m j.block)))))
    (home m j.block) (Some (record { job = j; round = One n })))
    (home m j.block) (1 + n)

-- ---- round two

-- a memory read, a Wakeup for an upgrade, or a Transfer to the owner; a memory read and a write back are awaited too
abbrev pub fetch : Machine → Job → Source → Machine
fetch m j Memory = with_count (ask_memory m (Read j.block j.requestor j.way j.next)) (home m j.block) (one_more (m.count (home m j.block)))
fetch m j OwnCopy = command m (SetStateWakeup j.requestor j.block j.way)
fetch m j (Owner c w shown next writeback) =
    with_count (command m (Transfer c j.block w j.requestor j.way next j.next writeback)) (home m j.block) (cond writeback (one_more (m.count (home m j.block))) (m.count (home m j.block)))

abbrev pub begin_two : Machine → Job → Machine
begin_two m j = with_serving (fetch m j j.source) (home m j.block) (Some (record { job = j; round = Two }))

abbrev pub from_memory : Source → Bool
from_memory Memory = true
from_memory OwnCopy = false
from_memory (Owner c w shown next writeback) = false

-- ---- the delivery

-- 14 where what goes out now has no room on its channel; without a first round, round two begins at once
abbrev pub accept : Machine → ℕ → Request → Job → List Command → Outcome
accept m i q j [] =
    cond (cond (from_memory j.source) (nat_le 128 (length m.memory_commands)) (nat_le 128 (length m.commands))) (refuse m 14)
    (move_on (begin_two (record_job (with_requests m (without m.requests i)) j 0) j))
accept m i q j (x ∷ xs) =
    cond (nat_lt 128 (length m.commands + suc (length xs))) (refuse m 14)
    (let n : Machine = record_job (with_requests m (without m.requests i)) j (suc (length xs)) in
    move_on (with_commands n (n.commands ++ x ∷ xs)))

-- 12 where none waits, 13 where the set's count is not 0: the request stays waiting
abbrev pub deliver_request : Machine → ℕ → Outcome
deliver_request m i = elim (slice_get m.requests i) [
  | None ↦ refuse m 12
  | Some q ↦ cond (m.count (home m q.block) == 0) (accept m i q (job_for m q) (first_round m q)) (refuse m 13)
]
