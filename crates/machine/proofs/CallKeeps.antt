-- Each call keeps what a run has reached: by cases on the machine's step.
use Rattle.std.proofs.Common.{◌≡◌, ℕ, zero, suc, ◌+◌, ◌-◌, ◌<◌, ◌≤◌, Bool, true, false, cond, ◌&&◌, ◌||◌, eqb, ltb, leb, List, [], ◌∷◌, length, Some, None, Option, sym, refl, ◌∙◌, subst, arith}
use Rattle.std.specs.List.{slice_get}
use Rattle.std.proofs.lemmas.Bool.{eqb-true, leb-false, ltb-false, or_parts}
use Rattle.bedrock.specs.declared.words.Words.{Words}
use Rattle.bedrock.specs.BlockWords.{word_of}
use Rattle.protocols.specs.declared.state.State.{State}
use Rattle.protocols.specs.States.{held}
use Rattle.messages.specs.declared.request.Request.{Request}
use Rattle.messages.specs.declared.command.Command.{Command}
use Rattle.messages.specs.declared.command.Command.TheVariants.{Invalidate, SetStateWriteback, Transfer, SetTagData, SetStateWakeup}
use Rattle.messages.specs.declared.response.Response.{Response}
use Rattle.messages.specs.declared.memory_command.MemoryCommand.{MemoryCommand}
use Rattle.messages.specs.declared.memory_command.MemoryCommand.TheVariants.{Read, Write}
use Rattle.messages.specs.Messages.{response_block, memory_command_block}
use Rattle.wires.specs.Waiting.{without}
use Rattle.machine.specs.declared.order.Order.{Order}
use Rattle.machine.specs.declared.order.Order.TheVariants.{Load, Store}
use Rattle.machine.specs.declared.transaction.Source.{Source}
use Rattle.machine.specs.Holdings.{block_of, word_asked, hits}
use Rattle.machine.specs.Machines.{Machine, home, with_commands, with_count, with_memory_commands}
use Rattle.machine.specs.Outcomes.{Outcome, moved_on, refuse, move_on}
use Rattle.machine.specs.Orders.{holding_way, finish, miss, order_at, order}
use Rattle.machine.specs.Acceptance.{job_for, first_round, from_memory, accept}
use Rattle.machine.specs.Commands.{obey, answers_to, sends_on}
use Rattle.machine.specs.Responses.{close, advance, take_response, starts, memory_reads, commands_sent, writes_on, carry_out, is_read}
use Rattle.machine.specs.Runs.{Call, orders, delivers, turns, Event, deliver, step}
use Rattle.machine.specs.Coherence.{latest, waiting_order, Lawful}
use Rattle.machine.proofs.Ranges.{Bounds, set_below}
use Rattle.machine.proofs.RowLaws.{LawfulRow, lawful_row}
use Rattle.machine.proofs.Matches.{Added}
use Rattle.machine.proofs.Rooms.{Rooms, count_most}
use Rattle.machine.proofs.StepRooms.{RoomFor, response_rooms, turn_rooms, begun_rooms, first_rooms}
use Rattle.machine.proofs.Reached.{Reached, Keeps}
use Rattle.machine.proofs.Lifted.{Lifted}
use Rattle.machine.proofs.LiftHit.{found_holding, load_hits, store_hits}
use Rattle.machine.proofs.LiftMiss.{Misses, miss_lifts}
use Rattle.machine.proofs.LiftInvalidate.{deliver_invalidate}
use Rattle.machine.proofs.LiftWriteback.{deliver_writeback}
use Rattle.machine.proofs.LiftTransfer.{deliver_transfer}
use Rattle.machine.proofs.LiftData.{deliver_data}
use Rattle.machine.proofs.LiftWakeup.{deliver_wakeup}
use Rattle.machine.proofs.LiftResponse.{response_lifts}
use Rattle.machine.proofs.LiftMemoryWrite.{memory_write_lifts}
use Rattle.machine.proofs.LiftMemoryRead.{memory_read_lifts}
use Rattle.machine.proofs.LiftAccept.{accept_sends, accept_begins}

module _ (content : ℕ → Words) (m : Machine) (past : List Event) (x : Added) (r : Reached content m past x) where
  -- ---- calls in general

  refusal : (a : Call) (n : ℕ) → Keeps content m past a (refuse m n)
  refusal a n = (
    x,
    record {
      bounds = r.bounds;
      lawful = r.lawful;
      matches = r.matches;
      inv = r.inv;
      rooms = r.rooms;
      owed = r.owed;
      words = r.words;
      orders = r.orders;
      turns = r.turns;
    },
    tt,
  )

  -- a test that refuses
  tested : (a : Call) (t : Bool) (n : ℕ) (o : Outcome) → (t ≡ false → Keeps content m past a o) → Keeps content m past a (cond t (refuse m n) o)
  tested a true n o k = refusal a n
  tested a false n o k = k refl

  -- a call that finishes no order and begins none
  moved : (a : Call) → ((c : ℕ) → waiting_order c (record { call = a; says = moved_on } ∷ past) ≡ waiting_order c past) → (n : Machine)
      → Lifted m x n → Rooms n
      → Keeps content m past a (move_on n)
  moved a same n l room = (
    l.added,
    record {
      bounds = subst Bounds (sym l.geometry) r.bounds;
      lawful = subst Lawful (sym l.rows) r.lawful;
      matches = l.matches;
      inv = l.invariant;
      rooms = room;
      owed = l.owed;
      words = subst (λ (f : ℕ → Words). (b k : ℕ) → k < 2 → word_of (f b) k ≡ latest content past b k) (sym l.latest) r.words;
      orders = subst (λ (f : ℕ → Option Order). (c : ℕ)
          → (waiting_order c (record { call = a; says = moved_on } ∷ past) ≡ f c) × ((o : Order) → f c ≡ Some o → word_asked o < 2)) (sym l.kept)
          (λ c. (same c ∙ (r.orders c).0, (r.orders c).1));
      turns = rw (l.turn, l.geometry) r.turns;
    },
    tt,
  )

  -- ---- orders

  missed : (c : ℕ) (o : Order) → word_asked o < 2 → m.kept c ≡ None → c < m.geometry.caches → block_of o < m.geometry.blocks → (at : Option ℕ)
      → Misses m c o at
      → Keeps content m past (orders c o) (miss m c o at)
  missed c o small free cache block at y = miss_lifts content m past x r c o small free cache block at y (refusal (orders c o) 14)

  -- one that finds its block in a way
  at_way : (c : ℕ) (o : Order) (w : ℕ) → word_asked o < 2 → m.kept c ≡ None → c < m.geometry.caches → block_of o < m.geometry.blocks
      → (held (m.way (home m (block_of o)) c w).state ≡ true) × ((m.way (home m (block_of o)) c w).block ≡ block_of o)
      → (t : Bool) → hits o (m.way (home m (block_of o)) c w).state ≡ t
      → Keeps content m past (orders c o) (cond t
      (finish m (home m (block_of o)) c w (m.way (home m (block_of o)) c w).state (m.way (home m (block_of o)) c w).words o) (miss m c o (Some w)))
  at_way c o w small free cache block q false i = missed c o small free cache block (Some w) (q.0, q.1, i)
  at_way c (Load b k) w small free cache block q true i = load_hits content m past x r c b k w small q.0 q.1 free
  at_way c (Store b k v) w small free cache block q true i = store_hits content m past x r c b k w small q.0 q.1 free v i

  ordered : (c : ℕ) (o : Order) → Keeps content m past (orders c o) (order m c o)
  ordered c o = tested (orders c o) (leb m.geometry.caches c) 1 known_block
      (λ i. tested (orders c o) (leb m.geometry.blocks (block_of o)) 2 known_word
      (λ j. tested (orders c o) (leb 2 (word_asked o)) 3 (unless_waiting (m.kept c))
      (λ k. waits (leb-false m.geometry.caches c i) (leb-false m.geometry.blocks (block_of o) j) (leb-false 2 (word_asked o) k)
      (m.kept c) refl)))
    where
      unless_waiting : Option Order → Outcome
      unless_waiting q = elim q [ Some kept ↦ refuse m 11 | None ↦ order_at m c o (holding_way m c (block_of o)) ]

      known_word : Outcome
      known_word = cond (leb 2 (word_asked o)) (refuse m 3) (unless_waiting (m.kept c))

      known_block : Outcome
      known_block = cond (leb m.geometry.blocks (block_of o)) (refuse m 2) known_word

      at : c < m.geometry.caches → block_of o < m.geometry.blocks → word_asked o < 2 → m.kept c ≡ None → (q : Option ℕ)
          → holding_way m c (block_of o) ≡ q
          → Keeps content m past (orders c o) (order_at m c o q)
      at cache block small free None e = missed c o small free cache block None e
      at cache block small free (Some w) e = at_way c o w small free cache block (found_holding m c (block_of o) w e)
          (hits o (m.way (home m (block_of o)) c w).state) refl

      waits : c < m.geometry.caches → block_of o < m.geometry.blocks → word_asked o < 2 → (q : Option Order) → m.kept c ≡ q
          → Keeps content m past (orders c o) (unless_waiting q)
      waits cache block small (Some kept) e = refusal (orders c o) 11
      waits cache block small None e = at cache block small e (holding_way m c (block_of o)) refl

  -- ---- channel 0

  begins : (z : Source) → cond (from_memory z) (leb 128 (length m.memory_commands)) (leb 128 (length m.commands)) ≡ false
      → RoomFor m (commands_sent (Some z)) (memory_reads (Some z))
  begins z e = go (from_memory z) e
    where
      go : (t : Bool) → cond t (leb 128 (length m.memory_commands)) (leb 128 (length m.commands)) ≡ false → RoomFor m (cond t 0 1) (cond t 1 0)
      go true e = record {
        requests = r.rooms.requests;
        responses = r.rooms.responses;
        commands = let h = r.rooms.commands in omega arith;
        memory_commands = let h = leb-false 128 (length m.memory_commands) e in omega arith;
      }
      go false e = record {
        requests = r.rooms.requests;
        responses = r.rooms.responses;
        memory_commands = let h = r.rooms.memory_commands in
            omega arith;
        commands = let h = leb-false 128 (length m.commands) e in omega arith;
      }

  rows : (st : State) → LawfulRow st (m.rows st)
  rows st = lawful_row st (m.rows st) (r.lawful st)

  accepted : (i : ℕ) (q : Request) → slice_get m.requests i ≡ Some q → m.count (home m q.block) ≡ 0 → (fr : List Command) → first_round m q ≡ fr
      → Keeps content m past (delivers 0 i) (accept m i q (job_for m q) fr)
  accepted i q e z [] fi = tested (delivers 0 i)
      (cond (from_memory (job_for m q).source) (leb 128 (length m.memory_commands)) (leb 128 (length m.commands))) 14 (move_on _)
      (λ t. moved (delivers 0 i) (λ _. refl) _ (accept_begins m x r.matches r.inv r.owed rows i q e z r.bounds fi)
      (begun_rooms m r.rooms i q e (job_for m q) (begins (job_for m q).source t)))
  accepted i q e z (k ∷ ks) fi = tested (delivers 0 i) (ltb 128 (length m.commands + suc (length ks))) 14 (move_on _)
      (λ t. moved (delivers 0 i) (λ _. refl) _ (accept_sends m x r.matches r.inv r.owed rows i q e z r.bounds k ks fi)
      (first_rooms m r.rooms i q e (job_for m q) (suc (length ks)) (k ∷ ks) (ltb-false 128 (length m.commands + suc (length ks)) t)))

  request : (i : ℕ) (k : Option Request) → slice_get m.requests i ≡ k → Keeps content m past (delivers 0 i) (elim k [
    | None ↦ refuse m 12
    | Some q ↦ cond (eqb (m.count (home m q.block)) 0) (accept m i q (job_for m q) (first_round m q)) (refuse m 13)
  ])
  request i None e = refusal (delivers 0 i) 12
  request i (Some q) e = go (eqb (m.count (home m q.block)) 0) refl
    where
      go : (t : Bool) → eqb (m.count (home m q.block)) 0 ≡ t
          → Keeps content m past (delivers 0 i) (cond t (accept m i q (job_for m q) (first_round m q)) (refuse m 13))
      go true z = accepted i q e (eqb-true (m.count (home m q.block)) 0 z) (first_round m q) refl
      go false z = refusal (delivers 0 i) 13

  -- ---- channel 1

  obeyed : (i : ℕ) (k : Command) → slice_get m.commands i ≡ Some k → length m.responses + answers_to k ≤ 128
      → Keeps content m past (delivers 1 i) (obey (with_commands m (without m.commands i)) k)
  obeyed i (Invalidate c b w) e l = deliver_invalidate content m past x r i c b w e (omega arith)
  obeyed i (SetStateWriteback c b w) e l = deliver_writeback content m past x r i c b w e (omega arith)
  obeyed i (Transfer c b w to p keeps next back) e l = deliver_transfer content m past x r i c b w to p keeps next back e l
  obeyed i (SetTagData c b w next ws sender) e l = deliver_data content m past x r i c b w next ws sender e (omega arith)
  obeyed i (SetStateWakeup c b w) e l = deliver_wakeup content m past x r i c b w e (omega arith)

  command : (i : ℕ) (k : Option Command) → slice_get m.commands i ≡ k → Keeps content m past (delivers 1 i) (elim k [
    | None ↦ refuse m 12
    | Some k ↦ cond (ltb 128 (length m.responses + answers_to k) || (sends_on k && leb 128 (length m.commands))) (refuse m 14)
        (obey (with_commands m (without m.commands i)) k)
  ])
  command i None e = refusal (delivers 1 i) 12
  command i (Some k) e = tested (delivers 1 i) (ltb 128 (length m.responses + answers_to k) || (sends_on k && leb 128 (length m.commands))) 14
      (obey (with_commands m (without m.commands i)) k)
      (λ t. obeyed i k e (ltb-false 128 (length m.responses + answers_to k)
      (or_parts (ltb 128 (length m.responses + answers_to k)) (sends_on k && leb 128 (length m.commands)) t).0))

  -- ---- channel 2

  response : (i : ℕ) (k : Option Response) → slice_get m.responses i ≡ k → Keeps content m past (delivers 2 i) (elim k [
    | None ↦ refuse m 12
    | Some k ↦ cond (ltb 128 (length m.memory_commands + (writes_on k + memory_reads (starts (m.serving (home m (response_block k))))))
        || ltb 128 (length m.commands + commands_sent (starts (m.serving (home m (response_block k)))))) (refuse m 14)
        (move_on (close (advance (take_response m i k) (home m (response_block k)) (m.serving (home m (response_block k))))
        (home m (response_block k))))
  ])
  response i None e = refusal (delivers 2 i) 12
  response i (Some k) e = tested (delivers 2 i) (ltb 128 memory || ltb 128 commands) 14
      (move_on (close (advance (take_response m i k) s (m.serving s)) s))
      (λ t. let p = or_parts (ltb 128 memory) (ltb 128 commands) t in
      moved (delivers 2 i) (λ _. refl) (close (advance (take_response m i k) s (m.serving s)) s)
      (response_lifts m x r.matches r.inv r.owed i k e (set_below m.geometry r.bounds (response_block k))
      (count_most m x r.matches r.rooms s))
      (response_rooms m r.rooms i k e (m.serving s) (ltb-false 128 memory p.0) (ltb-false 128 commands p.1) s))
    where
      s : ℕ
      s = home m (response_block k)

      memory : ℕ
      memory = length m.memory_commands + (writes_on k + memory_reads (starts (m.serving s)))

      commands : ℕ
      commands = length m.commands + commands_sent (starts (m.serving s))

  -- ---- the memory's turn

  abbrev turned : ℕ → MemoryCommand → Machine
  turned i k = close (carry_out (with_count (with_memory_commands m (without m.memory_commands i)) (home m (memory_command_block k))
      (m.count (home m (memory_command_block k)) - 1)) k) (home m (memory_command_block k))

  turn_lifts : (i : ℕ) (k : MemoryCommand) → slice_get m.memory_commands i ≡ Some k → Lifted m x (turned i k)
  turn_lifts i (Read b d w next) e = memory_read_lifts m x r.matches r.inv r.bounds r.owed i b d w next e
  turn_lifts i (Write b ws) e = memory_write_lifts m x r.matches r.inv r.bounds r.owed i b ws e

  turn_places : (k : MemoryCommand) → (is_read k && leb 128 (length m.commands)) ≡ false → length m.commands + cond (is_read k) 1 0 ≤ 128
  turn_places (Read b d w next) t = let h = leb-false 128 (length m.commands) t in omega arith
  turn_places (Write b ws) t = let h = r.rooms.commands in omega arith

  turn : (i : ℕ) (k : Option MemoryCommand) → slice_get m.memory_commands i ≡ k → Keeps content m past (turns i) (elim k [
    | None ↦ refuse m 12
    | Some k ↦ cond (is_read k && leb 128 (length m.commands)) (refuse m 14) (move_on (turned i k))
  ])
  turn i None e = refusal (turns i) 12
  turn i (Some k) e = tested (turns i) (is_read k && leb 128 (length m.commands)) 14 (move_on (turned i k))
      (λ t. moved (turns i) (λ _. refl) (turned i k) (turn_lifts i k e)
      (turn_rooms m r.rooms i k e (turn_places k t) (home m (memory_command_block k)) (m.count (home m (memory_command_block k)) - 1)))

  -- ---- all calls

  delivered : (ch i : ℕ) → Keeps content m past (delivers ch i) (deliver m ch i)
  delivered zero i = request i (slice_get m.requests i) refl
  delivered (suc zero) i = command i (slice_get m.commands i) refl
  delivered (suc (suc zero)) i = response i (slice_get m.responses i) refl
  delivered (suc (suc (suc n))) i = refusal (delivers (suc (suc (suc n))) i) 4

  pub call_keeps : (a : Call) → Keeps content m past a (step m a)
  call_keeps (orders c o) = ordered c o
  call_keeps (delivers ch i) = delivered ch i
  call_keeps (turns i) = turn i (slice_get m.memory_commands i) refl
