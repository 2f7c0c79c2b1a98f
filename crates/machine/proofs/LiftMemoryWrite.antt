-- The memory's turn, at a write.
use Rattle.std.proofs.Common.{◌≡◌, ℕ, ◌+◌, ◌-◌, ◌<◌, [], ◌++◌, map, Some, None, filter, Option, sym, refl, ap, ◌∙◌, subst, inl, inr, arith}
use mathlib.Core.Path.{fun_ext}
use Rattle.std.specs.List.{slice_get}
use Rattle.std.proofs.lemmas.Bool.{eq-eqb, ne_eqb}
use Rattle.bedrock.specs.declared.words.Words.{Words}
use Rattle.bedrock.specs.Geometries.{Sizes}
use Rattle.messages.specs.declared.memory_command.MemoryCommand.TheVariants.{Write}
use Rattle.wires.specs.Waiting.{without}
use Rattle.machine.specs.Machines.{Machine, home, with_memory, with_count, with_memory_commands}
use Rattle.machine.specs.Responses.{close, carry_out}
use Rattle.machine.proofs.Updates.{update, update_each, update_here, update_there, written_is}
use Rattle.machine.proofs.Keys.{taken_other}
use Rattle.machine.proofs.Weights.{weigh, weigh_taken}
use Rattle.machine.proofs.Ranges.{Bounds, set_below, block_below}
use Rattle.machine.proofs.Ghost.{Progress, Pending, Idle, Waiting}
use Rattle.machine.proofs.Invariant.{GoodPending, PendingInRange, Invariant}
use Rattle.machine.proofs.StepMemoryWrite.{memory_write_keeps}
use Rattle.machine.proofs.Matches.{Added, ghost_of, Matches, at_block, writes_back, pending_of, pending_in, pending_slot, took_memory_command, command_weight, response_weight, memory_weight, ack_owed}
use Rattle.machine.proofs.Lifting.{block_of_parts}
use Rattle.machine.proofs.Lifted.{Owed, Lifted, lifted_after}
use Rattle.machine.proofs.Unguarded.{set_count, count_is}
use Rattle.machine.proofs.LiftClose.{close_lifts}

-- ---- the memory changed at one block

abbrev memory_of : Machine → (ℕ → Words) → Machine
memory_of m f = record {
  geometry = m.geometry;
  rows = m.rows;
  way = m.way;
  entry = m.entry;
  kept = m.kept;
  turn = m.turn;
  serving = m.serving;
  count = m.count;
  memory = f;
  requests = m.requests;
  commands = m.commands;
  responses = m.responses;
  memory_commands = m.memory_commands;
}

abbrev set_memory : Machine → ℕ → Words → Machine
set_memory m b ws = memory_of m (update m.memory b ws)

block_written : (me : ℕ → Words) (pe : ℕ → Pending) (la : ℕ → Words) (b : ℕ) (v : Words) (p : Pending)
    → update (λ (i : ℕ). (block_of_parts me pe la i)) b (record { memory = v; pending = p; latest = la b })
    ≡ (λ (i : ℕ). block_of_parts (update me b v) (update pe b p) la i)
block_written me pe la b v p = fun_ext (update_each (λ i z. z ≡ block_of_parts (update me b v) (update pe b p) la i)
    (λ (i : ℕ). (block_of_parts me pe la i)) b
    (record { memory = v; pending = p; latest = la b })
    (λ t. record { memory = sym (update_here me b v) t; pending = sym (update_here pe b p) t; latest = la b })
    (λ i n t. record { memory = sym (update_there me b v i n) t; pending = sym (update_there pe b p i n) t; latest = la i }))

-- ---- a write that waits

-- its set has a transaction, and its block is one that there is
waiting_open : (h : Option Progress) (b : ℕ) (ws : Words) → GoodPending h b (Waiting ws) → (k : Progress) × (h ≡ Some k)
waiting_open None b ws ok = grind arith
waiting_open (Some h) b ws ok = (h, refl)

waiting_range : (n : Sizes) (b : ℕ) (ws : Words) → PendingInRange n b (Waiting ws) → b < n.blocks
waiting_range n b ws (inl e) = grind arith
waiting_range n b ws (inr l) = l

module _ (m : Machine) (x : Added) (sh : Matches m x) (inv : Invariant (ghost_of m x)) (bounds : Bounds m.geometry) (owed : Owed m) (i b : ℕ)
    (ws : Words)
    (e : slice_get m.memory_commands i ≡ Some (Write b ws)) where
  abbrev s : ℕ
  s = home m b

  low : s < 16
  low = set_below m.geometry bounds b

  q : (x.pending b ≡ Waiting ws) × (filter (at_block b) (without m.memory_commands i) ≡ []) × (filter (writes_back b) m.responses ≡ [])
  q = took_memory_command m x sh i (Write b ws) e

  abbrev done : Machine
  done = set_memory (set_count (with_memory_commands m (without m.memory_commands i)) s (m.count s - 1)) b ws

  abbrev after_done : Added
  after_done = record { mailbox = x.mailbox; progress = x.progress; request = x.request; pending = update x.pending b Idle; latest = x.latest }

  done_is : carry_out (with_count (with_memory_commands m (without m.memory_commands i)) s (m.count s - 1)) (Write b ws) ≡ done
  done_is = ap (λ (n : Machine). with_memory n b ws) (count_is (with_memory_commands m (without m.memory_commands i)) s (m.count s - 1) low)
      ∙ ap (memory_of (set_count (with_memory_commands m (without m.memory_commands i)) s (m.count s - 1)))
      (written_is m.memory b ws (block_below m.geometry bounds b (waiting_range m.geometry b ws (rw q.0 at (inv.pending_ranges b)))))

  matches_done : Matches done after_done
  matches_done = record {
    serving = sh.serving;
    requests = sh.requests;
    mails = sh.mails;
    left = sh.left;
    pendings = update_each
        (λ k z. map pending_of (filter (at_block k) (without m.memory_commands i)) ++ map pending_in (filter (writes_back k) m.responses)
        ≡ pending_slot z)
        x.pending b Idle (rw (q.1, q.2) refl)
        (λ k n. rw (taken_other (at_block k) m.memory_commands i (Write b ws) e (ne_eqb b k (λ z. n (sym z)))) (sh.pendings k));
    weights = update_each (λ t a. a ≡ weigh (command_weight m.geometry t) m.commands + (weigh (response_weight m.geometry t) m.responses
        + (weigh (memory_weight m.geometry t) (without m.memory_commands i) + ack_owed (m.serving t)))) m.count s (m.count s - 1)
        (let u = rw (eq-eqb s s refl) at (weigh_taken (memory_weight m.geometry s) m.memory_commands i (Write b ws) e) in
        let v = sh.weights s in omega arith)
        (λ t k. let u = rw (ne_eqb s t (λ z. k (sym z))) at (weigh_taken (memory_weight m.geometry t) m.memory_commands i (Write b ws) e) in
        let v = sh.weights t in omega arith);
  }

  invariant_done : Invariant (ghost_of done after_done)
  invariant_done = rw (← block_written m.memory x.pending x.latest b ws Idle) (memory_write_keeps (ghost_of m x) inv b ws q.0)

  pub memory_write_lifts : Lifted m x
      (close (carry_out (with_count (with_memory_commands m (without m.memory_commands i)) (home m b) (m.count (home m b) - 1)) (Write b ws))
      (home m b))
  memory_write_lifts =
      let open_here = waiting_open (x.progress s) b ws (rw q.0 at (inv.pendings b)) in
      subst (λ n. Lifted m x (close n s)) (sym done_is)
      (lifted_after m x done after_done (close done s) refl (record { kept = refl; geometry = refl; rows = refl; turn = refl })
      (close_lifts done after_done matches_done invariant_done s open_here.0 open_here.1 low
      (λ t n z. owed t (sym (update_there m.count s (m.count s - 1) t n) ∙ z))))
