-- The memory's turn, at a read.
use Rattle.std.proofs.Common.{◌≡◌, ℕ, ◌+◌, ◌-◌, ◌<◌, [], ◌∷◌, ◌++◌, map, Some, filter, sym, refl, ap, ◌∙◌, subst, ⊎_elim, arith}
use Rattle.std.specs.List.{slice_get}
use Rattle.std.proofs.lemmas.Bool.{eq-eqb, ne_eqb, cases_eq}
use Rattle.bedrock.specs.declared.party.Party.TheVariants.{Directory}
use Rattle.protocols.specs.declared.state.State.{State}
use Rattle.messages.specs.declared.command.Command.{Command}
use Rattle.messages.specs.declared.command.Command.TheVariants.{SetTagData}
use Rattle.messages.specs.declared.memory_command.MemoryCommand.TheVariants.{Read}
use Rattle.wires.specs.Waiting.{without}
use Rattle.machine.specs.declared.transaction.Source.TheVariants.{Memory}
use Rattle.machine.specs.declared.transaction.Job.{Job}
use Rattle.machine.specs.Machines.{Machine, home, with_count, with_memory_commands, command}
use Rattle.machine.specs.Responses.{close, carry_out}
use Rattle.machine.proofs.Updates.{update, update₂, update_each, update_here, update_there}
use Rattle.machine.proofs.Keys.{taken_other}
use Rattle.machine.proofs.Weights.{weigh, weigh_taken, weigh_push}
use Rattle.machine.proofs.Ranges.{Bounds, set_below}
use Rattle.machine.proofs.Ghost.{Asked, Sent, at_stage, Nothing, To, Idle, Reading}
use Rattle.machine.proofs.Invariant.{Invariant}
use Rattle.machine.proofs.MailFacts.{requestor_at}
use Rattle.machine.proofs.StepMemoryRead.{ReadFacts, read_facts, memory_read_keeps}
use Rattle.machine.proofs.Matches.{Added, ghost_of, Matches, at_block, writes_back, pending_of, pending_in, pending_slot, took_memory_command, command_weight, response_weight, memory_weight, command_one, ack_owed, Left, SameProgress}
use Rattle.machine.proofs.Lifting.{ghost_in, block_pending, progress_on, left_two, sent_mails}
use Rattle.machine.proofs.Lifted.{Owed, Lifted, lifted_after}
use Rattle.machine.proofs.Unguarded.{set_count, count_is}
use Rattle.machine.proofs.LiftClose.{close_lifts}

-- the words are in the mail of cache r, and nothing is on its way at the memory
abbrev added_after : Machine → Added → ℕ → Job → ℕ → ℕ → ℕ → State → Added
added_after m x s j b r w next = record {
  mailbox = update₂ x.mailbox s r (record { known = (x.mailbox s r).known; mail = To (SetTagData r b w next (m.memory b) Directory) });
  progress = update x.progress s (Some (at_stage Sent j));
  request = x.request;
  pending = update x.pending b Idle;
  latest = x.latest;
}

read_inv : (m : Machine) (x : Added) → Invariant (ghost_of m x) → (s b r w : ℕ) (next : State) (j : Job) → x.progress s ≡ Some (at_stage Asked j)
    → j.source ≡ Memory → b ≡ j.block → r ≡ j.requestor → w ≡ j.way → next ≡ j.next
    → Invariant (ghost_in m.geometry m.entry m.way m.kept m.memory (added_after m x s j b r w next))
read_inv m x inv s b r w next j h src be re we ne = rw (← block_pending m.memory x.pending x.latest b Idle)
    (rw (be, re, we, ne) (memory_read_keeps (ghost_of m x) inv s j h src))

module _ (m : Machine) (x : Added) (sh : Matches m x) (inv : Invariant (ghost_of m x)) (bounds : Bounds m.geometry) (owed : Owed m) (i b r w : ℕ)
    (next : State) (e : slice_get m.memory_commands i ≡ Some (Read b r w next)) where
  abbrev s : ℕ
  s = home m b

  low : s < 16
  low = set_below m.geometry bounds b

  abbrev k : Command
  k = SetTagData r b w next (m.memory b) Directory

  q : (x.pending b ≡ Reading r w next) × (filter (at_block b) (without m.memory_commands i) ≡ []) × (filter (writes_back b) m.responses ≡ [])
  q = took_memory_command m x sh i (Read b r w next) e

  o : ReadFacts (x.progress s) b r w next
  o = read_facts (x.progress s) b r w next (rw q.0 at (inv.pendings b))

  serving : SameProgress (m.serving s) (Some (at_stage Asked o.job))
  serving = rw o.progress at (sh.serving s)

  quiet : (x.mailbox s r).mail ≡ Nothing
  quiet = ap (λ c. (x.mailbox s c).mail) o.cache ∙ rw o.source at (requestor_at (ghost_of m x) inv s o.job Asked o.progress).2.1

  abbrev done : Machine
  done = command (set_count (with_memory_commands m (without m.memory_commands i)) s (m.count s - 1)) k

  done_is : carry_out (with_count (with_memory_commands m (without m.memory_commands i)) s (m.count s - 1)) (Read b r w next) ≡ done
  done_is = ap (λ (n : Machine). command n k) (count_is (with_memory_commands m (without m.memory_commands i)) s (m.count s - 1) low)

  left_done : (t : ℕ) → Left (m.serving t) (weigh (command_one m.geometry t) (m.commands ++ k ∷ [])
      + weigh (response_weight m.geometry t) m.responses)
  left_done t = ⊎_elim
      (λ z. rw z (left_two (m.serving s) o.job Asked (λ _ f. f) serving
      (weigh (command_one m.geometry s) (m.commands ++ k ∷ []) + weigh (response_weight m.geometry s) m.responses)))
      (λ a. let y = rw (ne_eqb s t (λ z. a (sym z))) at (weigh_push (command_one m.geometry t) m.commands k) in
      let l : weigh (command_one m.geometry t) m.commands + weigh (response_weight m.geometry t) m.responses
      ≡ weigh (command_one m.geometry t) (m.commands ++ k ∷ []) + weigh (response_weight m.geometry t) m.responses = omega arith in
      subst (Left (m.serving t)) l (sh.left t)) (cases_eq t s)

  matches_done : Matches done (added_after m x s o.job b r w next)
  matches_done = record {
    serving = update_each (λ t z. SameProgress (m.serving t) z) x.progress s (Some (at_stage Sent o.job))
        (progress_on (m.serving s) o.job Asked Sent (λ _ z. z) serving) (λ t _. sh.serving t);
    requests = sh.requests;
    left = left_done;
    mails = sent_mails m.geometry m.commands m.responses x.mailbox sh.mails k quiet
        (record { known = (x.mailbox s r).known; mail = To k }) refl;
    pendings = update_each
        (λ d z. map pending_of (filter (at_block d) (without m.memory_commands i)) ++ map pending_in (filter (writes_back d) m.responses)
        ≡ pending_slot z)
        x.pending b Idle (rw (q.1, q.2) refl)
        (λ d a. rw (taken_other (at_block d) m.memory_commands i (Read b r w next) e (ne_eqb b d (λ z. a (sym z)))) (sh.pendings d));
    weights = update_each (λ t a. a ≡ weigh (command_weight m.geometry t) (m.commands ++ k ∷ [])
        + (weigh (response_weight m.geometry t) m.responses
        + (weigh (memory_weight m.geometry t) (without m.memory_commands i) + ack_owed (m.serving t)))) m.count s (m.count s - 1)
        (let u = rw (eq-eqb s s refl) at (weigh_taken (memory_weight m.geometry s) m.memory_commands i (Read b r w next) e) in
        let y = rw (eq-eqb s s refl) at (weigh_push (command_weight m.geometry s) m.commands k) in let v = sh.weights s in omega arith)
        (λ t a. let u = rw (ne_eqb s t (λ z. a (sym z))) at (weigh_taken (memory_weight m.geometry t) m.memory_commands i (Read b r w next) e) in
        let y = rw (ne_eqb s t (λ z. a (sym z))) at (weigh_push (command_weight m.geometry t) m.commands k) in let v = sh.weights t in
        omega arith);
  }

  pub memory_read_lifts : Lifted m x
      (close (carry_out (with_count (with_memory_commands m (without m.memory_commands i)) (home m b) (m.count (home m b) - 1)) (Read b r w next))
      (home m b))
  memory_read_lifts = subst (λ n. Lifted m x (close n s)) (sym done_is)
      (lifted_after m x done (added_after m x s o.job b r w next) (close done s) refl
      (record { kept = refl; geometry = refl; rows = refl; turn = refl })
      (close_lifts done (added_after m x s o.job b r w next) matches_done
      (read_inv m x inv s b r w next o.job o.progress o.source o.block o.cache o.way o.next) s (at_stage Sent o.job)
      (update_here x.progress s (Some (at_stage Sent o.job))) low
      (λ t n z. owed t (sym (update_there m.count s (m.count s - 1) t n) ∙ z))))
