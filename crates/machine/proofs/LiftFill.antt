-- The requestor is filled: the order that it kept is carried out.
use Rattle.std.proofs.Common.{◌≡◌, ℕ, ◌<◌, true, false, cond, ◌&&◌, eqb, List, length, Some, None, Option, sym, refl, ap, ◌∙◌, subst, arith}
use Rattle.std.specs.List.{slice_get}
use Rattle.std.proofs.lemmas.Bool.{eq-eqb, ne_eqb}
use Rattle.bedrock.specs.declared.words.Words.{Words}
use Rattle.bedrock.specs.BlockWords.{word_of, with_word}
use Rattle.protocols.specs.declared.state.State.{State}
use Rattle.protocols.specs.declared.state.State.TheVariants.{M}
use Rattle.messages.specs.declared.command.Command.{Command}
use Rattle.messages.specs.declared.response.Response.{Response}
use Rattle.messages.specs.declared.response.Response.TheVariants.{CoherenceAck}
use Rattle.messages.specs.Messages.{command_cache, command_block}
use Rattle.wires.specs.Waiting.{without}
use Rattle.machine.specs.declared.holding.Way.{Way}
use Rattle.machine.specs.declared.order.Order.{Order}
use Rattle.machine.specs.declared.order.Order.TheVariants.{Load, Store}
use Rattle.machine.specs.declared.transaction.Job.{Job}
use Rattle.machine.specs.declared.transaction.Round.{Round}
use Rattle.machine.specs.declared.transaction.Round.TheVariants.{Two}
use Rattle.machine.specs.Tables.{put}
use Rattle.machine.specs.Holdings.{way_in, entry_in, block_of, word_asked, access_of, is_write}
use Rattle.machine.specs.Machines.{Machine, home, with_way, with_kept, with_commands, respond}
use Rattle.machine.specs.Commands.{fill_for, fill}
use Rattle.machine.specs.Runs.{Event, delivers}
use Rattle.machine.specs.Coherence.{latest, waiting_order}
use Rattle.machine.proofs.Updates.{update, update₂, update₃, update_each}
use Rattle.machine.proofs.Keys.{kept_push_no}
use Rattle.machine.proofs.Ghost.{Stage, Filled, at_stage, From}
use Rattle.machine.proofs.Invariant.{Served, Invariant}
use Rattle.machine.proofs.MailFacts.{job_range}
use Rattle.machine.proofs.Filling.{after_fill}
use Rattle.machine.proofs.Matches.{Added, ghost_of, Matches, writes_back, command_weight, command_one, SameProgress, InRound}
use Rattle.machine.proofs.Rooms.{Rooms, taken_length, push_length}
use Rattle.machine.proofs.Reached.{Reached, Keeps}
use Rattle.machine.proofs.Lifting.{way_put, cache_put, ghost_in, update_id, block_latest, waiter_done, progress_on, answered_mails, answered_weights, answered_left}
use Rattle.machine.proofs.LiftHit.{word_replaced}

abbrev added_after_fill : Added → ℕ → Job → ℕ → ℕ → ℕ → Words → Added
added_after_fill x s j c b w us = record {
  mailbox = update₂ x.mailbox s c (record { known = update (x.mailbox s c).known w (entry_in j.next b); mail = From (CoherenceAck c b) });
  progress = update x.progress s (Some (at_stage Filled j));
  request = x.request;
  pending = x.pending;
  latest = update x.latest b us;
}

abbrev machine_after_fill : Machine → ℕ → ℕ → ℕ → ℕ → Way → Machine
machine_after_fill m i c b w v = with_way (respond (with_kept (with_commands m (without m.commands i)) c None) (CoherenceAck c b)) (home m b) c w v

fill_inv : (m : Machine) (x : Added) (s c b w : ℕ) (j : Job) (us : Words) (v : Way) → c ≡ j.requestor → b ≡ j.block → w ≡ j.way
    → v ≡ way_in j.next j.block us → x.request c ≡ None → Invariant (after_fill (ghost_of m x) s j us)
    → Invariant (ghost_in m.geometry m.entry (update₃ m.way s c w v) (update m.kept c None) m.memory (added_after_fill x s j c b w us))
fill_inv m x s c b w j us v ce be we ve silent q =
    rw (← block_latest m.memory x.pending x.latest b us, ← waiter_done m.kept x.request c silent) (rw (ce, be, we, ve) q)

-- what arrives for the requestor: a command k to fill its way w, when the set is at a stage st of round two
module _ (content : ℕ → Words) (m : Machine) (past : List Event) (x : Added) (r : Reached content m past x) (i : ℕ) (k : Command)
    (e : slice_get m.commands i ≡ Some k) (free : length m.responses < 128)
    (one : (t : ℕ) → command_weight m.geometry t k ≡ command_one m.geometry t k) (w : ℕ) (j : Job) (st : Stage)
    (on : (z : Round) → InRound st z → z ≡ Two) (h : x.progress (home m (command_block k)) ≡ Some (at_stage st j))
    (ce : command_cache k ≡ j.requestor) (be : command_block k ≡ j.block) (we : w ≡ j.way)
    (served : Served j (record { kept = m.kept (command_cache k); request = x.request (command_cache k) })) where
  fill_matches : (us : Words) (v : Way)
      → Matches (machine_after_fill m i (command_cache k) (command_block k) w v)
      (added_after_fill x (home m (command_block k)) j (command_cache k) (command_block k) w us)
  fill_matches us v = record {
    serving = update_each (λ t z. SameProgress (m.serving t) z) x.progress s (Some (at_stage Filled j))
        (progress_on (m.serving s) j st Filled on (rw h at (r.matches.serving s))) (λ t _. r.matches.serving t);
    requests = r.matches.requests;
    mails = answered_mails m x r.matches i k e a refl refl
        (record { known = update (x.mailbox s (command_cache k)).known w (entry_in j.next (command_block k)); mail = From a }) refl;
    pendings = λ d. rw (kept_push_no (writes_back d) m.responses a refl) (r.matches.pendings d);
    weights = λ t. answered_weights m x r.matches i k e a refl refl t (one t);
    left = answered_left m x r.matches i k e a refl refl;
  }
    where
      s : ℕ
      s = home m (command_block k)

      a : Response
      a = CoherenceAck (command_cache k) (command_block k)

  fill_rooms : (v : Way) → Rooms (machine_after_fill m i (command_cache k) (command_block k) w v)
  fill_rooms v = record {
    requests = r.rooms.requests;
    memory_commands = r.rooms.memory_commands;
    commands = let q = taken_length m.commands i k e in let l = r.rooms.commands in omega arith;
    responses = let q = push_length m.responses (CoherenceAck (command_cache k) (command_block k)) in omega arith;
  }

  -- next and ws: what the way gets, the words being the latest
  module _ (next : State) (ws : Words) (now : ws ≡ x.latest (command_block k)) (writes : is_write j.access ≡ true → j.next ≡ M)
      (loads : is_write j.access ≡ false → next ≡ j.next)
      (load_inv : is_write j.access ≡ false → Invariant (after_fill (ghost_of m x) (home m (command_block k)) j ws))
      (store_inv : (us : Words) → is_write j.access ≡ true → Invariant (after_fill (ghost_of m x) (home m (command_block k)) j us)) where
    range : (command_cache k < m.geometry.caches) × (w < m.geometry.ways)
    range = let q = job_range (ghost_of m x) r.inv (home m (command_block k)) j st h in (rw ce q.0, rw we q.1)

    kept_is : put 8 m.kept (command_cache k) None ≡ update m.kept (command_cache k) None
    kept_is = cache_put m r.bounds m.kept (command_cache k) None range.0

    abbrev OrderAfter : ℕ → Option Order → Type 0
    OrderAfter a z = (cond (eqb (command_cache k) a) None (waiting_order a past) ≡ z) × ((o : Order) → z ≡ Some o → word_asked o < 2)

    kept_after : (a : ℕ) → OrderAfter a (put 8 m.kept (command_cache k) None a)
    kept_after = subst (λ f. (a : ℕ) → OrderAfter a (f a)) (sym kept_is) (update_each OrderAfter m.kept (command_cache k) None
        (rw (eq-eqb (command_cache k) (command_cache k) refl) refl, λ o q. grind arith)
        (λ a n. rw (ne_eqb (command_cache k) a (λ z. n (sym z))) (r.orders a)))

    fill_good : (us : Words) (v : Way) → v ≡ way_in j.next j.block us → Invariant (after_fill (ghost_of m x) (home m (command_block k)) j us)
        → Invariant (ghost_of (machine_after_fill m i (command_cache k) (command_block k) w v)
        (added_after_fill x (home m (command_block k)) j (command_cache k) (command_block k) w us))
    fill_good us v ve q = rw (way_put m r.bounds (command_block k) (command_cache k) w v range.0 range.1)
        (subst (λ f. Invariant (ghost_in m.geometry m.entry (update₃ m.way (home m (command_block k)) (command_cache k) w v) f m.memory
        (added_after_fill x (home m (command_block k)) j (command_cache k) (command_block k) w us))) (sym kept_is)
        (fill_inv m x (home m (command_block k)) (command_cache k) (command_block k) w j us v ce be we ve served.no_request q))

    fill_order : (o : Order) → m.kept (command_cache k) ≡ Some o → block_of o ≡ j.block → access_of o ≡ j.access
        → Keeps content m past (delivers 1 i) (fill_for (with_commands m (without m.commands i)) (command_cache k) (command_block k) w next ws
        (Some o))
    fill_order (Load d l) ko bo ao =
        let c = command_cache k in let b = command_block k in
        let reads : is_write j.access ≡ false = ap is_write (sym ao) in
        let q : (waiting_order c past ≡ Some (Load d l)) × (l < 2) = ((r.orders c).0 ∙ ko, (r.orders c).1 (Load d l) ko) in (
          added_after_fill x (home m (command_block k)) j c b w ws,
          record {
            bounds = r.bounds;
            lawful = r.lawful;
            owed = r.owed;
            orders = kept_after;
            turns = r.turns;
            matches = fill_matches ws (way_in next d ws);
            inv = fill_good ws (way_in next d ws) (rw (loads reads, bo) refl) (load_inv reads);
            rooms = fill_rooms (way_in next d ws);
            words = λ a n small. ap (λ (f : ℕ → Words). word_of (f a) n) (update_id x.latest b ws now) ∙ r.words a n small;
          },
          (d, l, q.0, ap (λ z. word_of z l) (now ∙ ap x.latest (be ∙ sym bo)) ∙ r.words d l q.1),
        )
    fill_order (Store d l v) ko bo ao =
        let c = command_cache k in let b = command_block k in
        let stores : is_write j.access ≡ true = ap is_write (sym ao) in
        let q : (waiting_order c past ≡ Some (Store d l v)) × (l < 2) = ((r.orders c).0 ∙ ko, (r.orders c).1 (Store d l v) ko) in
        let db : d ≡ b = bo ∙ sym be in
        let us : Words = with_word ws l v in (
          added_after_fill x (home m (command_block k)) j c b w us,
          record {
            bounds = r.bounds;
            lawful = r.lawful;
            owed = r.owed;
            orders = kept_after;
            turns = r.turns;
            matches = fill_matches us (way_in M d us);
            inv = fill_good us (way_in M d us) (rw (writes stores, bo) refl) (store_inv us stores);
            rooms = fill_rooms (way_in M d us);
            words = λ a n small. rw q.0 (update_each (λ a z. word_of z n ≡ cond (eqb d a && eqb l n) v (latest content past a n)) x.latest b us
                (word_replaced ws l v n q.1 small
                ∙ rw (eq-eqb d b db) (ap (λ z. cond (eqb l n) v z) (ap (λ z. word_of z n) now ∙ r.words b n small)))
                (λ a f. r.words a n small ∙ rw (ne_eqb d a (λ z. f (sym z ∙ db))) refl) a);
          },
          (d, l, q.0),
        )

    pub fill_lifts : Keeps content m past (delivers 1 i) (fill (with_commands m (without m.commands i)) (command_cache k) (command_block k) w next ws)
    fill_lifts = subst (λ o. Keeps content m past (delivers 1 i)
        (fill_for (with_commands m (without m.commands i)) (command_cache k) (command_block k) w next ws o)) (sym served.kept)
        (fill_order served.order served.kept served.block served.access)
