-- A response is taken by the directory.
use Rattle.std.proofs.Common.{◌≡◌, ℕ, suc, ◌+◌, ◌-◌, ◌<◌, ◌≤◌, false, eqb, [], ◌∷◌, ◌++◌, map, Some, None, filter, Option, sym, refl, ap, ◌∙◌, subst, arith}
use Rattle.std.specs.List.{slice_get}
use Rattle.std.proofs.lemmas.Bool.{eq-eqb, ne_eqb, and_from}
use Rattle.bedrock.specs.declared.words.Words.{Words}
use Rattle.bedrock.specs.Geometries.{Sizes}
use Rattle.messages.specs.declared.response.Response.{Response}
use Rattle.messages.specs.declared.response.Response.TheVariants.{InvalidateAck, CoherenceAck, Writeback, NullWriteback}
use Rattle.messages.specs.declared.memory_command.MemoryCommand.{MemoryCommand}
use Rattle.messages.specs.declared.memory_command.MemoryCommand.TheVariants.{Write}
use Rattle.messages.specs.Messages.{response_cache, response_block}
use Rattle.wires.specs.Waiting.{without}
use Rattle.machine.specs.declared.holding.Entry.{Entry}
use Rattle.machine.specs.Machines.{Machine, home, one_more, with_count, with_responses, ask_memory}
use Rattle.machine.specs.Responses.{close, advance, take_response}
use Rattle.machine.proofs.Updates.{update, update₂, update_each, update₂_each, update_here, update_there}
use Rattle.machine.proofs.Keys.{taken_other, only_right, kept_push_no, kept_push_yes}
use Rattle.machine.proofs.Weights.{weigh, weigh_taken, weigh_push}
use Rattle.machine.proofs.Ghost.{Progress, To, From, Mailbox, Coming, Waiting, BlockAtMemory}
use Rattle.machine.proofs.Mailboxes.{GoodMailbox}
use Rattle.machine.proofs.Invariant.{Invariant}
use Rattle.machine.proofs.StepAnswer.{emptied, answer_keeps}
use Rattle.machine.proofs.StepMemoryWrite.{pass_on_keeps}
use Rattle.machine.proofs.Matches.{Added, ghost_of, mail_slot, pending_slot, to_mailbox, from_mailbox, at_block, writes_back, pending_of, pending_in, command_weight, response_weight, memory_weight, command_one, ack_owed, Left, Matches, slot_short, slot_from, pending_short, pending_is}
use Rattle.machine.proofs.Rooms.{one_more_is}
use Rattle.machine.proofs.Lifting.{other_key, block_pending}
use Rattle.machine.proofs.Lifted.{Owed, Lifted, lifted_after}
use Rattle.machine.proofs.Unguarded.{set_count, count_is}
use Rattle.machine.proofs.AlmostMatches.{AlmostMatches}
use Rattle.machine.proofs.AnswerTaken.{advance_lifts}

-- a set with an answer on its way has a transaction
answer_open : (h : Option Progress) (c : ℕ) (e : ℕ → Entry) (z : Mailbox) (r : Response) → z.mail ≡ From r → GoodMailbox h c e z
    → (k : Progress) × (h ≡ Some k)
answer_open None c e z r m ok = grind arith
answer_open (Some h) c e z r m ok = (h, refl)

-- ---- response r is at place i

module _ (m : Machine) (x : Added) (sh : Matches m x) (inv : Invariant (ghost_of m x)) (owed : Owed m) (i : ℕ) (r : Response)
    (e : slice_get m.responses i ≡ Some r) (low : home m (response_block r) < 16) (small : m.count (home m (response_block r)) ≤ 1000) where
  abbrev g : Sizes
  g = m.geometry

  abbrev s : ℕ
  s = home m (response_block r)

  abbrev fewer : ℕ → ℕ
  fewer = update m.count s (m.count s - 1)

  abbrev taken : Machine
  taken = set_count (with_responses m (without m.responses i)) s (m.count s - 1)

  abbrev after_taken : Added
  after_taken = record {
    mailbox = update₂ x.mailbox s (response_cache r) (emptied (x.mailbox s (response_cache r)));
    progress = x.progress;
    request = x.request;
    pending = x.pending;
    latest = x.latest;
  }

  -- it is its mailbox's mail
  there : ((x.mailbox s (response_cache r)).mail ≡ From r) × (filter (from_mailbox g s (response_cache r)) (without m.responses i) ≡ [])
      × (filter (to_mailbox g s (response_cache r)) m.commands ≡ [])
  there =
      let c : ℕ = response_cache r in
      let q = only_right To From (filter (to_mailbox g s c) m.commands) (from_mailbox g s c) m.responses i r
      (mail_slot (x.mailbox s c).mail) e (and_from (eqb s s) (eqb c c) (eq-eqb s s refl) (eq-eqb c c refl)) (sh.mails s c)
      (slot_short (x.mailbox s c).mail) in
      (slot_from (x.mailbox s c).mail r q.0, q.1, q.2)

  taken_mails : (t d : ℕ)
      → map To (filter (to_mailbox g t d) m.commands) ++ map From (filter (from_mailbox g t d) (without m.responses i))
      ≡ mail_slot (after_taken.mailbox t d).mail
  taken_mails = update₂_each
      (λ t d z. map To (filter (to_mailbox g t d) m.commands) ++ map From (filter (from_mailbox g t d) (without m.responses i))
      ≡ mail_slot z.mail) x.mailbox s (response_cache r) (emptied (x.mailbox s (response_cache r)))
      (rw (there.1, there.2) refl)
      (λ t d a. rw (taken_other (from_mailbox g t d) m.responses i r e (other_key s (response_cache r) t d a)) (sh.mails t d))

  taken_weights : (t : ℕ) → fewer t ≡ weigh (command_weight g t) m.commands + (weigh (response_weight g t) (without m.responses i)
      + (weigh (memory_weight g t) m.memory_commands + ack_owed (m.serving t)))
  taken_weights = update_each (λ t a. a ≡ weigh (command_weight g t) m.commands
      + (weigh (response_weight g t) (without m.responses i) + (weigh (memory_weight g t) m.memory_commands + ack_owed (m.serving t))))
      m.count s (m.count s - 1)
      (let u = rw (eq-eqb s s refl) at (weigh_taken (response_weight g s) m.responses i r e) in let v = sh.weights s in omega arith)
      (λ t k. let u = rw (ne_eqb s t (λ z. k (sym z))) at (weigh_taken (response_weight g t) m.responses i r e) in
      let v = sh.weights t in omega arith)

  taken_left : (t : ℕ) → (t ≡ s → ⊥)
      → Left (m.serving t) (weigh (command_one g t) m.commands + weigh (response_weight g t) (without m.responses i))
  taken_left t k =
      let u = rw (ne_eqb s t (λ z. k (sym z))) at (weigh_taken (response_weight g t) m.responses i r e) in
      let q : weigh (command_one g t) m.commands + weigh (response_weight g t) m.responses
      ≡ weigh (command_one g t) m.commands + weigh (response_weight g t) (without m.responses i) = omega arith in
      subst (Left (m.serving t)) q (sh.left t)

  left_here : Left (m.serving s)
      (suc (weigh (command_one g s) m.commands + weigh (response_weight g s) (without m.responses i)))
  left_here =
      let u = rw (eq-eqb s s refl) at (weigh_taken (response_weight g s) m.responses i r e) in
      let q : weigh (command_one g s) m.commands + weigh (response_weight g s) m.responses
      ≡ suc (weigh (command_one g s) m.commands + weigh (response_weight g s) (without m.responses i)) = omega arith in
      subst (Left (m.serving s)) q (sh.left s)

  opened : (k : Progress) × (x.progress s ≡ Some k)
  opened = answer_open (x.progress s) (response_cache r) (m.entry s (response_cache r)) (x.mailbox s (response_cache r)) r there.0
      (inv.mailboxes s (response_cache r))

  invariant_taken : Invariant (ghost_of m after_taken)
  invariant_taken = answer_keeps (ghost_of m x) inv s (response_cache r) r there.0

  owed_taken : (t : ℕ) → (t ≡ s → ⊥) → fewer t ≡ 0 → m.serving t ≡ None
  owed_taken t ne z = owed t (sym (update_there m.count s (m.count s - 1) t ne) ∙ z)

  -- an answer without words
  plain : ((b : ℕ) → writes_back b r ≡ false) → Lifted m x (close (advance taken s (m.serving s)) s)
  plain dry = lifted_after m x taken after_taken (close (advance taken s (m.serving s)) s) refl
      (record { kept = refl; geometry = refl; rows = refl; turn = refl })
      (advance_lifts taken after_taken s opened.0 (record {
        serving = sh.serving;
        requests = sh.requests;
        mails = taken_mails;
        pendings = λ b. rw (taken_other (writes_back b) m.responses i r e (dry b)) (sh.pendings b);
        weights = taken_weights;
        left = taken_left;
      })
      invariant_taken opened.1 left_here owed_taken low (rw (update_here m.count s (m.count s - 1)) (omega arith)) (m.serving s) refl)

  -- a Writeback goes on to the memory
  module _ (ws : Words) (wet : (b : ℕ) → writes_back b r ≡ eqb (response_block r) b) (brings : pending_in r ≡ Coming ws) where
    abbrev b : ℕ
    b = response_block r

    abbrev k : MemoryCommand
    k = Write (response_block r) ws

    abbrev passed : Machine
    passed = set_count (ask_memory taken k) s (fewer s + 1)

    abbrev after_passed : Added
    after_passed = record {
      mailbox = after_taken.mailbox;
      progress = x.progress;
      request = x.request;
      pending = update x.pending b (Waiting ws);
      latest = x.latest;
    }

    slot : (pending_slot (x.pending b) ≡ pending_in r ∷ []) × (filter (writes_back b) (without m.responses i) ≡ [])
        × (filter (at_block b) m.memory_commands ≡ [])
    slot = only_right pending_of pending_in (filter (at_block b) m.memory_commands) (writes_back b) m.responses i r (pending_slot (x.pending b)) e
        (wet b ∙ eq-eqb b b refl) (sh.pendings b) (pending_short (x.pending b))

    almost : AlmostMatches passed after_passed s
    almost = record {
      serving = sh.serving;
      requests = sh.requests;
      mails = taken_mails;
      pendings = update_each
          (λ a z. map pending_of (filter (at_block a) (m.memory_commands ++ k ∷ []))
          ++ map pending_in (filter (writes_back a) (without m.responses i))
          ≡ pending_slot z) x.pending b (Waiting ws)
          (rw (kept_push_yes (at_block b) m.memory_commands k (eq-eqb b b refl), slot.2, slot.1) refl)
          (λ a ne. rw (
            kept_push_no (at_block a) m.memory_commands k (ne_eqb b a (λ z. ne (sym z))),
            taken_other (writes_back a) m.responses i r e (wet a ∙ ne_eqb b a (λ z. ne (sym z))),
          ) (sh.pendings a));
      weights = update_each (λ t a. a ≡ weigh (command_weight g t) m.commands + (weigh (response_weight g t) (without m.responses i)
          + (weigh (memory_weight g t) (m.memory_commands ++ k ∷ []) + ack_owed (m.serving t)))) fewer s (fewer s + 1)
          (let u = rw (eq-eqb s s refl) at (weigh_push (memory_weight g s) m.memory_commands k) in let v = taken_weights s in omega arith)
          (λ t ne. let u = rw (ne_eqb s t (λ z. ne (sym z))) at (weigh_push (memory_weight g t) m.memory_commands k) in
          let v = taken_weights t in omega arith);
      left = taken_left;
    }

    invariant_passed : Invariant (ghost_of m after_passed)
    invariant_passed = subst (λ (blocks : ℕ → BlockAtMemory). Invariant (record {
      geometry = m.geometry;
      entry = m.entry;
      way = m.way;
      mailbox = after_taken.mailbox;
      progress = x.progress;
      waiter = λ c. record { kept = m.kept c; request = x.request c };
      at_memory = blocks;
    }))
        (block_pending m.memory x.pending x.latest b (Waiting ws))
        (pass_on_keeps (ghost_of m after_taken) invariant_taken b ws (pending_is (x.pending b) (Coming ws) (slot.0 ∙ ap (λ p. p ∷ []) brings)))

    with_words : Lifted m x (close (advance passed s (m.serving s)) s)
    with_words = lifted_after m x passed after_passed (close (advance passed s (m.serving s)) s) refl
        (record { kept = refl; geometry = refl; rows = refl; turn = refl })
        (advance_lifts passed after_passed s opened.0 almost invariant_passed opened.1 left_here
        (λ t ne z. owed_taken t ne (sym (update_there fewer s (fewer s + 1) t ne) ∙ z)) low
        (rw (update_here fewer s (fewer s + 1), update_here m.count s (m.count s - 1)) (omega arith)) (m.serving s) refl)

    -- the machine's own tables
    passed_is : with_count (ask_memory (with_count (with_responses m (without m.responses i)) s (m.count s - 1)) k) s
        (one_more ((with_count (with_responses m (without m.responses i)) s (m.count s - 1)).count s)) ≡ passed
    passed_is = ap (λ (n : Machine). with_count (ask_memory n k) s (one_more (n.count s)))
        (count_is (with_responses m (without m.responses i)) s (m.count s - 1) low)
        ∙ count_is (ask_memory taken k) s (one_more (fewer s)) low
        ∙ ap (set_count (ask_memory taken k) s) (one_more_is (fewer s) (rw (update_here m.count s (m.count s - 1)) (omega arith)))

  taken_is : with_count (with_responses m (without m.responses i)) s (m.count s - 1) ≡ taken
  taken_is = count_is (with_responses m (without m.responses i)) s (m.count s - 1) low

pub response_lifts : (m : Machine) (x : Added) → Matches m x → Invariant (ghost_of m x) → Owed m → (i : ℕ) (r : Response)
    → slice_get m.responses i ≡ Some r
    → home m (response_block r) < 16 → m.count (home m (response_block r)) ≤ 1000
    → Lifted m x (close (advance (take_response m i r) (home m (response_block r)) (m.serving (home m (response_block r)))) (home m (response_block r)))
response_lifts m x sh inv owed i (InvalidateAck c b) e low small =
    subst (λ n. Lifted m x (close (advance n (home m b) (m.serving (home m b))) (home m b)))
    (sym (taken_is m x sh inv owed i (InvalidateAck c b) e low small))
    (plain m x sh inv owed i (InvalidateAck c b) e low small (λ _. refl))
response_lifts m x sh inv owed i (CoherenceAck c b) e low small =
    subst (λ n. Lifted m x (close (advance n (home m b) (m.serving (home m b))) (home m b)))
    (sym (taken_is m x sh inv owed i (CoherenceAck c b) e low small))
    (plain m x sh inv owed i (CoherenceAck c b) e low small (λ _. refl))
response_lifts m x sh inv owed i (NullWriteback c b) e low small =
    subst (λ n. Lifted m x (close (advance n (home m b) (m.serving (home m b))) (home m b)))
    (sym (taken_is m x sh inv owed i (NullWriteback c b) e low small))
    (plain m x sh inv owed i (NullWriteback c b) e low small (λ _. refl))
response_lifts m x sh inv owed i (Writeback c b ws) e low small =
    subst (λ n. Lifted m x (close (advance n (home m b) (m.serving (home m b))) (home m b)))
    (sym (passed_is m x sh inv owed i (Writeback c b ws) e low small ws (λ _. refl) refl))
    (with_words m x sh inv owed i (Writeback c b ws) e low small ws (λ _. refl) refl)
