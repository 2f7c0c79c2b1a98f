-- A request is accepted by the directory.
use Rattle.std.proofs.Common.{◌≡◌, ℕ, ◌+◌, ◌<◌, ◌≤◌, Bool, true, false, cond, eqb, ◌⊎◌, List, [], ◌∷◌, ◌++◌, map, length, Some, None, filter, Option, sym, refl, ap, ◌∙◌, subst, inl, inr, arith}
use Rattle.std.specs.List.{slice_get}
use Rattle.std.proofs.lemmas.List.Elements.{filter-append}
use Rattle.std.proofs.lemmas.List.{append-nil}
use Rattle.std.proofs.lemmas.Bool.{cases_eq, ne_eqb}
use Rattle.bedrock.specs.Geometries.{Sizes, set_of}
use Rattle.protocols.specs.declared.state.State.{State}
use Rattle.protocols.specs.States.{held}
use Rattle.messages.specs.declared.request.Request.{Request}
use Rattle.messages.specs.declared.command.Command.{Command}
use Rattle.messages.specs.declared.command.Command.TheVariants.{Invalidate, SetStateWriteback, Transfer, SetTagData, SetStateWakeup}
use Rattle.wires.specs.Waiting.{without}
use Rattle.machine.specs.declared.transaction.Job.{Job}
use Rattle.machine.specs.declared.transaction.Round.TheVariants.{One, Two}
use Rattle.machine.specs.declared.transaction.Transaction.{Transaction}
use Rattle.machine.specs.Holdings.{is_write}
use Rattle.machine.specs.Machines.{Machine, home, with_requests, with_commands}
use Rattle.machine.specs.Acceptance.{job_for, first_round, dismiss, record_job, begin_two}
use Rattle.machine.proofs.Updates.{update, update_each, update_both, update_here, update_there}
use Rattle.machine.proofs.Keys.{taken_other}
use Rattle.machine.proofs.Weights.{weigh, weigh_append}
use Rattle.machine.proofs.Ranges.{Bounds, set_below, cache_below, way_below}
use Rattle.machine.proofs.RowLaws.{LawfulRow}
use Rattle.machine.proofs.Ghost.{Stage, Evicting, Clearing, Progress, at_stage, Nothing, To, From, Mailbox, Waiter, Idle}
use Rattle.machine.proofs.Invariant.{Invariant}
use Rattle.machine.proofs.StepAccept.{accept_keeps}
use Rattle.machine.proofs.Matches.{Added, ghost_of, mail_slot, request_slot, to_mailbox, from_mailbox, command_weight, response_weight, memory_weight, command_one, ack_owed, Left, InRound, SameProgress, Matches}
use Rattle.machine.proofs.Counts.{quiet_from_count, no_slot}
use Rattle.machine.proofs.Lifting.{both_none}
use Rattle.machine.proofs.Lifted.{Owed, Lifted}
use Rattle.machine.proofs.Unguarded.{enter, record_is, ask, begin, begin_is}
use Rattle.machine.proofs.AlmostMatches.{AlmostMatches, all_match}
use Rattle.machine.proofs.LiftRoundTwo.{after_round_one, begin_lifts, AskFrame, ask_frame}
use Rattle.machine.proofs.Planning.{in_range, planned, owner_in_range}
use Rattle.machine.proofs.RoundOne.{InSet, ones_here, ones_else, kept_else, own_command, first_mail, first_in, first_slot}
use Rattle.machine.proofs.RequestTaken.{took_request, served_by, waiter_request}
use Rattle.machine.proofs.FirstMail.{OwnPart, own_mailbox, own_part, others_part}

-- a command has at least one answer
lighter : (n : Sizes) (s : ℕ) (xs : List Command) → weigh (command_one n s) xs ≤ weigh (command_weight n s) xs
lighter n s [] = omega arith
lighter n s (k ∷ ks) = let h = lighter n s ks in let u = one k in omega arith
  where
    one : (k : Command) → command_one n s k ≤ command_weight n s k
    one (Invalidate c b w) = omega arith
    one (SetStateWriteback c b w) = omega arith
    one (Transfer c b w r place next given writeback) = go (eqb (set_of n b) s) writeback
      where
        go : (t u : Bool) → cond {A = ℕ} t 1 0 ≤ cond {A = ℕ} t (cond {A = ℕ} u 2 1) 0
        go true true = omega arith
        go true false = omega arith
        go false u = omega arith
    one (SetTagData c b w next ws sender) = omega arith
    one (SetStateWakeup c b w) = omega arith

front_none : {A : Type 0} (xs ys : List A) → xs ++ ys ≡ [] → xs ≡ []
front_none [] ys e = refl
front_none (x ∷ xs) ys e = cc

one_in_round : (st : Stage) (n : ℕ) → (st ≡ Evicting) ⊎ (st ≡ Clearing) → InRound st (One n)
one_in_round st n (inl e) = rw e (n, refl)
one_in_round st n (inr e) = rw e (n, refl)

-- Request q is at place i, and the count of its set is 0.
module _ (m : Machine) (x : Added) (sh : Matches m x) (inv : Invariant (ghost_of m x)) (owed : Owed m)
    (lawful : (st : State) → LawfulRow st (m.rows st))
    (i : ℕ) (q : Request) (e : slice_get m.requests i ≡ Some q) (free : m.count (home m q.block) ≡ 0) where
  abbrev g : Sizes
  g = m.geometry

  abbrev s : ℕ
  s = home m q.block

  abbrev j : Job
  j = job_for m q

  asked : x.request q.cache ≡ Some q
  asked = (took_request m x sh i q e).0

  idle : x.progress s ≡ None
  idle = go (x.progress s) refl (rw (owed s free) at (sh.serving s))
    where
      go : (z : Option Progress) → x.progress s ≡ z → SameProgress None z → x.progress s ≡ None
      go None k a = k
      go (Some h) k a = absurd a

  quiet : ((c : ℕ) → (x.mailbox s c).mail ≡ Nothing) × ((b : ℕ) → set_of g b ≡ s → x.pending b ≡ Idle) × (ack_owed (m.serving s) ≡ 0)
  quiet = quiet_from_count m x sh s free

  own : OwnPart m x q (own_command m q)
  own = own_part m x inv lawful q idle asked

  room : (q.cache < g.caches) × (q.way < g.ways) × (q.block < g.blocks)
  room = inv.ranges q.cache q asked

  abbrev mailboxes_now : ℕ → Mailbox
  mailboxes_now c = record { known = (x.mailbox s c).known; mail = first_mail m q c }

  abbrev after_accept : Added
  after_accept = record {
    mailbox = update x.mailbox s mailboxes_now;
    progress = update x.progress s (Some (at_stage own.stage j));
    request = update x.request q.cache None;
    pending = x.pending;
    latest = x.latest;
  }

  abbrev asking : Machine
  asking = with_requests m (without m.requests i)

  -- round one is fr, and the list of commands is then cs
  abbrev accepted : List Command → List Command → Machine
  accepted fr cs = with_commands (enter asking j (length fr)) cs

  invariant_accepted : (fr cs : List Command) → Invariant (ghost_of (accepted fr cs) after_accept)
  invariant_accepted fr cs = subst (λ (ds : ℕ → Waiter). Invariant (record {
    geometry = m.geometry;
    entry = (accepted fr cs).entry;
    way = m.way;
    mailbox = after_accept.mailbox;
    progress = after_accept.progress;
    waiter = ds;
    at_memory = (ghost_of m x).at_memory;
  }))
      (waiter_request m.kept x.request q.cache)
      (accept_keeps (ghost_of m x) inv s j own.stage (first_mail m q) idle (planned m x inv lawful q idle asked) own.round_one
      (served_by (ghost_of m x) inv q j asked refl refl) (own_mailbox m x q own) (others_part m x inv lawful q idle asked) quiet.1 room)

  sum : 0 ≡ weigh (command_weight g s) m.commands + (weigh (response_weight g s) m.responses
      + (weigh (memory_weight g s) m.memory_commands + ack_owed (m.serving s)))
  sum = sym free ∙ sh.weights s

  homed : held (m.entry s q.cache q.way).state ≡ true → set_of g (m.entry s q.cache q.way).block ≡ s
  homed h = (inv.entries_home s q.cache q.way h).0

  inside : InSet g s (first_round m q)
  inside = first_in m q (in_range m x inv lawful q idle asked) homed

  mail_slot_holds : (c : ℕ) → map To (filter (to_mailbox g s c) (first_round m q)) ≡ mail_slot (first_mail m q c)
  mail_slot_holds = first_slot m q (in_range m x inv lawful q idle asked) homed

  almost : (fr cs : List Command) → first_round m q ≡ fr → cs ≡ m.commands ++ fr → AlmostMatches (accepted fr cs) after_accept s
  almost fr cs fi ci = record {
    serving = update_both (λ t a b. SameProgress a b) m.serving x.progress s (Some (record { job = j; round = One (length fr) }))
        (Some (at_stage own.stage j)) (refl, one_in_round own.stage (length fr) own.round_one) (λ t _. sh.serving t);
    requests = update_each (λ c z. filter (λ (a : Request). eqb a.cache c) (without m.requests i) ≡ request_slot z) x.request
        q.cache None
        (took_request m x sh i q e).1
        (λ c n. taken_other (λ (a : Request). eqb a.cache c) m.requests i q e (ne_eqb q.cache c (λ k. n (sym k))) ∙ sh.requests c);
    mails = update_each (λ t f. (c : ℕ) → map To (filter (to_mailbox g t c) cs)
        ++ map From (filter (from_mailbox g t c) m.responses) ≡ mail_slot (f c).mail) x.mailbox s mailboxes_now
        (λ c. let z = both_none To From (filter (to_mailbox g s c) m.commands) (filter (from_mailbox g s c) m.responses)
        (rw (quiet.0 c) at (sh.mails s c)) in
        rw (kept_all s c, z.0, z.1) (append-nil (map To (filter (to_mailbox g s c) (first_round m q))) ∙ mail_slot_holds c))
        (λ t ne c. rw (kept_all t c, kept_else g s t c ne (first_round m q) inside, append-nil (filter (to_mailbox g t c) m.commands))
        (sh.mails t c));
    pendings = sh.pendings;
    weights = update_both (λ t a z. a ≡ weigh (command_weight g t) cs + (weigh (response_weight g t) m.responses
        + (weigh (memory_weight g t) m.memory_commands + ack_owed z)))
        m.count m.serving s (1 + length fr) (Some (record { job = j; round = One (length fr) }))
        (let u = weigh_all (command_weight g s) in let o = (ones_here g s (first_round m q) inside).1 in
        let l = ap length fi in let v = sum in omega arith)
        (λ t ne. let u = weigh_all (command_weight g t) in let o = (ones_else g s t ne (first_round m q) inside).1 in
        let v = sh.weights t in omega arith);
    left = λ t ne. let u = weigh_all (command_one g t) in let o = (ones_else g s t ne (first_round m q) inside).0 in
        let k : weigh (command_one g t) m.commands + weigh (response_weight g t) m.responses
        ≡ weigh (command_one g t) cs + weigh (response_weight g t) m.responses = omega arith in
        rw (update_there m.serving s (Some (record { job = j; round = One (length fr) })) t ne) (subst (Left (m.serving t)) k (sh.left t));
  }
    where
      all : cs ≡ m.commands ++ first_round m q
      all = ci ∙ ap (λ z. m.commands ++ z) (sym fi)

      kept_all : (t c : ℕ) → filter (to_mailbox g t c) cs
          ≡ filter (to_mailbox g t c) m.commands ++ filter (to_mailbox g t c) (first_round m q)
      kept_all t c = ap (filter (to_mailbox g t c)) all ∙ filter-append (to_mailbox g t c) m.commands (first_round m q)

      weigh_all : (f : Command → ℕ) → weigh f cs ≡ weigh f m.commands + weigh f (first_round m q)
      weigh_all f = ap (weigh f) all ∙ weigh_append f m.commands (first_round m q)

  -- round one has commands
  sends : (k : Command) (ks : List Command) → first_round m q ≡ k ∷ ks → Lifted m x (accepted (k ∷ ks) (m.commands ++ k ∷ ks))
  sends k ks fi = record {
    added = after_accept;
    matches = all_match (accepted (k ∷ ks) (m.commands ++ k ∷ ks)) after_accept s
        (almost (k ∷ ks) (m.commands ++ k ∷ ks) fi refl) here;
    invariant = invariant_accepted (k ∷ ks) (m.commands ++ k ∷ ks);
    owed = update_both (λ t a z. a ≡ 0 → z ≡ None) m.count m.serving s (1 + length (k ∷ ks)) (Some now) (λ z. absurd (some_owed z))
        (λ t _. owed t);
    latest = refl;
    kept = refl;
    geometry = refl;
    rows = refl;
    turn = refl;
  }
    where
      now : Transaction
      now = record { job = j; round = One (length (k ∷ ks)) }

      some_owed : 1 + length (k ∷ ks) ≡ 0 → ⊥
      some_owed z = omega arith

      here : Left (update m.serving s (Some now) s)
          (weigh (command_one g s) (m.commands ++ k ∷ ks) + weigh (response_weight g s) m.responses)
      here = rw (update_here m.serving s (Some now))
          (let u = weigh_append (command_one g s) m.commands (k ∷ ks) in
          let o : weigh (command_one g s) (k ∷ ks) ≡ length (k ∷ ks) = rw fi at (ones_here g s (first_round m q) inside).0 in
          let l = lighter g s m.commands in let v = sum in (omega arith, omega arith))

  -- round one has none: round two begins at once
  begins : first_round m q ≡ [] → Lifted m x (begin (enter asking j 0) j)
  begins fi = record {
    added = after_round_one after_accept s j;
    matches = b.0;
    invariant = b.1;
    owed = λ t z. owes t (cases_eq t s) z;
    latest = refl;
    kept = f.frame.kept;
    geometry = f.frame.geometry;
    rows = f.frame.rows;
    turn = f.frame.turn;
  }
    where
      n : Machine
      n = accepted [] m.commands

      quiet_mail : (c : ℕ) → (after_accept.mailbox s c).mail ≡ Nothing
      quiet_mail c = rw (update_here x.mailbox s mailboxes_now) (no_slot (first_mail m q c) (rw fi at (mail_slot_holds c)))

      clear : own.stage ≡ Clearing
      clear = own.no_eviction (front_none (own_command m q) (cond (is_write q.access) (dismiss m q.cache q.block g.caches) []) fi)

      b : Matches (begin n j) (after_round_one after_accept s j) × Invariant (ghost_of (begin n j) (after_round_one after_accept s j))
      b = begin_lifts n after_accept j (almost [] m.commands fi (sym (append-nil m.commands))) (invariant_accepted [] m.commands)
          (update_here x.progress s (Some (at_stage own.stage j)) ∙ ap (λ (z : Stage). Some (at_stage z j)) clear)
          (rw (update_here m.serving s (Some (record { job = j; round = One 0 }))) refl) quiet_mail

      f : AskFrame n j (ask n j j.source)
      f = ask_frame n j j.source

      owes : (t : ℕ) → (t ≡ s) ⊎ (t ≡ s → ⊥) → (begin n j).count t ≡ 0 → (begin n j).serving t ≡ None
      owes t (inl p) z = absurd (some_owed f.more (rw p at z) (update_here m.count s (1 + 0)))
        where
          some_owed : n.count s ≤ (ask n j j.source).count s → (ask n j j.source).count s ≡ 0 → n.count s ≡ 1 → ⊥
          some_owed a b c = omega arith
      owes t (inr ne) z = update_there (ask n j j.source).serving s (Some (record { job = j; round = Two })) t ne ∙ ap (λ h. h t) f.serving
          ∙ update_there m.serving s (Some (record { job = j; round = One 0 })) t ne
          ∙ owed t (sym (f.counts t ne ∙ update_there m.count s (1 + 0) t ne) ∙ z)

  -- ---- with the machine's own tables

  module _ (bounds : Bounds g) where
    entered : (n : ℕ) → record_job asking j n ≡ enter asking j n
    entered n = record_is asking j n (set_below g bounds q.block) (cache_below g bounds q.cache room.0)
        (way_below g bounds q.way room.1) (owner_in_range m x inv lawful q idle asked bounds)

    pub accept_sends : (k : Command) (ks : List Command) → first_round m q ≡ k ∷ ks
        → Lifted m x (with_commands (record_job asking j (length (k ∷ ks))) ((record_job asking j (length (k ∷ ks))).commands ++ k ∷ ks))
    accept_sends k ks fi = subst (λ (n : Machine). Lifted m x (with_commands n (n.commands ++ k ∷ ks))) (sym (entered (length (k ∷ ks))))
        (sends k ks fi)

    pub accept_begins : first_round m q ≡ [] → Lifted m x (begin_two (record_job asking j 0) j)
    accept_begins fi = subst (Lifted m x) (sym (ap (λ (n : Machine). begin_two n j) (entered 0)
        ∙ begin_is (enter asking j 0) j (set_below g bounds q.block) (rw (update_here m.count s (1 + 0)) (omega arith)))) (begins fi)
