-- The machine delivers a Transfer.
use Rattle.std.proofs.Common.{◌≡◌, ℕ, ◌+◌, ◌≤◌, Bool, true, false, cond, eqb, List, [], ◌∷◌, ◌++◌, map, length, Some, filter, sym, refl, ap, ◌∙◌, subst, inl, inr, ⊎_elim, arith}
use Rattle.std.specs.List.{slice_get}
use Rattle.std.proofs.lemmas.Bool.{ne_eqb, cases_eq}
use Rattle.bedrock.specs.declared.words.Words.{Words}
use Rattle.bedrock.specs.declared.party.Party.TheVariants.{Cache}
use Rattle.protocols.specs.declared.state.State.{State}
use Rattle.protocols.specs.States.{held, dirty}
use Rattle.messages.specs.declared.command.Command.{Command}
use Rattle.messages.specs.declared.command.Command.TheVariants.{Transfer, SetTagData}
use Rattle.messages.specs.declared.response.Response.{Response}
use Rattle.messages.specs.Messages.{response_cache, response_block}
use Rattle.wires.specs.Waiting.{without}
use Rattle.machine.specs.declared.transaction.Source.TheVariants.{Owner}
use Rattle.machine.specs.declared.transaction.Job.{Job}
use Rattle.machine.specs.Holdings.{way_in, entry_in}
use Rattle.machine.specs.Machines.{Machine, home, with_way, with_commands, with_responses, command}
use Rattle.machine.specs.Commands.{given_back, obey}
use Rattle.machine.specs.Outcomes.{moved_on}
use Rattle.machine.specs.Runs.{Event, delivers}
use Rattle.machine.proofs.Updates.{update, update₂, update₃, update_each, update₂_there}
use Rattle.machine.proofs.Weights.{weigh, weigh_taken, weigh_push}
use Rattle.machine.proofs.Ghost.{Asked, Sent, at_stage, Mail, Nothing, To, From, Mailbox, Pending, Idle}
use Rattle.machine.proofs.Mailboxes.{NoCommand}
use Rattle.machine.proofs.Invariant.{OwnerLaw, GoodSource, GoodJob, Invariant}
use Rattle.machine.proofs.StateFacts.{owning_held, held_entry}
use Rattle.machine.proofs.MailFacts.{requestor_at}
use Rattle.machine.proofs.StepTransfer.{coming_back, transfer_keeps}
use Rattle.machine.proofs.Matches.{Added, ghost_of, to_mailbox, from_mailbox, mail_slot, at_block, writes_back, pending_of, pending_in, pending_slot, took_command, command_weight, response_weight, memory_weight, command_one, ack_owed, Left, SameProgress}
use Rattle.machine.proofs.Rooms.{taken_length, push_length}
use Rattle.machine.proofs.Reached.{Reached, Keeps}
use Rattle.machine.proofs.Lifting.{way_put, ghost_in, block_pending, update_id, update_twice, progress_on, left_two, answered_mails, sent_mails, taken_mails}
use Rattle.machine.proofs.LiftWriteback.{given_key, given_pendings}
use Rattle.machine.proofs.TransferFacts.{TransferFacts, transfer_facts}

-- the mailboxes of a set after its owner c answered with mail l and sent the words
abbrev owner_after : Mailbox → ℕ → State → ℕ → Mail → Mailbox
owner_after x w keeps b l = record { known = update x.known w (entry_in keeps b); mail = l }

abbrev requestor_after : Mailbox → ℕ → ℕ → ℕ → State → Words → ℕ → Mailbox
requestor_after x to b p next ws c = record { known = x.known; mail = To (SetTagData to b p next ws (Cache c)) }

abbrev added_after : Machine → Added → ℕ → Job → ℕ → ℕ → ℕ → ℕ → ℕ → State → State → Bool → Mail → Added
added_after m x s j c b w to p keeps next back l = record {
  mailbox = update x.mailbox s (update (update (x.mailbox s) c (owner_after (x.mailbox s c) w keeps b l)) to
      (requestor_after (x.mailbox s to) to b p next (m.way s c w).words c));
  progress = update x.progress s (Some (at_stage Sent j));
  request = x.request;
  pending = update x.pending b (coming_back back (dirty (m.way s c w).state) (m.way s c w).words);
  latest = x.latest;
}

transfer_inv : (m : Machine) (x : Added) → Invariant (ghost_of m x) → (s c b w to p : ℕ) (keeps next : State) (back : Bool) (l : Mail) → NoCommand l
    → (j : Job) (shown : State) → x.progress s ≡ Some (at_stage Asked j) → j.source ≡ Owner c w shown keeps back
    → b ≡ j.block → to ≡ j.requestor → p ≡ j.way → next ≡ j.next
    → Invariant (ghost_in m.geometry m.entry (update₃ m.way s c w (way_in keeps b (m.way s c w).words)) m.kept m.memory
    (added_after m x s j c b w to p keeps next back l))
transfer_inv m x inv s c b w to p keeps next back l answer j shown h src be te pe ne =
    rw (← block_pending m.memory x.pending x.latest b (coming_back back (dirty (m.way s c w).state) (m.way s c w).words))
    (rw (be, te, pe, ne) (transfer_keeps (ghost_of m x) inv s j c w shown keeps back l h src answer))

module _ (content : ℕ → Words) (m : Machine) (past : List Event) (x : Added) (r : Reached content m past x) (i c b w to p : ℕ)
    (keeps next : State) (back : Bool) (e : slice_get m.commands i ≡ Some (Transfer c b w to p keeps next back)) where
  abbrev s : ℕ
  s = home m b

  abbrev k : Command
  k = Transfer c b w to p keeps next back

  abbrev d : Command
  d = SetTagData to b p next (m.way (home m b) c w).words (Cache c)

  o : TransferFacts (x.progress s) c (x.mailbox s c) b w to p keeps next back
  o = transfer_facts (x.progress s) c (m.entry s c) (x.mailbox s c) c b w to p keeps next back
      (took_command m x r.matches i k e s c refl refl).0
      (r.inv.mailboxes s c)

  law : OwnerLaw o.job c w o.shown keeps back
  law = let ok : GoodJob m.geometry s (m.entry s) o.job = rw o.progress at (r.inv.jobs s) in
      subst (GoodSource o.job (m.entry s)) o.source ok.source

  quiet : (x.mailbox s to).mail ≡ Nothing
  quiet = ap (λ a. (x.mailbox s a).mail) o.requestor ∙ rw o.source at (requestor_at (ghost_of m x) r.inv s o.job Asked o.progress).2.1

  idle : x.pending b ≡ Idle
  idle = rw o.source at ((rw o.progress at (r.inv.pendings b)).0 o.block)

  known : held ((x.mailbox s c).known w).state ≡ true
  known = let h = owning_held o.shown law.owned in rw (o.known, (held_entry o.shown o.job.block h).0) h

  abbrev yo : Mail → Mailbox
  yo l = owner_after (x.mailbox (home m b) c) w keeps b l

  abbrev yr : Mailbox
  yr = requestor_after (x.mailbox (home m b) to) to b p next (m.way (home m b) c w).words c

  serving : SameProgress (m.serving s) (Some (at_stage Asked o.job))
  serving = rw o.progress at (r.matches.serving s)

  mails : (rs : List Response) (l : Mail) → ((t a : ℕ) → map To (filter (to_mailbox m.geometry t a) (without m.commands i))
      ++ map From (filter (from_mailbox m.geometry t a) rs) ≡ mail_slot (update₂ x.mailbox s c (yo l) t a).mail) → (t a : ℕ)
      → map To (filter (to_mailbox m.geometry t a) (without m.commands i ++ d ∷ [])) ++ map From (filter (from_mailbox m.geometry t a) rs)
      ≡ mail_slot (update x.mailbox s (update (update (x.mailbox s) c (yo l)) to yr) t a).mail
  mails rs l q t a = sent_mails m.geometry (without m.commands i) rs (update₂ x.mailbox s c (yo l)) q d
      (ap (λ z. z.mail) (update₂_there x.mailbox s c (yo l) s to (λ _ z. law.other (sym z ∙ o.requestor))) ∙ quiet) yr refl t a
      ∙ ap (λ (f : ℕ → ℕ → Mailbox). mail_slot (f t a).mail) (update_twice x.mailbox s c to (yo l) yr)

  left : (rs : List Response)
      → ((t : ℕ) → (t ≡ s → ⊥) → weigh (response_weight m.geometry t) rs ≡ weigh (response_weight m.geometry t) m.responses) → (t : ℕ)
      → Left (m.serving t) (weigh (command_one m.geometry t) (without m.commands i ++ d ∷ []) + weigh (response_weight m.geometry t) rs)
  left rs same t = ⊎_elim
      (λ z. rw z (left_two (m.serving s) o.job Asked (λ _ f. f) serving
      (weigh (command_one m.geometry s) (without m.commands i ++ d ∷ []) + weigh (response_weight m.geometry s) rs)))
      (λ a. let f = ne_eqb s t (λ z. a (sym z)) in
      let u = rw f at (weigh_taken (command_one m.geometry t) m.commands i k e) in
      let y = rw f at (weigh_push (command_one m.geometry t) (without m.commands i) d) in let g = same t a in
      let l : weigh (command_one m.geometry t) m.commands + weigh (response_weight m.geometry t) m.responses
      ≡ weigh (command_one m.geometry t) (without m.commands i ++ d ∷ []) + weigh (response_weight m.geometry t) rs = omega arith in
      subst (Left (m.serving t)) l (r.matches.left t)) (cases_eq t s)

  -- rs: the responses after it; l: what the owner answers
  transfer_lifts : (rs : List Response) (l : Mail) → NoCommand l → length rs ≤ 128
      → ((t a : ℕ) → map To (filter (to_mailbox m.geometry t a) (without m.commands i)) ++ map From (filter (from_mailbox m.geometry t a) rs)
      ≡ mail_slot (update₂ x.mailbox s c (yo l) t a).mail)
      → ((a : ℕ) → map pending_of (filter (at_block a) m.memory_commands) ++ map pending_in (filter (writes_back a) rs)
      ≡ pending_slot (update x.pending b (coming_back back (dirty (m.way s c w).state) (m.way s c w).words) a))
      → ((t : ℕ) → m.count t ≡ weigh (command_weight m.geometry t) (without m.commands i ++ d ∷ [])
      + (weigh (response_weight m.geometry t) rs + (weigh (memory_weight m.geometry t) m.memory_commands + ack_owed (m.serving t))))
      → ((t : ℕ) → (t ≡ s → ⊥) → weigh (response_weight m.geometry t) rs ≡ weigh (response_weight m.geometry t) m.responses)
      → Reached content (with_responses (command (with_way (with_commands m (without m.commands i)) s c w
      (way_in keeps b (m.way s c w).words)) d) rs)
      (record { call = delivers 1 i; says = moved_on } ∷ past) (added_after m x s o.job c b w to p keeps next back l)
  transfer_lifts rs l answer room q pendings weights same = record {
    bounds = r.bounds;
    lawful = r.lawful;
    owed = r.owed;
    words = r.words;
    orders = r.orders;
    turns = r.turns;
    matches = record {
      serving = update_each (λ t z. SameProgress (m.serving t) z) x.progress s (Some (at_stage Sent o.job))
          (progress_on (m.serving s) o.job Asked Sent (λ _ z. z) serving) (λ t _. r.matches.serving t);
      requests = r.matches.requests;
      mails = mails rs l q;
      pendings = pendings;
      weights = weights;
      left = left rs same;
    };
    inv = rw (way_put m r.bounds b c w (way_in keeps b (m.way s c w).words) (r.inv.copies_home s c w known).1
        (r.inv.copies_home s c w known).2)
        (transfer_inv m x r.inv s c b w to p keeps next back l answer o.job o.shown o.progress o.source o.block o.requestor
        o.way
        o.gets);
    rooms = record {
      requests = r.rooms.requests;
      responses = room;
      memory_commands = r.rooms.memory_commands;
      commands = let f = taken_length m.commands i k e in let g = push_length (without m.commands i) d in let z = r.rooms.commands in
          omega arith;
    };
  }

pub deliver_transfer : (content : ℕ → Words) (m : Machine) (past : List Event) (x : Added) → Reached content m past x → (i c b w to p : ℕ)
    (keeps next : State) (back : Bool) → slice_get m.commands i ≡ Some (Transfer c b w to p keeps next back)
    → length m.responses + cond back 1 0 ≤ 128
    → Keeps content m past (delivers 1 i) (obey (with_commands m (without m.commands i)) (Transfer c b w to p keeps next back))
deliver_transfer content m past x r i c b w to p keeps next true e free = (
  added_after m x (home m b) (o content m past x r i c b w to p keeps next true e).job c b w to p keeps next true (From a),
  transfer_lifts content m past x r i c b w to p keeps next true e (m.responses ++ a ∷ []) (From a) (inr (a, refl))
      (let h = push_length m.responses a in omega arith)
      (answered_mails m x r.matches i k e a key.0 key.1 (owner_after (x.mailbox (home m b) c) w keeps b (From a)) refl)
      (given_pendings m x r.matches c b (m.way (home m b) c w) (idle content m past x r i c b w to p keeps next true e))
      (λ t. weights t (eqb (home m b) t) refl)
      (λ t f. let y = rw (key.0, ne_eqb (home m b) t (λ z. f (sym z))) at (weigh_push (response_weight m.geometry t) m.responses a) in
      omega arith),
  tt,
)
  where
    a : Response
    a = given_back c b (m.way (home m b) c w)

    k : Command
    k = Transfer c b w to p keeps next true

    d : Command
    d = SetTagData to b p next (m.way (home m b) c w).words (Cache c)

    key : (response_block a ≡ b) × (response_cache a ≡ c)
    key = given_key c b (m.way (home m b) c w)

    weights : (t : ℕ) (f : Bool) → eqb (home m b) t ≡ f → m.count t ≡ weigh (command_weight m.geometry t) (without m.commands i ++ d ∷ [])
        + (weigh (response_weight m.geometry t) (m.responses ++ a ∷ [])
        + (weigh (memory_weight m.geometry t) m.memory_commands + ack_owed (m.serving t)))
    weights t true f = let h = r.matches.weights t in let u = rw f at (weigh_taken (command_weight m.geometry t) m.commands i k e) in
        let y = rw f at (weigh_push (command_weight m.geometry t) (without m.commands i) d) in
        let z = rw (key.0, f) at (weigh_push (response_weight m.geometry t) m.responses a) in omega arith
    weights t false f = let h = r.matches.weights t in let u = rw f at (weigh_taken (command_weight m.geometry t) m.commands i k e) in
        let y = rw f at (weigh_push (command_weight m.geometry t) (without m.commands i) d) in
        let z = rw (key.0, f) at (weigh_push (response_weight m.geometry t) m.responses a) in omega arith
deliver_transfer content m past x r i c b w to p keeps next false e free = (
  added_after m x (home m b) (o content m past x r i c b w to p keeps next false e).job c b w to p keeps next false Nothing,
  transfer_lifts content m past x r i c b w to p keeps next false e m.responses Nothing (inl refl) r.rooms.responses
      (taken_mails m x r.matches i k e (owner_after (x.mailbox (home m b) c) w keeps b Nothing) refl)
      (λ f. r.matches.pendings f ∙ ap (λ (g : ℕ → Pending). pending_slot (g f))
      (sym (update_id x.pending b Idle (sym (idle content m past x r i c b w to p keeps next false e)))))
      (λ t. let h = r.matches.weights t in let u = weigh_taken (command_weight m.geometry t) m.commands i k e in
      let y = weigh_push (command_weight m.geometry t) (without m.commands i) d in omega arith)
      (λ t f. refl),
  tt,
)
  where
    k : Command
    k = Transfer c b w to p keeps next false

    d : Command
    d = SetTagData to b p next (m.way (home m b) c w).words (Cache c)
