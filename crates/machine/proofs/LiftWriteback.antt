-- The machine delivers a Set State with Writeback.
use Rattle.std.proofs.Common.{◌≡◌, ℕ, ◌<◌, Bool, true, false, cond, List, [], ◌∷◌, ◌++◌, map, length, Some, filter, sym, refl, arith}
use Rattle.std.specs.List.{slice_get}
use Rattle.std.proofs.lemmas.Bool.{eq-eqb, ne_eqb}
use Rattle.bedrock.specs.declared.words.Words.{Words}
use Rattle.protocols.specs.States.{held, dirty}
use Rattle.messages.specs.declared.command.Command.{Command}
use Rattle.messages.specs.declared.command.Command.TheVariants.{SetStateWriteback}
use Rattle.messages.specs.declared.response.Response.{Response}
use Rattle.messages.specs.declared.response.Response.TheVariants.{Writeback, NullWriteback}
use Rattle.messages.specs.declared.memory_command.MemoryCommand.{MemoryCommand}
use Rattle.messages.specs.Messages.{response_cache, response_block}
use Rattle.wires.specs.Waiting.{without}
use Rattle.machine.specs.declared.holding.Way.{Way}
use Rattle.machine.specs.declared.transaction.Job.{Job}
use Rattle.machine.specs.Holdings.{no_way}
use Rattle.machine.specs.Machines.{Machine, home, with_commands}
use Rattle.machine.specs.Commands.{given_back, obey}
use Rattle.machine.specs.Runs.{Event, delivers}
use Rattle.machine.proofs.Updates.{update, update₂, update₃, update_each}
use Rattle.machine.proofs.Keys.{kept_push_no, kept_push_yes}
use Rattle.machine.proofs.Ghost.{Evicting, Clearing, at_stage, Idle}
use Rattle.machine.proofs.Invariant.{Invariant}
use Rattle.machine.proofs.MailFacts.{requestor_is}
use Rattle.machine.proofs.StepInvalidate.{dropped_mailbox}
use Rattle.machine.proofs.StepWriteback.{WritebackFacts, writeback_facts, coming_if, writeback_keeps}
use Rattle.machine.proofs.Matches.{Added, ghost_of, Matches, at_block, writes_back, pending_of, pending_in, pending_slot, took_command, SameProgress}
use Rattle.machine.proofs.Rooms.{taken_length, push_length}
use Rattle.machine.proofs.Reached.{Reached, Keeps}
use Rattle.machine.proofs.Lifting.{way_put, ghost_in, both_none, block_pending, progress_on, answered_mails, answered_weights, answered_left}

-- ---- what is given back: it is of its cache and block, and it is pending if it has words

back_key : (t : Bool) (c b : ℕ) (ws : Words)
    → (response_block (cond t (Writeback c b ws) (NullWriteback c b)) ≡ b) × (response_cache (cond t (Writeback c b ws) (NullWriteback c b)) ≡ c)
back_key true c b ws = (refl, refl)
back_key false c b ws = (refl, refl)

pub given_key : (c b : ℕ) (v : Way) → (response_block (given_back c b v) ≡ b) × (response_cache (given_back c b v) ≡ c)
given_key c b v = back_key (dirty v.state) c b v.words

back_pending : (ms : List MemoryCommand) (rs : List Response) (b c : ℕ) (ws : Words) → filter (at_block b) ms ≡ [] → filter (writes_back b) rs ≡ []
    → (t : Bool) → map pending_of (filter (at_block b) ms)
    ++ map pending_in (filter (writes_back b) (rs ++ cond t (Writeback c b ws) (NullWriteback c b) ∷ [])) ≡ pending_slot (coming_if t ws)
back_pending ms rs b c ws p q true = rw (p, kept_push_yes (writes_back b) rs (Writeback c b ws) (eq-eqb b b refl), q) refl
back_pending ms rs b c ws p q false = rw (p, kept_push_no (writes_back b) rs (NullWriteback c b) refl, q) refl

back_other : (b d c : ℕ) (ws : Words) → (d ≡ b → ⊥) → (t : Bool) → writes_back d (cond t (Writeback c b ws) (NullWriteback c b)) ≡ false
back_other b d c ws n true = ne_eqb b d (λ z. n (sym z))
back_other b d c ws n false = refl

-- a block with nothing pending gets back what a way has
pub given_pendings : (m : Machine) (x : Added) → Matches m x → (c b : ℕ) (v : Way) → x.pending b ≡ Idle → (d : ℕ)
    → map pending_of (filter (at_block d) m.memory_commands) ++ map pending_in (filter (writes_back d) (m.responses ++ given_back c b v ∷ []))
    ≡ pending_slot (update x.pending b (coming_if (dirty v.state) v.words) d)
given_pendings m x ok c b v idle = update_each
    (λ d z. map pending_of (filter (at_block d) m.memory_commands) ++ map pending_in (filter (writes_back d) (m.responses ++ given_back c b v ∷ []))
    ≡ pending_slot z) x.pending b (coming_if (dirty v.state) v.words)
    (back_pending m.memory_commands m.responses b c v.words none.0 none.1 (dirty v.state))
    (λ d n. rw (kept_push_no (writes_back d) m.responses (given_back c b v) (back_other b d c v.words n (dirty v.state))) (ok.pendings d))
  where
    none : (filter (at_block b) m.memory_commands ≡ []) × (filter (writes_back b) m.responses ≡ [])
    none = both_none pending_of pending_in (filter (at_block b) m.memory_commands) (filter (writes_back b) m.responses)
        (rw idle at (ok.pendings b))

-- ---- the delivery

writeback_inv : (m : Machine) (x y : Added) → Invariant (ghost_of m x) → (s c b w : ℕ) (j : Job)
    → y ≡ record {
      mailbox = update₂ x.mailbox s c (dropped_mailbox (x.mailbox s c) w (given_back c b (m.way s c w)));
      progress = update x.progress s (Some (at_stage Clearing j));
      request = x.request;
      pending = update x.pending b (coming_if (dirty (m.way s c w).state) (m.way s c w).words);
      latest = x.latest;
    }
    → x.progress s ≡ Some (at_stage Evicting j) → c ≡ j.requestor → w ≡ j.way
    → (b ≡ j.block → ⊥) → ((x.mailbox s c).known w).block ≡ b → held ((x.mailbox s c).known w).state ≡ true → j.upgrade ≡ false
    → Invariant (ghost_in m.geometry m.entry (update₃ m.way s c w no_way) m.kept m.memory y)
writeback_inv m x y inv s c b w j ye h ce we other bl hd up =
    rw (ye, ← block_pending m.memory x.pending x.latest b (coming_if (dirty (m.way s c w).state) (m.way s c w).words))
    (rw (ce, we) (writeback_keeps (ghost_of m x) inv s b (given_back j.requestor b (m.way s j.requestor j.way)) j h other (rw (ce, we) at bl)
    (rw (ce, we) at hd) up))

pub deliver_writeback : (content : ℕ → Words) (m : Machine) (past : List Event) (x : Added) → Reached content m past x
    → (i c b w : ℕ) → slice_get m.commands i ≡ Some (SetStateWriteback c b w) → length m.responses < 128
    → Keeps content m past (delivers 1 i) (obey (with_commands m (without m.commands i)) (SetStateWriteback c b w))
deliver_writeback content m past x r i c b w e free = (
  y,
  record {
    bounds = r.bounds;
    lawful = r.lawful;
    owed = r.owed;
    words = r.words;
    orders = r.orders;
    turns = r.turns;
    matches = record {
      serving = update_each (λ t z. SameProgress (m.serving t) z) x.progress s (Some (at_stage Clearing q.job))
          (progress_on (m.serving s) q.job Evicting Clearing (λ _ z. z) (rw q.progress at (r.matches.serving s)))
          (λ t _. r.matches.serving t);
      requests = r.matches.requests;
      mails = answered_mails m x r.matches i k e a key.0 key.1 (dropped_mailbox (x.mailbox s c) w a) refl;
      pendings = given_pendings m x r.matches c b (m.way s c w) idle;
      weights = λ t. answered_weights m x r.matches i k e a key.0 key.1 t refl;
      left = answered_left m x r.matches i k e a key.0 key.1;
    };
    inv = rw (way_put m r.bounds b c w no_way (r.inv.copies_home s c w q.held_there).1 (r.inv.copies_home s c w q.held_there).2)
        (writeback_inv m x y r.inv s c b w q.job refl q.progress (requestor_is q.job c q.is_requestor) q.way q.other q.block
        q.held_there q.no_upgrade);
    rooms = record {
      requests = r.rooms.requests;
      memory_commands = r.rooms.memory_commands;
      commands = let h = taken_length m.commands i k e in let l = r.rooms.commands in omega arith;
      responses = let h = push_length m.responses a in omega arith;
    };
  },
  tt,
)
  where
    s : ℕ
    s = home m b

    k : Command
    k = SetStateWriteback c b w

    a : Response
    a = given_back c b (m.way s c w)

    key : (response_block a ≡ b) × (response_cache a ≡ c)
    key = given_key c b (m.way s c w)

    q : WritebackFacts (x.progress s) c (m.entry s c) (x.mailbox s c) b w
    q = writeback_facts (x.progress s) c (m.entry s c) (x.mailbox s c) c b w (took_command m x r.matches i k e s c refl refl).0
        (r.inv.mailboxes s c)

    y : Added
    y = record {
      mailbox = update₂ x.mailbox s c (dropped_mailbox (x.mailbox s c) w a);
      progress = update x.progress s (Some (at_stage Clearing q.job));
      request = x.request;
      pending = update x.pending b (coming_if (dirty (m.way s c w).state) (m.way s c w).words);
      latest = x.latest;
    }

    idle : x.pending b ≡ Idle
    idle = rw q.progress at (r.inv.pendings b)
