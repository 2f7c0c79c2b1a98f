-- The machine delivers an Invalidate.
use Rattle.std.proofs.Common.{◌≡◌, ℕ, ◌<◌, true, List, length, Some, refl, arith}
use Rattle.std.specs.List.{slice_get}
use Rattle.bedrock.specs.declared.words.Words.{Words}
use Rattle.protocols.specs.States.{held}
use Rattle.messages.specs.declared.command.Command.TheVariants.{Invalidate}
use Rattle.messages.specs.declared.response.Response.{Response}
use Rattle.messages.specs.declared.response.Response.TheVariants.{InvalidateAck}
use Rattle.wires.specs.Waiting.{without}
use Rattle.machine.specs.Holdings.{no_way}
use Rattle.machine.specs.Machines.{Machine, home, with_commands}
use Rattle.machine.specs.Commands.{obey}
use Rattle.machine.specs.Runs.{Event, delivers}
use Rattle.machine.proofs.Updates.{update₂}
use Rattle.machine.proofs.Keys.{kept_push_no}
use Rattle.machine.proofs.Ghost.{To}
use Rattle.machine.proofs.StateFacts.{surely_clean_held}
use Rattle.machine.proofs.StepInvalidate.{dropped_mailbox, drops, invalidate_keeps}
use Rattle.machine.proofs.Matches.{Added, ghost_of, writes_back, took_command}
use Rattle.machine.proofs.Rooms.{taken_length, push_length}
use Rattle.machine.proofs.Reached.{Reached, Keeps}
use Rattle.machine.proofs.Lifting.{way_put, answered_mails, answered_weights, answered_left}

pub deliver_invalidate : (content : ℕ → Words) (m : Machine) (past : List Event) (x : Added) → Reached content m past x
    → (i c b w : ℕ) → slice_get m.commands i ≡ Some (Invalidate c b w) → length m.responses < 128
    → Keeps content m past (delivers 1 i) (obey (with_commands m (without m.commands i)) (Invalidate c b w))
deliver_invalidate content m past x r i c b w e free = (
  y,
  record {
    bounds = r.bounds;
    lawful = r.lawful;
    owed = r.owed;
    words = r.words;
    orders = r.orders;
    turns = r.turns;
    matches = record {
      serving = r.matches.serving;
      requests = r.matches.requests;
      mails = answered_mails m x r.matches i (Invalidate c b w) e a refl refl (dropped_mailbox (x.mailbox s c) w a) refl;
      pendings = λ k. rw (kept_push_no (writes_back k) m.responses a refl) (r.matches.pendings k);
      weights = λ t. answered_weights m x r.matches i (Invalidate c b w) e a refl refl t refl;
      left = answered_left m x r.matches i (Invalidate c b w) e a refl refl;
    };
    inv = rw (way_put m r.bounds b c w no_way (r.inv.copies_home s c w known).1 (r.inv.copies_home s c w known).2)
        (invalidate_keeps (ghost_of m x) r.inv s c c b w a mail);
    rooms = record {
      requests = r.rooms.requests;
      memory_commands = r.rooms.memory_commands;
      commands = let h = taken_length m.commands i (Invalidate c b w) e in let l = r.rooms.commands in omega arith;
      responses = let h = push_length m.responses a in omega arith;
    };
  },
  tt,
)
  where
    s : ℕ
    s = home m b

    a : Response
    a = InvalidateAck c b

    y : Added
    y = record {
      mailbox = update₂ x.mailbox s c (dropped_mailbox (x.mailbox s c) w a);
      progress = x.progress;
      request = x.request;
      pending = x.pending;
      latest = x.latest;
    }

    mail : (x.mailbox s c).mail ≡ To (Invalidate c b w)
    mail = (took_command m x r.matches i (Invalidate c b w) e s c refl refl).0

    known : held ((x.mailbox s c).known w).state ≡ true
    known = surely_clean_held ((x.mailbox s c).known w).state
        (drops (x.progress s) c (m.entry s c) (x.mailbox s c) c b w a mail (r.inv.mailboxes s c)).0
