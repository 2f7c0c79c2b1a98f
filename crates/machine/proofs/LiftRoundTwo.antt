-- Round two begins, once all answers of round one are in.
use Rattle.std.proofs.Common.{◌≡◌, ℕ, suc, ◌+◌, ◌≤◌, Bool, true, false, cond, eqb, [], ◌∷◌, ◌++◌, map, Some, filter, Option, sym, refl, ap, ◌∙◌, subst, arith}
use Rattle.std.proofs.lemmas.Bool.{eqb-true, eq-eqb, ne_eqb}
use Rattle.bedrock.specs.Geometries.{Sizes, set_of}
use Rattle.messages.specs.declared.command.Command.{Command}
use Rattle.messages.specs.declared.command.Command.TheVariants.{Transfer, SetStateWakeup}
use Rattle.messages.specs.declared.memory_command.MemoryCommand.{MemoryCommand}
use Rattle.messages.specs.declared.memory_command.MemoryCommand.TheVariants.{Read}
use Rattle.messages.specs.Messages.{command_cache, command_block}
use Rattle.machine.specs.declared.holding.Entry.{Entry}
use Rattle.machine.specs.declared.transaction.Source.{Source}
use Rattle.machine.specs.declared.transaction.Source.TheVariants.{Memory, OwnCopy, Owner}
use Rattle.machine.specs.declared.transaction.Job.{Job}
use Rattle.machine.specs.declared.transaction.Round.TheVariants.{Two}
use Rattle.machine.specs.declared.transaction.Transaction.{Transaction}
use Rattle.machine.specs.Machines.{Machine, home}
use Rattle.machine.proofs.Updates.{update, update_each, update_both, update_there}
use Rattle.machine.proofs.Keys.{kept_push_no, kept_push_yes}
use Rattle.machine.proofs.Weights.{weigh, weigh_push}
use Rattle.machine.proofs.Ghost.{Asked, Clearing, at_stage, Mail, Nothing, To, From, Idle, BlockAtMemory}
use Rattle.machine.proofs.Mailboxes.{Requestor, Giver, Bystander, giver_role, role}
use Rattle.machine.proofs.Invariant.{GoodSource, GoodJob, read_for, Invariant}
use Rattle.machine.proofs.StepRoundTwo.{asked_mail, asked_mailbox, round_two_keeps}
use Rattle.machine.proofs.Matches.{Added, ghost_of, mail_slot, pending_slot, to_mailbox, from_mailbox, at_block, writes_back, pending_of, pending_in, command_weight, response_weight, memory_weight, command_one, ack_owed, Left, SameProgress, Matches}
use Rattle.machine.proofs.Lifting.{both_none, block_pending}
use Rattle.machine.proofs.Lifted.{Frame}
use Rattle.machine.proofs.Unguarded.{set_serving, ask, begin}
use Rattle.machine.proofs.AlmostMatches.{AlmostMatches, sent_here, sent_there, ones_there}

-- the mail of round two, by the source
abbrev mail_from : Job → Source → ℕ → Mail
mail_from j Memory c = Nothing
mail_from j OwnCopy c = cond (eqb c j.requestor) (To (SetStateWakeup j.requestor j.block j.way)) Nothing
mail_from j (Owner o p shown keeps writeback) c =
    cond (eqb c o) (To (Transfer o j.block p j.requestor j.way keeps j.next writeback)) Nothing

asked_is : (j : Job) (f : ℕ → ℕ → Entry) (z : Source) → j.source ≡ z → GoodSource j f z → (c : ℕ) → asked_mail j c (role j c) ≡ mail_from j z c
asked_is j f z i ok c = go (eqb c j.requestor) refl z i ok
  where
    go : (t : Bool) → eqb c j.requestor ≡ t → (z : Source) → j.source ≡ z → GoodSource j f z
        → asked_mail j c (cond t Requestor (giver_role j.source c)) ≡ mail_from j z c
    go true e Memory i ok = rw i refl
    go true e OwnCopy i ok = rw (i, e) refl
    go true e (Owner o p shown keeps writeback) i ok = rw (i, ne_eqb c o (λ q. ok.other (sym q ∙ eqb-true c j.requestor e))) refl
    go false e Memory i ok = rw i refl
    go false e OwnCopy i ok = rw (i, e) refl
    go false e (Owner o p shown keeps writeback) i ok = ap (λ z. asked_mail j c (giver_role z c)) i ∙ at (eqb c o) refl
      where
        at : (t : Bool) → eqb c o ≡ t → asked_mail j c (cond t (Giver p shown keeps writeback) Bystander)
            ≡ cond t (To (Transfer o j.block p j.requestor j.way keeps j.next writeback)) Nothing
        at true q = rw (eqb-true c o q) refl
        at false q = refl

abbrev pub after_round_one : Added → ℕ → Job → Added
after_round_one x s j = record {
  mailbox = update x.mailbox s (λ c. asked_mailbox j c (x.mailbox s c));
  progress = update x.progress s (Some (at_stage Asked j));
  request = x.request;
  pending = update x.pending j.block (read_for j j.source);
  latest = x.latest;
}

-- the set is at Clearing, its round one has not been left, and no cache has mail
module _ (m : Machine) (x : Added) (j : Job) (sh : AlmostMatches m x (home m j.block)) (inv : Invariant (ghost_of m x))
    (clearing : x.progress (home m j.block) ≡ Some (at_stage Clearing j)) (first : ack_owed (m.serving (home m j.block)) ≡ 1)
    (quiet : (c : ℕ) → (x.mailbox (home m j.block) c).mail ≡ Nothing) where
  abbrev g : Sizes
  g = m.geometry

  abbrev s : ℕ
  s = home m j.block

  abbrev now : Option Transaction
  now = Some (record { job = j; round = Two })

  good : GoodJob g s (m.entry s) j
  good = rw clearing at (inv.jobs s)

  idle : x.pending j.block ≡ Idle
  idle = (rw clearing at (inv.pendings j.block)).1 refl

  no_mail : (c : ℕ) → map To (filter (to_mailbox g s c) m.commands) ++ map From (filter (from_mailbox g s c) m.responses) ≡ []
  no_mail c = rw (quiet c) at (sh.mails s c)

  none_pending : map pending_of (filter (at_block j.block) m.memory_commands) ++ map pending_in (filter (writes_back j.block) m.responses)
      ≡ []
  none_pending = rw idle at (sh.pendings j.block)

  same : (t : ℕ) → SameProgress (update m.serving s now t) (update x.progress s (Some (at_stage Asked j)) t)
  same = update_both (λ t a b. SameProgress a b) m.serving x.progress s now (Some (at_stage Asked j)) (refl, refl) (λ t _. sh.serving t)

  mail_is : (z : Source) → j.source ≡ z → (c : ℕ) → asked_mail j c (role j c) ≡ mail_from j z c
  mail_is z i c = asked_is j (m.entry s) z i (subst (GoodSource j (m.entry s)) i good.source) c

  sent_mails : (k : Command) → set_of g (command_block k) ≡ s → ((c : ℕ) → asked_mail j c (role j c) ≡ cond (eqb c (command_cache k)) (To k) Nothing)
      → (t c : ℕ)
      → map To (filter (to_mailbox g t c) (m.commands ++ k ∷ [])) ++ map From (filter (from_mailbox g t c) m.responses)
      ≡ mail_slot ((after_round_one x s j).mailbox t c).mail
  sent_mails k e is = update_each (λ t f. (c : ℕ)
      → map To (filter (to_mailbox g t c) (m.commands ++ k ∷ [])) ++ map From (filter (from_mailbox g t c) m.responses)
      ≡ mail_slot (f c).mail) x.mailbox s (λ c. asked_mailbox j c (x.mailbox s c))
      (λ c. rw (is c) (sent_here g s m.commands k e m.responses c (no_mail c)))
      (λ t q c. rw (sent_there g s m.commands k e t c q) (sh.mails t c))

  sent_left : (k : Command) → set_of g (command_block k) ≡ s → (t : ℕ)
      → Left (update m.serving s now t) (weigh (command_one g t) (m.commands ++ k ∷ []) + weigh (response_weight g t) m.responses)
  sent_left k i = update_each
      (λ t z. Left z (weigh (command_one g t) (m.commands ++ k ∷ []) + weigh (response_weight g t) m.responses)) m.serving s now tt
      (λ t e. rw (ones_there g s m.commands k i t e) (sh.left t e))

  same_pending : read_for j j.source ≡ Idle → (b : ℕ)
      → map pending_of (filter (at_block b) m.memory_commands) ++ map pending_in (filter (writes_back b) m.responses)
      ≡ pending_slot (update x.pending j.block (read_for j j.source) b)
  same_pending e = update_each
      (λ b z. map pending_of (filter (at_block b) m.memory_commands) ++ map pending_in (filter (writes_back b) m.responses) ≡ pending_slot z)
      x.pending j.block (read_for j j.source) (rw e none_pending) (λ b _. sh.pendings b)

  matches_from : (z : Source) → j.source ≡ z → Matches (set_serving (ask m j z) s now) (after_round_one x s j)
  matches_from Memory i = record {
    serving = same;
    requests = sh.requests;
    mails = update_each (λ t f. (c : ℕ)
        → map To (filter (to_mailbox g t c) m.commands) ++ map From (filter (from_mailbox g t c) m.responses)
        ≡ mail_slot (f c).mail) x.mailbox s (λ c. asked_mailbox j c (x.mailbox s c))
        (λ c. rw (mail_is Memory i c) (no_mail c)) (λ t _. sh.mails t);
    pendings = update_each
        (λ b z. map pending_of (filter (at_block b) (m.memory_commands ++ k ∷ [])) ++ map pending_in (filter (writes_back b) m.responses)
        ≡ pending_slot z)
        x.pending j.block (read_for j j.source)
        (let z = both_none pending_of pending_in (filter (at_block j.block) m.memory_commands)
        (filter (writes_back j.block) m.responses) none_pending in
        rw (kept_push_yes (at_block j.block) m.memory_commands k (eq-eqb j.block j.block refl), z.0, z.1, i) refl)
        (λ b e. rw (kept_push_no (at_block b) m.memory_commands k (ne_eqb j.block b (λ q. e (sym q)))) (sh.pendings b));
    weights = update_both (λ t a z. a ≡ weigh (command_weight g t) m.commands
        + (weigh (response_weight g t) m.responses + (weigh (memory_weight g t) (m.memory_commands ++ k ∷ []) + ack_owed z)))
        m.count m.serving s (m.count s + 1) now
        (let u = rw (eq-eqb s s refl) at (weigh_push (memory_weight g s) m.memory_commands k) in let v = sh.weights s in omega arith)
        (λ t e. let u = rw (ne_eqb s t (λ q. e (sym q))) at (weigh_push (memory_weight g t) m.memory_commands k) in
        let v = sh.weights t in omega arith);
    left = update_each (λ t z. Left z (weigh (command_one g t) m.commands + weigh (response_weight g t) m.responses))
        m.serving s now tt (λ t e. sh.left t e);
  }
    where
      k : MemoryCommand
      k = Read j.block j.requestor j.way j.next
  matches_from OwnCopy i = record {
    serving = same;
    requests = sh.requests;
    mails = sent_mails k refl (λ c. mail_is OwnCopy i c);
    pendings = same_pending (rw i refl);
    weights = update_each (λ t z. m.count t ≡ weigh (command_weight g t) (m.commands ++ k ∷ [])
        + (weigh (response_weight g t) m.responses + (weigh (memory_weight g t) m.memory_commands + ack_owed z)))
        m.serving s now
        (let u = rw (eq-eqb s s refl) at (weigh_push (command_weight g s) m.commands k) in let v = sh.weights s in omega arith)
        (λ t e. let u = rw (ne_eqb s t (λ q. e (sym q))) at (weigh_push (command_weight g t) m.commands k) in
        let v = sh.weights t in omega arith);
    left = sent_left k refl;
  }
    where
      k : Command
      k = SetStateWakeup j.requestor j.block j.way
  matches_from (Owner o p shown keeps writeback) i = record {
    serving = same;
    requests = sh.requests;
    mails = sent_mails k refl (λ c. mail_is (Owner o p shown keeps writeback) i c);
    pendings = same_pending (rw i refl);
    weights = update_both (λ t a z. a ≡ weigh (command_weight g t) (m.commands ++ k ∷ [])
        + (weigh (response_weight g t) m.responses + (weigh (memory_weight g t) m.memory_commands + ack_owed z)))
        m.count m.serving s (m.count s + cond writeback 1 0) now
        (let u = rw (eq-eqb s s refl) at (weigh_push (command_weight g s) m.commands k) in
        let v = sh.weights s in let w = heavier writeback in omega arith)
        (λ t e. let u = rw (ne_eqb s t (λ q. e (sym q))) at (weigh_push (command_weight g t) m.commands k) in
        let v = sh.weights t in omega arith);
    left = sent_left k refl;
  }
    where
      k : Command
      k = Transfer o j.block p j.requestor j.way keeps j.next writeback

      heavier : (t : Bool) → cond {A = ℕ} t 2 1 ≡ suc (cond {A = ℕ} t 1 0)
      heavier true = refl
      heavier false = refl

  invariant_from : (z : Source) → Invariant (ghost_of (set_serving (ask m j z) s now) (after_round_one x s j))
  invariant_from z = go z
    where
      all : Invariant (ghost_of m (after_round_one x s j))
      all = subst (λ (blocks : ℕ → BlockAtMemory). Invariant (record {
        geometry = m.geometry;
        entry = m.entry;
        way = m.way;
        mailbox = (after_round_one x s j).mailbox;
        progress = (after_round_one x s j).progress;
        waiter = λ c. record { kept = m.kept c; request = x.request c };
        at_memory = blocks;
      }))
          (block_pending m.memory x.pending x.latest j.block (read_for j j.source))
          (round_two_keeps (ghost_of m x) inv s j clearing quiet)

      go : (z : Source) → Invariant (ghost_of (set_serving (ask m j z) s now) (after_round_one x s j))
      go Memory = all
      go OwnCopy = all
      go (Owner o p shown keeps writeback) = all

  pub begin_lifts : Matches (begin m j) (after_round_one x s j) × Invariant (ghost_of (begin m j) (after_round_one x s j))
  begin_lifts = (matches_from j.source refl, invariant_from j.source)

-- what else the start of round two changes: nothing of other sets, and the count does not fall
pub record AskFrame (m : Machine) (j : Job) (after : Machine) : Type 0 where
  pub counts : (t : ℕ) → (t ≡ home m j.block → ⊥) → after.count t ≡ m.count t
  pub more : m.count (home m j.block) ≤ after.count (home m j.block)
  pub serving : after.serving ≡ m.serving
  pub frame : Frame m after

pub ask_frame : (m : Machine) (j : Job) (z : Source) → AskFrame m j (ask m j z)
ask_frame m j Memory = record {
  counts = λ t n. update_there m.count (home m j.block) (m.count (home m j.block) + 1) t n;
  more = rw (eq-eqb (home m j.block) (home m j.block) refl) (omega arith);
  serving = refl;
  frame = record { kept = refl; geometry = refl; rows = refl; turn = refl };
}
ask_frame m j OwnCopy = record {
  counts = λ t n. refl;
  more = omega arith;
  serving = refl;
  frame = record { kept = refl; geometry = refl; rows = refl; turn = refl };
}
ask_frame m j (Owner o p shown keeps writeback) = record {
  counts = λ t n. update_there m.count (home m j.block) (m.count (home m j.block) + cond writeback 1 0) t n;
  more = rw (eq-eqb (home m j.block) (home m j.block) refl) (omega arith);
  serving = refl;
  frame = record { kept = refl; geometry = refl; rows = refl; turn = refl };
}
