-- The directory's steps with unguarded tables: where keys are in range and counts are small they are the machine's own.
use Rattle.std.proofs.Common.{◌≡◌, ℕ, ◌+◌, ◌<◌, ◌≤◌, Bool, true, false, cond, eqb, Some, None, Option, refl, ap, ◌∙◌, arith}
use Rattle.messages.specs.declared.command.Command.TheVariants.{Transfer, SetStateWakeup}
use Rattle.messages.specs.declared.memory_command.MemoryCommand.TheVariants.{Read}
use Rattle.machine.specs.declared.holding.Entry.{Entry}
use Rattle.machine.specs.declared.transaction.Source.{Source}
use Rattle.machine.specs.declared.transaction.Source.TheVariants.{Memory, OwnCopy, Owner}
use Rattle.machine.specs.declared.transaction.Job.{Job}
use Rattle.machine.specs.declared.transaction.Round.TheVariants.{One, Two}
use Rattle.machine.specs.declared.transaction.Transaction.{Transaction}
use Rattle.machine.specs.Machines.{Machine, home, one_more, with_entries, with_serving, with_count, command, ask_memory}
use Rattle.machine.specs.Acceptance.{settled, record_job, fetch, begin_two}
use Rattle.machine.specs.Responses.{close}
use Rattle.machine.proofs.Updates.{update, put_is}
use Rattle.machine.proofs.AcceptPlan.{settle, OwnerInRange, settled_is}
use Rattle.machine.proofs.Rooms.{one_more_is}

-- ---- one table changed

abbrev serving_of : Machine → (ℕ → Option Transaction) → Machine
serving_of m f = record {
  geometry = m.geometry;
  rows = m.rows;
  way = m.way;
  entry = m.entry;
  kept = m.kept;
  turn = m.turn;
  serving = f;
  count = m.count;
  memory = m.memory;
  requests = m.requests;
  commands = m.commands;
  responses = m.responses;
  memory_commands = m.memory_commands;
}

abbrev count_of : Machine → (ℕ → ℕ) → Machine
count_of m f = record {
  geometry = m.geometry;
  rows = m.rows;
  way = m.way;
  entry = m.entry;
  kept = m.kept;
  turn = m.turn;
  serving = m.serving;
  count = f;
  memory = m.memory;
  requests = m.requests;
  commands = m.commands;
  responses = m.responses;
  memory_commands = m.memory_commands;
}

abbrev pub set_serving : Machine → ℕ → Option Transaction → Machine
set_serving m s v = serving_of m (update m.serving s v)

abbrev pub set_count : Machine → ℕ → ℕ → Machine
set_count m s v = count_of m (update m.count s v)

pub serving_is : (m : Machine) (s : ℕ) (v : Option Transaction) → s < 16 → with_serving m s v ≡ set_serving m s v
serving_is m s v l = ap (serving_of m) (put_is 16 m.serving s v l)

pub count_is : (m : Machine) (s v : ℕ) → s < 16 → with_count m s v ≡ set_count m s v
count_is m s v l = ap (count_of m) (put_is 16 m.count s v l)

-- ---- a set closes

abbrev pub close_set : Machine → ℕ → Machine
close_set m s = cond (eqb (m.count s) 0) (set_serving m s None) m

pub close_is : (m : Machine) (s : ℕ) → s < 16 → close m s ≡ close_set m s
close_is m s l = ap (λ (z : Machine). cond (eqb (m.count s) 0) z m) (serving_is m s None l)

-- ---- round two

abbrev pub ask : Machine → Job → Source → Machine
ask m j Memory = set_count (ask_memory m (Read j.block j.requestor j.way j.next)) (home m j.block) (m.count (home m j.block) + 1)
ask m j OwnCopy = command m (SetStateWakeup j.requestor j.block j.way)
ask m j (Owner o p shown keeps writeback) =
    set_count (command m (Transfer o j.block p j.requestor j.way keeps j.next writeback)) (home m j.block)
    (m.count (home m j.block) + cond writeback 1 0)

abbrev pub begin : Machine → Job → Machine
begin m j = set_serving (ask m j j.source) (home m j.block) (Some (record { job = j; round = Two }))

module _ (m : Machine) (j : Job) (low : home m j.block < 16) (small : m.count (home m j.block) ≤ 1000) where
  ask_is : (z : Source) → fetch m j z ≡ ask m j z
  ask_is Memory =
      count_is (ask_memory m (Read j.block j.requestor j.way j.next)) (home m j.block) (one_more (m.count (home m j.block))) low
      ∙ ap (set_count (ask_memory m (Read j.block j.requestor j.way j.next)) (home m j.block))
      (one_more_is (m.count (home m j.block)) small)
  ask_is OwnCopy = refl
  ask_is (Owner o p shown keeps writeback) =
      count_is sent (home m j.block) (cond writeback (one_more n) n) low ∙ ap (set_count sent (home m j.block)) (both writeback)
    where
      n : ℕ
      n = m.count (home m j.block)

      sent : Machine
      sent = command m (Transfer o j.block p j.requestor j.way keeps j.next writeback)

      both : (t : Bool) → cond t (one_more n) n ≡ n + cond {A = ℕ} t 1 0
      both true = one_more_is n small
      both false = omega arith

  pub begin_is : begin_two m j ≡ begin m j
  begin_is = ap (λ (k : Machine). with_serving k (home m j.block) (Some (record { job = j; round = Two }))) (ask_is j.source)
      ∙ serving_is (ask m j j.source) (home m j.block) (Some (record { job = j; round = Two })) low

-- ---- a request is accepted

abbrev entries_of : Machine → (ℕ → ℕ → ℕ → Entry) → Machine
entries_of m f = with_entries m f

abbrev pub set_entries : Machine → ℕ → (ℕ → ℕ → Entry) → Machine
set_entries m s f = entries_of m (update m.entry s f)

abbrev pub enter : Machine → Job → ℕ → Machine
enter m j n =
    set_count
    (set_serving (set_entries m (home m j.block) (settle j (m.entry (home m j.block)))) (home m j.block)
    (Some (record { job = j; round = One n })))
    (home m j.block) (1 + n)

pub record_is : (m : Machine) (j : Job) (n : ℕ) → home m j.block < 16 → j.requestor < 8 → j.way < 4 → OwnerInRange j.source
    → record_job m j n ≡ enter m j n
record_is m j n low p q r =
    ap (λ (f : ℕ → ℕ → ℕ → Entry). with_count (with_serving (with_entries m f) s now) s (1 + n))
    (put_is 16 m.entry s (settled j (m.entry s)) low ∙ ap (update m.entry s) (settled_is j (m.entry s) p q r))
    ∙ ap (λ (k : Machine). with_count k s (1 + n)) (serving_is (set_entries m s (settle j (m.entry s))) s now low)
    ∙ count_is (set_serving (set_entries m s (settle j (m.entry s))) s now) s (1 + n) low
  where
    s : ℕ
    s = home m j.block

    now : Option Transaction
    now = Some (record { job = j; round = One n })
