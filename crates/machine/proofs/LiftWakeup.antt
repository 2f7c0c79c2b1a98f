-- The machine delivers a Set State with Wakeup.
use Rattle.std.proofs.Common.{◌≡◌, ℕ, ◌<◌, true, List, length, Some, None, Option, sym, refl, ap, ◌∙◌, arith}
use Rattle.std.specs.List.{slice_get}
use Rattle.std.proofs.lemmas.Bool.{eq-eqb, false≢true}
use Rattle.bedrock.specs.declared.words.Words.{Words}
use Rattle.protocols.specs.declared.state.State.{State}
use Rattle.protocols.specs.declared.state.State.TheVariants.{I, S, E, M, O, F}
use Rattle.protocols.specs.States.{held}
use Rattle.messages.specs.declared.command.Command.{Command}
use Rattle.messages.specs.declared.command.Command.TheVariants.{SetStateWakeup}
use Rattle.wires.specs.Waiting.{without}
use Rattle.machine.specs.declared.holding.Entry.{Entry}
use Rattle.machine.specs.declared.transaction.Source.{Source}
use Rattle.machine.specs.declared.transaction.Source.TheVariants.{Memory, OwnCopy, Owner}
use Rattle.machine.specs.declared.transaction.Job.{Job}
use Rattle.machine.specs.Holdings.{is_write}
use Rattle.machine.specs.Machines.{Machine, home, with_commands}
use Rattle.machine.specs.Commands.{obey}
use Rattle.machine.specs.Runs.{Event, delivers}
use Rattle.machine.specs.Coherence.{Shows}
use Rattle.machine.proofs.Ghost.{Stage, Evicting, Clearing, Asked, Sent, Filled, Progress, at_stage, To, Mailbox}
use Rattle.machine.proofs.Mailboxes.{Role, Requestor, Giver, Bystander, role, read_only, BeforeFill, wakeup_mail, InRole, GoodMailbox}
use Rattle.machine.proofs.Invariant.{GoodJob}
use Rattle.machine.proofs.MailFacts.{requestor_is}
use Rattle.machine.proofs.StepFill.{wakeup_keeps}
use Rattle.machine.proofs.Matches.{Added, ghost_of, took_command}
use Rattle.machine.proofs.Reached.{Reached, Keeps}
use Rattle.machine.proofs.LiftFill.{fill_lifts}

-- what a Wakeup in the mail tells of the set
record WakeupFacts (h : Option Progress) (c : ℕ) (x : Mailbox) (b w : ℕ) : Type 0 where
  pub job : Job
  pub progress : h ≡ Some (at_stage Asked job)
  pub is_requestor : role job c ≡ Requestor
  pub block : b ≡ job.block
  pub way : w ≡ job.way
  pub source : job.source ≡ OwnCopy
  pub before : BeforeFill job (x.known w)

wakeup_at : (j : Job) (s : Stage) (a : Role) (c : ℕ) (e : ℕ → Entry) (x : Mailbox) (d b w : ℕ) → x.mail ≡ To (SetStateWakeup d b w)
    → role j c ≡ a → InRole (at_stage s j) c e x a → WakeupFacts (Some (at_stage s j)) c x b w
wakeup_at j Evicting Requestor c e x d b w m i ok = grind arith
wakeup_at j Clearing Requestor c e x d b w m i ok = grind arith
wakeup_at j Asked Requestor c e x d b w m i ok = go j.source refl ok.2.1
  where
    go : (z : Source) → j.source ≡ z → x.mail ≡ wakeup_mail j z → WakeupFacts (Some (at_stage Asked j)) c x b w
    go Memory s q = grind arith
    go OwnCopy s q = let ww : w ≡ j.way = cc in
        record { job = j; progress = refl; is_requestor = i; block = cc; way = ww; source = s; before = rw ww ok.2.0 }
    go (Owner o p shown keeps writeback) s q = grind arith
wakeup_at j Sent Requestor c e x d b w m i ok = grind arith
wakeup_at j Filled Requestor c e x d b w m i ok = grind arith
wakeup_at j Evicting (Giver q shown keeps writeback) c e x d b w m i ok = grind arith
wakeup_at j Clearing (Giver q shown keeps writeback) c e x d b w m i ok = grind arith
wakeup_at j Asked (Giver q shown keeps writeback) c e x d b w m i ok = grind arith
wakeup_at j Sent (Giver q shown keeps writeback) c e x d b w m i ok = grind arith
wakeup_at j Filled (Giver q shown keeps writeback) c e x d b w m i ok = grind arith
wakeup_at j Evicting Bystander c e x d b w m i ok = grind arith
wakeup_at j Clearing Bystander c e x d b w m i ok = grind arith
wakeup_at j Asked Bystander c e x d b w m i ok = grind arith
wakeup_at j Sent Bystander c e x d b w m i ok = grind arith
wakeup_at j Filled Bystander c e x d b w m i ok = grind arith

wakeup_facts : (h : Option Progress) (c : ℕ) (e : ℕ → Entry) (x : Mailbox) (d b w : ℕ) → x.mail ≡ To (SetStateWakeup d b w) → GoodMailbox h c e x
    → WakeupFacts h c x b w
wakeup_facts None c e x d b w m ok = grind arith
wakeup_facts (Some h) c e x d b w m ok = wakeup_at h.job h.stage (role h.job c) c e x d b w m refl ok

-- where the cache goes by a copy that is read only, the way has one
read_only_shown : (e v : State) → Shows e v → read_only e ≡ true → held v ≡ true
read_only_shown I v f l = absurd (false≢true l)
read_only_shown S v f l = rw f refl
read_only_shown E v f l = absurd (false≢true l)
read_only_shown M v f l = absurd (false≢true l)
read_only_shown O v f l = rw f refl
read_only_shown F v f l = rw f refl

pub deliver_wakeup : (content : ℕ → Words) (m : Machine) (past : List Event) (x : Added) → Reached content m past x
    → (i c b w : ℕ) → slice_get m.commands i ≡ Some (SetStateWakeup c b w) → length m.responses < 128
    → Keeps content m past (delivers 1 i) (obey (with_commands m (without m.commands i)) (SetStateWakeup c b w))
deliver_wakeup content m past x r i c b w e free =
    fill_lifts content m past x r i k e free (λ _. refl) w o.job Asked (λ _ z. z) o.progress ce o.block o.way
    (rw (eq-eqb c o.job.requestor ce) at (rw o.progress at (r.inv.waits s c)))
    M (m.way s c w).words now ok.writes (λ f. absurd (false≢true (sym f ∙ writes)))
    (λ _. wakeup_keeps (ghost_of m x) r.inv s o.job (m.way s c w).words o.progress o.source)
    (λ us _. wakeup_keeps (ghost_of m x) r.inv s o.job us o.progress o.source)
  where
    s : ℕ
    s = home m b

    k : Command
    k = SetStateWakeup c b w

    o : WakeupFacts (x.progress s) c (x.mailbox s c) b w
    o = wakeup_facts (x.progress s) c (m.entry s c) (x.mailbox s c) c b w (took_command m x r.matches i k e s c refl refl).0
        (r.inv.mailboxes s c)

    ce : c ≡ o.job.requestor
    ce = requestor_is o.job c o.is_requestor

    ok : GoodJob m.geometry s (m.entry s) o.job
    ok = rw o.progress at (r.inv.jobs s)

    upgrade : o.job.upgrade ≡ true
    upgrade = rw o.source at ok.source

    writes : is_write o.job.access ≡ true
    writes = ok.upgrades upgrade

    copy : (((x.mailbox s c).known w).block ≡ o.job.block) × (read_only ((x.mailbox s c).known w).state ≡ true)
    copy = rw upgrade at o.before

    now : (m.way s c w).words ≡ x.latest b
    now = r.inv.copies s c w (read_only_shown ((x.mailbox s c).known w).state (m.way s c w).state (r.inv.agrees s c w).state copy.1)
        ∙ ap x.latest (sym (r.inv.agrees s c w).block ∙ copy.0 ∙ sym o.block)
