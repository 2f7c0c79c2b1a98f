-- The machine delivers a Set Tag with Data.
use Rattle.std.proofs.Common.{◌≡◌, ℕ, ◌<◌, List, length, Some, refl, ap, ◌∙◌, inl, inr}
use Rattle.std.specs.List.{slice_get}
use Rattle.std.proofs.lemmas.Bool.{eq-eqb}
use Rattle.bedrock.specs.declared.words.Words.{Words}
use Rattle.bedrock.specs.declared.party.Party.{Party}
use Rattle.protocols.specs.declared.state.State.{State}
use Rattle.messages.specs.declared.command.Command.{Command}
use Rattle.messages.specs.declared.command.Command.TheVariants.{SetTagData}
use Rattle.wires.specs.Waiting.{without}
use Rattle.machine.specs.Machines.{Machine, home, with_commands}
use Rattle.machine.specs.Commands.{obey}
use Rattle.machine.specs.Runs.{Event, delivers}
use Rattle.machine.proofs.Ghost.{Sent, To}
use Rattle.machine.proofs.Invariant.{GoodJob}
use Rattle.machine.proofs.MailFacts.{DataFacts, data_facts, requestor_is}
use Rattle.machine.proofs.StepFill.{data_keeps}
use Rattle.machine.proofs.Matches.{Added, ghost_of, took_command}
use Rattle.machine.proofs.Reached.{Reached, Keeps}
use Rattle.machine.proofs.LiftFill.{fill_lifts}

pub deliver_data : (content : ℕ → Words) (m : Machine) (past : List Event) (x : Added) → Reached content m past x
    → (i c b w : ℕ) (next : State) (ws : Words) (sender : Party) → slice_get m.commands i ≡ Some (SetTagData c b w next ws sender)
    → length m.responses < 128
    → Keeps content m past (delivers 1 i) (obey (with_commands m (without m.commands i)) (SetTagData c b w next ws sender))
deliver_data content m past x r i c b w next ws sender e free =
    fill_lifts content m past x r i k e free (λ _. refl) w o.job Sent (λ _ z. z) o.progress ce o.block o.way
    (rw (eq-eqb c o.job.requestor ce) at (rw o.progress at (r.inv.waits s c)))
    next ws now ok.writes (λ _. o.next)
    (λ _. data_keeps (ghost_of m x) r.inv s o.job ws o.progress (inl (now ∙ ap x.latest o.block)))
    (λ us wr. data_keeps (ghost_of m x) r.inv s o.job us o.progress (inr (ok.writes wr)))
  where
    s : ℕ
    s = home m b

    k : Command
    k = SetTagData c b w next ws sender

    mail : (x.mailbox s c).mail ≡ To k
    mail = (took_command m x r.matches i k e s c refl refl).0

    o : DataFacts (x.progress s) c (m.entry s c) (x.mailbox s c) c b w next
    o = data_facts (x.progress s) c (m.entry s c) (x.mailbox s c) c b w next ws sender mail (r.inv.mailboxes s c)

    ce : c ≡ o.job.requestor
    ce = requestor_is o.job c o.is_requestor

    ok : GoodJob m.geometry s (m.entry s) o.job
    ok = rw o.progress at (r.inv.jobs s)

    now : ws ≡ x.latest b
    now = r.inv.mails s c c b w next ws sender mail
