-- What a Transfer in the mail tells of the set.
use Rattle.std.proofs.Common.{◌≡◌, ℕ, Bool, Some, None, Option, refl, ◌∙◌, arith}
use Rattle.protocols.specs.declared.state.State.{State}
use Rattle.messages.specs.declared.command.Command.TheVariants.{Transfer}
use Rattle.machine.specs.declared.holding.Entry.{Entry}
use Rattle.machine.specs.declared.transaction.Source.{Source}
use Rattle.machine.specs.declared.transaction.Source.TheVariants.{Memory, OwnCopy, Owner}
use Rattle.machine.specs.declared.transaction.Job.{Job}
use Rattle.machine.specs.Holdings.{entry_in}
use Rattle.machine.proofs.Ghost.{Stage, Evicting, Clearing, Asked, Sent, Filled, Progress, at_stage, To, Mailbox}
use Rattle.machine.proofs.Mailboxes.{Role, Requestor, Giver, Bystander, role, wakeup_mail, InRole, GoodMailbox}
use Rattle.machine.proofs.AcceptEntries.{giver_source}

-- a Transfer to cache c, for way place of cache r
pub record TransferFacts (h : Option Progress) (c : ℕ) (x : Mailbox) (b w r place : ℕ) (keeps next : State) (writeback : Bool) : Type 0 where
  pub job : Job
  pub shown : State
  pub progress : h ≡ Some (at_stage Asked job)
  pub source : job.source ≡ Owner c w shown keeps writeback
  pub block : b ≡ job.block
  pub requestor : r ≡ job.requestor
  pub way : place ≡ job.way
  pub gets : next ≡ job.next
  pub known : x.known w ≡ entry_in shown job.block

transfer_at : (j : Job) (s : Stage) (a : Role) (c : ℕ) (e : ℕ → Entry) (x : Mailbox) (d b w r place : ℕ) (keeps next : State) (writeback : Bool)
    → x.mail ≡ To (Transfer d b w r place keeps next writeback) → role j c ≡ a → InRole (at_stage s j) c e x a
    → TransferFacts (Some (at_stage s j)) c x b w r place keeps next writeback
transfer_at j Evicting Requestor c e x d b w r place keeps next writeback m i ok = grind arith
transfer_at j Clearing Requestor c e x d b w r place keeps next writeback m i ok = grind arith
transfer_at j Asked Requestor c e x d b w r place keeps next writeback m i ok = absurd (go j.source ok.2.1)
  where
    go : (z : Source) → x.mail ≡ wakeup_mail j z → ⊥
    go Memory q = grind arith
    go OwnCopy q = grind arith
    go (Owner o a shown ks wb) q = grind arith
transfer_at j Sent Requestor c e x d b w r place keeps next writeback m i ok = grind arith
transfer_at j Filled Requestor c e x d b w r place keeps next writeback m i ok = grind arith
transfer_at j Evicting (Giver q shown ks wb) c e x d b w r place keeps next writeback m i ok = grind arith
transfer_at j Clearing (Giver q shown ks wb) c e x d b w r place keeps next writeback m i ok = grind arith
transfer_at j Asked (Giver q shown ks wb) c e x d b w r place keeps next writeback m i ok =
    let o = ok.2.1 in let wq : q ≡ w = cc in let kq : ks ≡ keeps = cc in let bq : wb ≡ writeback = cc in
    record {
      job = j;
      shown = shown;
      progress = refl;
      source = giver_source j c q shown ks wb i ∙ rw (wq, kq, bq) refl;
      block = cc;
      requestor = cc;
      way = cc;
      gets = cc;
      known = rw (← wq) ok.2.0;
    }
transfer_at j Sent (Giver q shown ks wb) c e x d b w r place keeps next writeback m i ok = grind arith
transfer_at j Filled (Giver q shown ks wb) c e x d b w r place keeps next writeback m i ok = grind arith
transfer_at j Evicting Bystander c e x d b w r place keeps next writeback m i ok = grind arith
transfer_at j Clearing Bystander c e x d b w r place keeps next writeback m i ok = grind arith
transfer_at j Asked Bystander c e x d b w r place keeps next writeback m i ok = grind arith
transfer_at j Sent Bystander c e x d b w r place keeps next writeback m i ok = grind arith
transfer_at j Filled Bystander c e x d b w r place keeps next writeback m i ok = grind arith

pub transfer_facts : (h : Option Progress) (c : ℕ) (e : ℕ → Entry) (x : Mailbox) (d b w r place : ℕ) (keeps next : State) (writeback : Bool)
    → x.mail ≡ To (Transfer d b w r place keeps next writeback) → GoodMailbox h c e x → TransferFacts h c x b w r place keeps next writeback
transfer_facts None c e x d b w r place keeps next writeback m ok = grind arith
transfer_facts (Some h) c e x d b w r place keeps next writeback m ok =
    transfer_at h.job h.stage (role h.job c) c e x d b w r place keeps next writeback m refl ok
