-- What data in the mail tells of the set, and what a stage tells of the entries that caches go by.
use Rattle.std.proofs.Common.{◌≡◌, ℕ, ◌<◌, Some, None, Option, refl, ap, ◌∙◌, subst, ⊎_elim, arith}
use Rattle.std.proofs.lemmas.Bool.{cases_eq, eq-eqb}
use Rattle.std.proofs.lemmas.Bool.Decides.{nat_tests}
use Rattle.bedrock.specs.declared.words.Words.{Words}
use Rattle.bedrock.specs.declared.party.Party.{Party}
use Rattle.protocols.specs.declared.state.State.{State}
use Rattle.messages.specs.declared.command.Command.TheVariants.{SetTagData}
use Rattle.machine.specs.declared.holding.Entry.{Entry}
use Rattle.machine.specs.declared.transaction.Job.{Job}
use Rattle.machine.specs.Holdings.{entry_in}
use Rattle.machine.proofs.Ghost.{Stage, Evicting, Clearing, Asked, Sent, Filled, Progress, at_stage, To, Mailbox, Ghost}
use Rattle.machine.proofs.Mailboxes.{Role, Requestor, Giver, Bystander, role, BeforeFill, InRole, GoodMailbox}
use Rattle.machine.proofs.Invariant.{GoodJob, Invariant}
use Rattle.machine.proofs.StateFacts.{held_entry}

-- data for way w of cache d, in the mail of cache c
pub record DataFacts (h : Option Progress) (c : ℕ) (e : ℕ → Entry) (x : Mailbox) (d b w : ℕ) (st : State) : Type 0 where
  pub job : Job
  pub progress : h ≡ Some (at_stage Sent job)
  pub is_requestor : role job c ≡ Requestor
  pub block : b ≡ job.block
  pub way : w ≡ job.way
  pub next : st ≡ job.next
  pub entry : e job.way ≡ entry_in job.next job.block
  pub before : BeforeFill job (x.known job.way)

data_at : (j : Job) (s : Stage) (a : Role) (c : ℕ) (e : ℕ → Entry) (x : Mailbox) (d b w : ℕ) (st : State) (ws : Words) (sender : Party)
    → x.mail ≡ To (SetTagData d b w st ws sender) → role j c ≡ a → InRole (at_stage s j) c e x a → DataFacts (Some (at_stage s j)) c e x d b w st
data_at j Evicting Requestor c e x d b w st ws sender m i ok = grind arith
data_at j Clearing Requestor c e x d b w st ws sender m i ok = grind arith
data_at j Asked Requestor c e x d b w st ws sender m i ok = grind arith
data_at j Sent Requestor c e x d b w st ws sender m i ok = let q = ok.2.1.out in
    record { job = j; progress = refl; is_requestor = i; block = cc; way = cc; next = cc; entry = ok.0; before = ok.2.0 }
data_at j Filled Requestor c e x d b w st ws sender m i ok = grind arith
data_at j Evicting (Giver q shown keeps writeback) c e x d b w st ws sender m i ok = grind arith
data_at j Clearing (Giver q shown keeps writeback) c e x d b w st ws sender m i ok = grind arith
data_at j Asked (Giver q shown keeps writeback) c e x d b w st ws sender m i ok = grind arith
data_at j Sent (Giver q shown keeps writeback) c e x d b w st ws sender m i ok = grind arith
data_at j Filled (Giver q shown keeps writeback) c e x d b w st ws sender m i ok = grind arith
data_at j Evicting Bystander c e x d b w st ws sender m i ok = grind arith
data_at j Clearing Bystander c e x d b w st ws sender m i ok = grind arith
data_at j Asked Bystander c e x d b w st ws sender m i ok = grind arith
data_at j Sent Bystander c e x d b w st ws sender m i ok = grind arith
data_at j Filled Bystander c e x d b w st ws sender m i ok = grind arith

pub data_facts : (h : Option Progress) (c : ℕ) (e : ℕ → Entry) (x : Mailbox) (d b w : ℕ) (st : State) (ws : Words) (sender : Party)
    → x.mail ≡ To (SetTagData d b w st ws sender) → GoodMailbox h c e x → DataFacts h c e x d b w st
data_facts None c e x d b w st ws sender m ok = grind arith
data_facts (Some h) c e x d b w st ws sender m ok = data_at h.job h.stage (role h.job c) c e x d b w st ws sender m refl ok

-- once the words are on their way, only the requestor's way differs from its entry
pub sent_at : (j : Job) (a : Role) (c : ℕ) (e : ℕ → Entry) (x : Mailbox) → InRole (at_stage Sent j) c e x a → (w : ℕ)
    → (a ≡ Requestor → w ≡ j.way → ⊥) → e w ≡ x.known w
sent_at j Requestor c e x ok w n = ok.1 w (n refl)
sent_at j (Giver p shown keeps writeback) c e x ok w n = ⊎_elim (λ i. rw i ok.2.0) (λ i. ok.1 w i) (cases_eq w p)
sent_at j Bystander c e x ok w n = ok.0 w

-- the requestor, by its role and by its number
pub requestor_is : (j : Job) (c : ℕ) → role j c ≡ Requestor → c ≡ j.requestor
requestor_is j c r = grind (arith, nat_tests)

pub requestor_role : (j : Job) → role j j.requestor ≡ Requestor
requestor_role j = rw (eq-eqb j.requestor j.requestor refl)

-- a mailbox, with the set's progress and the cache's role as they are
pub mailbox_at : (h : Option Progress) (j : Job) (s : Stage) (a : Role) (c : ℕ) (e : ℕ → Entry) (x : Mailbox) → h ≡ Some (at_stage s j) → role j c ≡ a
    → GoodMailbox h c e x → InRole (at_stage s j) c e x a
mailbox_at h j s a c e x i r ok = rw r at (rw i at ok)

-- after the fill every cache knows its entries
pub filled_at : (j : Job) (a : Role) (c : ℕ) (e : ℕ → Entry) (x : Mailbox) → InRole (at_stage Filled j) c e x a → (w : ℕ) → e w ≡ x.known w
filled_at j Requestor c e x ok w = ⊎_elim (λ i. rw i ok.2.0) (λ i. ok.1 w i) (cases_eq w j.way)
filled_at j (Giver p shown keeps writeback) c e x ok w = ⊎_elim (λ i. rw i ok.2.0) (λ i. ok.1 w i) (cases_eq w p)
filled_at j Bystander c e x ok w = ok.0 w

-- the requestor's mailbox
pub requestor_at : (g : Ghost) → Invariant g → (s : ℕ) (j : Job) (st : Stage) → g.progress s ≡ Some (at_stage st j)
    → InRole (at_stage st j) j.requestor (g.entry s j.requestor) (g.mailbox s j.requestor) Requestor
requestor_at g inv s j st h = rw (requestor_role j) at (rw h at (inv.mailboxes s j.requestor))

-- the requestor, the way and the block of a job are some that there are
pub job_range : (g : Ghost) → Invariant g → (s : ℕ) (j : Job) (st : Stage) → g.progress s ≡ Some (at_stage st j)
    → (j.requestor < g.geometry.caches) × (j.way < g.geometry.ways) × (j.block < g.geometry.blocks)
job_range g inv s j st h =
    let r : ℕ = j.requestor in
    let ok : GoodJob g.geometry s (g.entry s) j = rw h at (inv.jobs s) in
    let me = requestor_at g inv s j st h in
    let en = held_entry j.next j.block ok.gets in
    let there = inv.entries_home s r j.way (rw (me.0, en.0) ok.gets) in
    (there.1, there.2, subst (λ b. b < g.geometry.blocks) (ap (λ e. e.block) me.0 ∙ en.1) there.3)
