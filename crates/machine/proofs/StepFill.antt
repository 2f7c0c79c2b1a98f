-- A Set Tag with Data that arrives, and a Set State with Wakeup, keep the invariant: the requestor is filled.
use Rattle.std.proofs.Common.{◌≡◌, ℕ, ◌⊎◌, Some, refl, inr, ⊎_elim, arith}
use Rattle.std.proofs.lemmas.Bool.{cases_eq}
use Rattle.std.proofs.lemmas.Bool.Decides.{nat_tests}
use Rattle.bedrock.specs.declared.words.Words.{Words}
use Rattle.protocols.specs.declared.state.State.TheVariants.{M}
use Rattle.machine.specs.declared.holding.Entry.{Entry}
use Rattle.machine.specs.declared.transaction.Source.TheVariants.{OwnCopy}
use Rattle.machine.specs.declared.transaction.Job.{Job}
use Rattle.machine.proofs.Ghost.{Asked, Sent, Filled, at_stage, Mailbox, Ghost}
use Rattle.machine.proofs.Mailboxes.{Role, Requestor, Giver, Bystander, role, InRole}
use Rattle.machine.proofs.Invariant.{GoodJob, Invariant}
use Rattle.machine.proofs.MailFacts.{requestor_is, requestor_at}
use Rattle.machine.proofs.Filling.{after_fill, fill_keeps}

-- the other caches do not tell Sent from Filled
sent_filled : (j : Job) (a : Role) (c : ℕ) (e : ℕ → Entry) (x : Mailbox) → role j c ≡ a → (c ≡ j.requestor → ⊥) → InRole (at_stage Sent j) c e x a
    → InRole (at_stage Filled j) c e x a
sent_filled j Requestor c e x r n ok = absurd (n (requestor_is j c r))
sent_filled j (Giver p shown keeps writeback) c e x r n ok = ok
sent_filled j Bystander c e x r n ok = ok

-- nor, in an upgrade, Asked from Filled
asked_filled : (j : Job) (a : Role) (c : ℕ) (e : ℕ → Entry) (x : Mailbox) → j.source ≡ OwnCopy → role j c ≡ a → (c ≡ j.requestor → ⊥)
    → InRole (at_stage Asked j) c e x a → InRole (at_stage Filled j) c e x a
asked_filled j Requestor c e x m r n ok = absurd (n (requestor_is j c r))
asked_filled j (Giver p shown keeps writeback) c e x m r n ok = grind (arith, nat_tests)
asked_filled j Bystander c e x m r n ok = ok

-- the words are the latest, or a store made them from these
pub data_keeps : (g : Ghost) → Invariant g → (s : ℕ) (j : Job) (ws : Words) → g.progress s ≡ Some (at_stage Sent j)
    → (ws ≡ (g.at_memory j.block).latest) ⊎ (j.next ≡ M) → Invariant (after_fill g s j ws)
data_keeps g inv s j ws h good =
    let me = requestor_at g inv s j Sent h in
    fill_keeps g inv s j Sent ws h refl
    (me.0, me.1) me.2.0 (λ c n. sent_filled j (role j c) c (g.entry s c) (g.mailbox s c) refl n (rw h at (inv.mailboxes s c)))
    (λ b e. rw (e, h) at (inv.pendings b)) good

-- the words are those of the requestor's own copy, or what a store made of them
pub wakeup_keeps : (g : Ghost) → Invariant g → (s : ℕ) (j : Job) (ws : Words) → g.progress s ≡ Some (at_stage Asked j) → j.source ≡ OwnCopy
    → Invariant (after_fill g s j ws)
wakeup_keeps g inv s j ws h m =
    let me = requestor_at g inv s j Asked h in
    let ok : GoodJob g.geometry s (g.entry s) j = rw h at (inv.jobs s) in
    fill_keeps g inv s j Asked ws h refl
    (me.0, me.1) me.2.0 (λ c n. asked_filled j (role j c) c (g.entry s c) (g.mailbox s c) m refl n (rw h at (inv.mailboxes s c)))
    (λ b e. let q = rw (e, h) at (inv.pendings b) in
    ⊎_elim (λ i. rw (q.0 i, m) refl) (λ n. q.1 n) (cases_eq b j.block)) (inr (ok.writes (ok.upgrades (rw m at ok.source))))
