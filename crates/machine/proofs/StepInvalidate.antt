-- An Invalidate that arrives keeps the invariant: the way is emptied, and the cache answers.
use Rattle.std.proofs.Common.{◌≡◌, ℕ, true, Some, None, Option, sym, refl, ◌∙◌, inl, inr, arith}
use Rattle.std.proofs.lemmas.Bool.{false≢true}
use Rattle.bedrock.specs.Geometries.{set_of}
use Rattle.protocols.specs.States.{dirty}
use Rattle.messages.specs.declared.command.Command.TheVariants.{Invalidate}
use Rattle.messages.specs.declared.response.Response.{Response}
use Rattle.machine.specs.declared.holding.Entry.{Entry}
use Rattle.machine.specs.declared.transaction.Job.{Job}
use Rattle.machine.specs.Holdings.{no_way, no_entry}
use Rattle.machine.specs.Coherence.{Agrees}
use Rattle.machine.proofs.Updates.{update, update_each, update₂_each, update_both, update_here, update_there}
use Rattle.machine.proofs.RowLaws.{surely_clean}
use Rattle.machine.proofs.Ghost.{Stage, Evicting, Clearing, Asked, Sent, Filled, Progress, at_stage, To, From, Mailbox, Ghost, set_way, set_mailbox}
use Rattle.machine.proofs.Mailboxes.{Role, Requestor, Giver, Bystander, role, InRole, GoodMailbox}
use Rattle.machine.proofs.Invariant.{GoodMail, Invariant}
use Rattle.machine.proofs.StateFacts.{surely_clean_is}
use Rattle.machine.proofs.Frames.{Weaker, weaker_same, weaker_none, copies_apart_after, copies_home_after, places_after, dirty_after, agrees_after, copies_after, no_answer}

-- the cache goes by nothing at way p, and answers
abbrev pub dropped_mailbox : Mailbox → ℕ → Response → Mailbox
dropped_mailbox x p r = record { known = update x.known p no_entry; mail = From r }

-- the requestor lets go of the block that its way had
victim_drops : (j : Job) (c : ℕ) (e : ℕ → Entry) (x : Mailbox) (d b p : ℕ) (r : Response) → x.mail ≡ To (Invalidate d b p)
    → InRole (at_stage Clearing j) c e x Requestor
    → (surely_clean (x.known p).state ≡ true) × InRole (at_stage Clearing j) c e (dropped_mailbox x p r) Requestor
victim_drops j c e x d b p r m ok = elim ok.2 [
  | inl q ↦ grind arith
  | inr l ↦ let pw : p ≡ j.way = cc (m, l.out) in (
    rw pw l.state,
    (
      ok.0,
      (λ w n. ok.1 w n ∙ sym (update_there x.known p no_entry w (rw pw n))),
      inl (rw (l.no_upgrade, pw) (update_here x.known j.way no_entry), inr (r, refl)),
    ),
  )
]

-- a sharer lets go of a block that is written
sharer_drops : (j : Job) (c : ℕ) (e : ℕ → Entry) (x : Mailbox) (d b p : ℕ) (r : Response) → x.mail ≡ To (Invalidate d b p)
    → InRole (at_stage Clearing j) c e x Bystander
    → (surely_clean (x.known p).state ≡ true) × InRole (at_stage Clearing j) c e (dropped_mailbox x p r) Bystander
sharer_drops j c e x d b p r m ok = elim ok [
  | inl q ↦ grind arith
  | inr l ↦ let pw : p ≡ l.place = cc (m, l.out) in (
    rw (pw, l.shown) refl,
    inl (update_each (λ w o. e w ≡ o) x.known p no_entry (rw pw l.final) (λ w n. l.rest w (rw pw at n)), inr (r, refl)),
  )
]

-- nobody else has an Invalidate in the mail; what is let go of was surely clean
pub drops_at : (j : Job) (st : Stage) (a : Role) (c : ℕ) (e : ℕ → Entry) (x : Mailbox) (d b p : ℕ) (r : Response) → x.mail ≡ To (Invalidate d b p)
    → InRole (at_stage st j) c e x a → (surely_clean (x.known p).state ≡ true) × InRole (at_stage st j) c e (dropped_mailbox x p r) a
drops_at j Evicting Requestor c e x d b p r m ok = grind arith
drops_at j Clearing Requestor c e x d b p r m ok = victim_drops j c e x d b p r m ok
drops_at j Asked Requestor c e x d b p r m ok = grind arith
drops_at j Sent Requestor c e x d b p r m ok = grind arith
drops_at j Filled Requestor c e x d b p r m ok = grind arith
drops_at j Evicting (Giver q shown keeps writeback) c e x d b p r m ok = grind arith
drops_at j Clearing (Giver q shown keeps writeback) c e x d b p r m ok = grind arith
drops_at j Asked (Giver q shown keeps writeback) c e x d b p r m ok = grind arith
drops_at j Sent (Giver q shown keeps writeback) c e x d b p r m ok = grind arith
drops_at j Filled (Giver q shown keeps writeback) c e x d b p r m ok = grind arith
drops_at j Evicting Bystander c e x d b p r m ok = sharer_drops j c e x d b p r m ok
drops_at j Clearing Bystander c e x d b p r m ok = sharer_drops j c e x d b p r m ok
drops_at j Asked Bystander c e x d b p r m ok = grind arith
drops_at j Sent Bystander c e x d b p r m ok = grind arith
drops_at j Filled Bystander c e x d b p r m ok = grind arith

pub drops : (h : Option Progress) (c : ℕ) (e : ℕ → Entry) (x : Mailbox) (d b p : ℕ) (r : Response) → x.mail ≡ To (Invalidate d b p)
    → GoodMailbox h c e x → (surely_clean (x.known p).state ≡ true) × GoodMailbox h c e (dropped_mailbox x p r)
drops None c e x d b p r m ok = grind arith
drops (Some h) c e x d b p r m ok = drops_at h.job h.stage (role h.job c) c e x d b p r m ok

pub invalidate_keeps : (g : Ghost) → Invariant g → (s c d b p : ℕ) (r : Response) → (g.mailbox s c).mail ≡ To (Invalidate d b p)
    → Invariant (set_way (set_mailbox g s c (dropped_mailbox (g.mailbox s c) p r)) s c p no_way)
invalidate_keeps g inv s c d b p r m = record {
  mailboxes = update₂_each (λ t a z. GoodMailbox (g.progress t) a (g.entry t a) z) g.mailbox s c y here.1 (λ t a _. inv.mailboxes t a);
  jobs = inv.jobs;
  entries_apart = inv.entries_apart;
  entries_home = inv.entries_home;
  blanks = inv.blanks;
  waits = inv.waits;
  asks = inv.asks;
  ranges = inv.ranges;
  pendings = inv.pendings;
  pending_ranges = inv.pending_ranges;
  copies_apart = copies_apart_after g inv s c y weak;
  copies_home = copies_home_after g inv s c y weak;
  places = places_after g inv s c y weak;
  agrees = agrees_after g inv s c p no_way y
      (update_both (λ w o v. Agrees o v) x.known (g.way s c) p no_entry no_way (record { state = refl; block = refl }) (λ w _. inv.agrees s c w));
  copies = copies_after g g.at_memory s c p no_way (λ h. absurd (false≢true h)) (λ t a w _. inv.copies t a w);
  mails = update₂_each (λ t a z. GoodMail g.at_memory z.mail) g.mailbox s c y (λ _ _ _ _ _ _ q. absurd (no_answer q))
      (λ t a _. inv.mails t a);
  newest = λ k. elim (inv.newest k)
      [ inl q ↦ inl q | inr q ↦ inr (elim q [ inl u ↦ inl (dirty_after g.way s c p no_way clean (set_of g.geometry k) k u) | inr u ↦ inr u ]) ];
}
  where
    x : Mailbox
    x = g.mailbox s c

    y : Mailbox
    y = dropped_mailbox x p r

    here : (surely_clean (x.known p).state ≡ true) × GoodMailbox (g.progress s) c (g.entry s c) y
    here = drops (g.progress s) c (g.entry s c) x d b p r m (inv.mailboxes s c)

    weak : (w : ℕ) → Weaker (y.known w) (x.known w)
    weak = update_each (λ w o. Weaker o (x.known w)) x.known p no_entry (weaker_none (x.known p)) (λ w _. weaker_same (x.known w))

    clean : dirty (g.way s c p).state ≡ true → (dirty no_way.state ≡ true) × (no_way.block ≡ (g.way s c p).block)
    clean k = absurd (surely_clean_is (x.known p).state (g.way s c p).state (inv.agrees s c p).state here.0 k)
