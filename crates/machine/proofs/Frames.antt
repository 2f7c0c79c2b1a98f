-- What a step leaves alone: parts of the invariant that hold after a small change.
use Rattle.std.proofs.Common.{◌≡◌, ℕ, ◌<◌, true, false, ◌⊎◌, Some, None, Option, sym, refl, ap, ◌∙◌, subst, inl, inr, arith}
use Rattle.std.proofs.lemmas.Bool.{false≢true}
use Rattle.bedrock.specs.Geometries.{set_of}
use Rattle.protocols.specs.declared.state.State.{State}
use Rattle.protocols.specs.declared.state.State.TheVariants.{I, S, E, M, O, F}
use Rattle.protocols.specs.States.{held, owning, writable, dirty}
use Rattle.messages.specs.declared.command.Command.{Command}
use Rattle.messages.specs.declared.response.Response.{Response}
use Rattle.machine.specs.declared.holding.Way.{Way}
use Rattle.machine.specs.declared.holding.Entry.{Entry}
use Rattle.machine.specs.declared.transaction.Job.{Job}
use Rattle.machine.specs.Holdings.{no_entry, entry_in}
use Rattle.machine.specs.Coherence.{Agrees}
use Rattle.machine.proofs.Updates.{update, update₂, update₃, update_each, update₂_each, update₂_both}
use Rattle.machine.proofs.Ghost.{Stage, Sent, Progress, at_stage, Nothing, To, From, Mailbox, BlockAtMemory, Ghost}
use Rattle.machine.proofs.Mailboxes.{read_only}
use Rattle.machine.proofs.Invariant.{go_together, AllApart, AtHome, GoodPlace, GoodCopy, DirtyCopy, DirtyOnTheWay, Newest, Invariant}
use Rattle.machine.proofs.StateFacts.{owning_held, beside_owner, owner_beside, held_entry}

-- an entry that excludes less than the one before: nothing, the same, or the same block in a state that goes with more
pub record Weaker (new before : Entry) : Type 0 where
  pub had : held new.state ≡ true → held before.state ≡ true
  pub same : held new.state ≡ true → before.block ≡ new.block
  pub left : (st : State) → held new.state ≡ true → go_together before.state st ≡ true → go_together new.state st ≡ true
  pub right : (st : State) → held new.state ≡ true → go_together st before.state ≡ true → go_together st new.state ≡ true
  pub reads_only : held new.state ≡ true → read_only before.state ≡ true → read_only new.state ≡ true

-- the same, and nothing
pub weaker_same : (e : Entry) → Weaker e e
weaker_same e = record { had = λ h. h; same = λ _. refl; left = λ _ _ t. t; right = λ _ _ t. t; reads_only = λ _ l. l }

pub weaker_none : (e : Entry) → Weaker no_entry e
weaker_none e = record {
  had = λ h. absurd (false≢true h);
  same = λ h. absurd (false≢true h);
  left = λ _ h. absurd (false≢true h);
  right = λ _ h. absurd (false≢true h);
  reads_only = λ h. absurd (false≢true h);
}

-- a copy that is read only excludes less than an owner
weaker_read_only : (shown : State) (b : ℕ) (e : Entry) → owning shown ≡ true → e.block ≡ b → read_only e.state ≡ true
    → go_together e.state S ≡ true → go_together S e.state ≡ true → Weaker e (entry_in shown b)
weaker_read_only shown b e o bl l t u =
    let i = held_entry shown b (owning_held shown o) in
    record {
      had = λ _. rw i.0 (owning_held shown o);
      same = λ _. i.1 ∙ sym bl;
      left = λ st _ q. rw (beside_owner shown st o (rw i.0 at q)) t;
      right = λ st _ q. rw (owner_beside shown st o (rw i.0 at q)) u;
      reads_only = λ _ _. l;
    }

-- an owner that lets go excludes less
pub weaker_owner : (shown keeps : State) (b : ℕ) → owning shown ≡ true → writable keeps ≡ false → Weaker (entry_in keeps b) (entry_in shown b)
weaker_owner shown I b o k = weaker_none (entry_in shown b)
weaker_owner shown S b o k = weaker_read_only shown b (record { state = S; block = b }) o refl refl refl refl
weaker_owner shown E b o k = absurd (false≢true (sym k))
weaker_owner shown M b o k = absurd (false≢true (sym k))
weaker_owner shown O b o k = weaker_read_only shown b (record { state = O; block = b }) o refl refl refl refl
weaker_owner shown F b o k = weaker_read_only shown b (record { state = F; block = b }) o refl refl refl refl

-- entries that exclude less are still apart
pub shrinks : (f g : ℕ → ℕ → Entry) → ((c w : ℕ) → Weaker (g c w) (f c w)) → AllApart f → AllApart g
shrinks f g we ex c w d x n h k e =
    let a = we c w in let b = we d x in
    let r = ex c w d x n (a.had h) (b.had k) (a.same h ∙ e ∙ sym (b.same k)) in
    (r.0, b.right (g c w).state k (a.left (f d x).state h r.1))

-- one mailbox changes, and the cache goes by less than before
module _ (g : Ghost) (inv : Invariant g) (s c : ℕ) (y : Mailbox) (weak : (w : ℕ) → Weaker (y.known w) ((g.mailbox s c).known w)) where
  all_weaker : (t d : ℕ) (w : ℕ) → Weaker ((update₂ g.mailbox s c y t d).known w) ((g.mailbox t d).known w)
  all_weaker = update₂_each (λ t d z. (w : ℕ) → Weaker (z.known w) ((g.mailbox t d).known w)) g.mailbox s c y weak
      (λ t d _ w. weaker_same ((g.mailbox t d).known w))

  pub copies_apart_after : (t : ℕ) → AllApart (λ d. (update₂ g.mailbox s c y t d).known)
  copies_apart_after t = shrinks (λ d. (g.mailbox t d).known) (λ d. (update₂ g.mailbox s c y t d).known) (all_weaker t) (inv.copies_apart t)

  pub copies_home_after : (t d w : ℕ) → AtHome g.geometry t d w ((update₂ g.mailbox s c y t d).known w)
  copies_home_after t d w h = let a = all_weaker t d w in let o = inv.copies_home t d w (a.had h) in
      (ap (set_of g.geometry) (sym (a.same h)) ∙ o.0, o.1, o.2, subst (λ b. b < g.geometry.blocks) (a.same h) o.3)

  pub places_after : (t d : ℕ) → GoodPlace (update₂ g.mailbox s c y t d) (g.waiter d)
  places_after t d q e w h k = let a = all_weaker t d w in
      let r = inv.places t d q e w (a.had h) (a.same h ∙ k) in (r.0, r.1, a.reads_only h r.2)

-- a dirty copy elsewhere, or one that stays dirty
pub dirty_after : (f : ℕ → ℕ → ℕ → Way) (s c p : ℕ) (v : Way)
    → (dirty (f s c p).state ≡ true → (dirty v.state ≡ true) × (v.block ≡ (f s c p).block))
    → (t b : ℕ) → DirtyCopy (f t) b → DirtyCopy (update₃ f s c p v t) b
dirty_after f s c p v still t b q =
    let r = update₂_each (λ u d h. (w : ℕ) → dirty (f u d w).state ≡ true → (dirty (h w).state ≡ true) × ((h w).block ≡ (f u d w).block))
    f s c (update (f s c) p v)
    (update_each (λ w z. dirty (f s c w).state ≡ true → (dirty z.state ≡ true) × (z.block ≡ (f s c w).block)) (f s c) p v still
    (λ w _ h. (h, refl)))
    (λ u d _ w h. (h, refl)) t q.cache q.way q.state in
    record { cache = q.cache; way = q.way; state = r.0; block = r.1 ∙ q.block }

-- one way changes, and its mailbox
pub agrees_after : (g : Ghost) → Invariant g → (s c p : ℕ) (v : Way) (y : Mailbox) → ((w : ℕ) → Agrees (y.known w) (update (g.way s c) p v w))
    → (t d w : ℕ) → Agrees ((update₂ g.mailbox s c y t d).known w) (update₃ g.way s c p v t d w)
agrees_after g inv s c p v y here = update₂_both (λ t d z h. (w : ℕ) → Agrees (z.known w) (h w)) g.mailbox g.way s c y
    (update (g.way s c) p v) here (λ t d _. inv.agrees t d)

-- one way changes: every copy has the latest words
pub copies_after : (g : Ghost) (blocks : ℕ → BlockAtMemory) (s c p : ℕ) (v : Way) → GoodCopy blocks v
    → ((t d w : ℕ) → (t ≡ s → d ≡ c → w ≡ p → ⊥) → GoodCopy blocks (g.way t d w)) → (t d w : ℕ) → GoodCopy blocks (update₃ g.way s c p v t d w)
copies_after g blocks s c p v here there = update₂_each (λ t d h. (w : ℕ) → GoodCopy blocks (h w)) g.way s c (update (g.way s c) p v)
    (update_each (λ w z. GoodCopy blocks z) (g.way s c) p v here (λ w n. there s c w (λ _ _ e. n e))) (λ t d n w. there t d w (λ e f _. n e f))

-- one mail is not another, and none is not some
pub none_some : {A : Type 0} (o : A) → None ≡ Some o → ⊥
none_some o e = let z : ◌≡◌ {A = ℕ} 0 1 = cc in omega arith

pub no_answer : {r : Response} {k : Command} → From r ≡ To k → ⊥
no_answer e = let z : ◌≡◌ {A = ℕ} 0 1 = cc in omega arith

pub no_mail_to : {k : Command} → Nothing ≡ To k → ⊥
no_mail_to e = let z : ◌≡◌ {A = ℕ} 0 1 = cc in omega arith

-- no dirty data was on its way in the set: then its progress does not matter
pub newest_progress : (v : ℕ → ℕ → Way) (h i : Option Progress) (b : ℕ) (k : BlockAtMemory) → (DirtyOnTheWay h b → ⊥) → Newest v h b k
    → Newest v i b k
newest_progress v h i b k n f = elim f [ inl q ↦ inl q | inr q ↦ inr (elim q [ inl u ↦ inl u | inr u ↦ absurd (n u) ]) ]

-- only at Sent is data on its way
pub not_sent : (j : Job) (s : Stage) (b : ℕ) → (s ≡ Sent → ⊥) → DirtyOnTheWay (Some (at_stage s j)) b → ⊥
not_sent j s b n q = let e : ◌≡◌ {A = Progress} (at_stage s j) (at_stage Sent q.job) = cc in n (ap (λ z. z.stage) e)

-- one way changes: it matters only where it was the dirty copy itself
pub newest_way : (f : ℕ → ℕ → ℕ → Way) (s c p : ℕ) (v : Way) (t : ℕ) (h : Option Progress) (b : ℕ) (k : BlockAtMemory) → Newest (f t) h b k
    → (t ≡ s → dirty (f s c p).state ≡ true → (f s c p).block ≡ b → Newest (update₃ f s c p v t) h b k) → Newest (update₃ f s c p v t) h b k
newest_way f s c p v t h b k fr mine = elim fr [
  | inl q ↦ inl q
  | inr q ↦ elim q [
    | inr u ↦ inr (inr u)
    | inl u ↦
        elim (cases t u.cache u.way u.state u.block)
        [ inl z ↦ inr (inl (record { cache = u.cache; way = u.way; state = z.0; block = z.1 })) | inr z ↦ mine z.0 z.1 z.2 ]
  ]
]
  where
    -- the dirty copy of the block is another one, or it was this way
    StillOrThis : ℕ → Way → Type 0
    StillOrThis u z = ((dirty z.state ≡ true) × (z.block ≡ b)) ⊎ ((u ≡ s) × (dirty (f s c p).state ≡ true) × ((f s c p).block ≡ b))

    cases : (u d w : ℕ) → dirty (f u d w).state ≡ true → (f u d w).block ≡ b → StillOrThis u (update₃ f s c p v u d w)
    cases = update₂_each (λ u d z. (w : ℕ) → dirty (f u d w).state ≡ true → (f u d w).block ≡ b → StillOrThis u (z w)) f s c (update (f s c) p v)
        (update_each (λ w z. dirty (f s c w).state ≡ true → (f s c w).block ≡ b → StillOrThis s z) (f s c) p v
        (λ x y. inr (refl, x, y)) (λ w _ x y. inl (x, y)))
        (λ u d _ w x y. inl (x, y))
