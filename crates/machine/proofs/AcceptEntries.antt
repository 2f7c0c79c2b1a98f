-- Which entries accepting a request leaves as they were, cache by cache.
use Rattle.std.proofs.Common.{◌≡◌, ℕ, Bool, true, false, cond, ◌&&◌, eqb, refl, ◌∙◌, arith}
use Rattle.std.proofs.lemmas.Bool.{eqb-true, and_parts}
use Rattle.std.proofs.lemmas.Bool.Decides.{nat_tests}
use Rattle.protocols.specs.declared.state.State.{State}
use Rattle.protocols.specs.declared.state.State.TheVariants.{I, S, E, M, O, F}
use Rattle.messages.specs.declared.command.Command.TheVariants.{Invalidate}
use Rattle.machine.specs.declared.holding.Entry.{Entry}
use Rattle.machine.specs.declared.transaction.Source.{Source}
use Rattle.machine.specs.declared.transaction.Source.TheVariants.{Memory, OwnCopy, Owner}
use Rattle.machine.specs.declared.transaction.Job.{Job}
use Rattle.machine.specs.Holdings.{no_entry, entry_in, is_write}
use Rattle.machine.specs.Directory.{sharing}
use Rattle.machine.specs.Acceptance.{dismissed}
use Rattle.machine.proofs.Updates.{update₂_there}
use Rattle.machine.proofs.Ghost.{Mail, Nothing, To}
use Rattle.machine.proofs.Mailboxes.{Requestor, Giver, Bystander, giver_role, role}
use Rattle.machine.proofs.MailFacts.{requestor_role}
use Rattle.machine.proofs.AcceptPlan.{hand_over, cleared, handed, settle}

-- an entry that is not in S with the block
dismissed_same : (t : Bool) (b : ℕ) (e : Entry) → (t ≡ true → e.state ≡ S → e.block ≡ b → ⊥) → dismissed t b e ≡ e
dismissed_same false b e n = refl
dismissed_same true b e n = go (sharing e.state && eqb e.block b) refl
  where
    is_S : (st : State) → sharing st ≡ true → st ≡ S
    is_S I h = grind arith
    is_S S h = refl
    is_S E h = grind arith
    is_S M h = grind arith
    is_S O h = grind arith
    is_S F h = grind arith

    go : (t : Bool) → (sharing e.state && eqb e.block b) ≡ t → cond t no_entry e ≡ e
    go true i = let p = and_parts (sharing e.state) (eqb e.block b) i in absurd (n refl (is_S e.state p.0) (eqb-true e.block b p.1))
    go false i = refl

-- not the place of an owner that hands over
abbrev pub NotOwner : Source → ℕ → ℕ → Type 0
NotOwner Memory c x = Unit {0}
NotOwner OwnCopy c x = Unit {0}
NotOwner (Owner o p shown keeps writeback) c x = c ≡ o → x ≡ p → ⊥

-- an entry that is not handed over
pub hand_there : (r : Source) (b : ℕ) (f : ℕ → ℕ → Entry) (c x : ℕ) → NotOwner r c x → hand_over r b f c x ≡ f c x
hand_there Memory b f c x n = refl
hand_there OwnCopy b f c x n = refl
hand_there (Owner o p shown keeps writeback) b f c x n = update₂_there f o p (entry_in keeps b) c x n

-- an entry that acceptance does not touch
pub untouched : (j : Job) (f : ℕ → ℕ → Entry) (c x : ℕ) → (c ≡ j.requestor → x ≡ j.way → ⊥) → NotOwner j.source c x
    → (is_write j.access ≡ true → (f c x).state ≡ S → (f c x).block ≡ j.block → ⊥) → settle j f c x ≡ f c x
untouched j f c x n o d = update₂_there (handed j f) j.requestor j.way (entry_in j.next j.block) c x n
    ∙ hand_there j.source j.block (cleared j f) c x o ∙ dismissed_same (is_write j.access) j.block (f c x) d

-- the owner that hands over is the source's
pub giver_source : (j : Job) (c p : ℕ) (shown keeps : State) (writeback : Bool) → role j c ≡ Giver p shown keeps writeback
    → j.source ≡ Owner c p shown keeps writeback
giver_source j c p shown keeps writeback r = go (eqb c j.requestor) j.source refl r
  where
    go : (t : Bool) (z : Source) → j.source ≡ z → cond t Requestor (giver_role z c) ≡ Giver p shown keeps writeback
        → j.source ≡ Owner c p shown keeps writeback
    go true z i q = grind arith
    go false Memory i q = grind arith
    go false OwnCopy i q = grind arith
    go false (Owner o a w k b) i q = at (eqb c o) refl q
      where
        at : (t : Bool) → eqb c o ≡ t → cond t (Giver a w k b) Bystander ≡ Giver p shown keeps writeback → j.source ≡ Owner c p shown keeps writeback
        at true e q = let co : c ≡ o = eqb-true c o e in cc
        at false e q = grind arith

-- a bystander is neither the requestor nor an owner that hands over
pub bystander_not : (j : Job) (c : ℕ) → role j c ≡ Bystander → (c ≡ j.requestor → ⊥) × ((x : ℕ) → NotOwner j.source c x)
bystander_not j c r = ((λ e. let z : role j c ≡ Requestor = rw e (requestor_role j) in clash z), λ x. go j.source refl x)
  where
    clash : role j c ≡ Requestor → ⊥
    clash z = grind arith

    go : (z : Source) → j.source ≡ z → (x : ℕ) → NotOwner z c x
    go Memory i x = tt
    go OwnCopy i x = tt
    go (Owner o p shown keeps writeback) i x = λ e _. grind (arith, nat_tests)

-- a sharer gets an Invalidate when the request writes; nobody else gets mail
pub record Dismisses (f : ℕ → ℕ → Entry) (j : Job) (c : ℕ) (m : Mail) : Type 0 where
  pub place : ℕ
  pub writing : is_write j.access ≡ true
  pub shown : f c place ≡ entry_in S j.block
  pub out : m ≡ To (Invalidate c j.block place)

-- a cache without mail shows no S of a block that is written
pub record Leaves (f : ℕ → ℕ → Entry) (j : Job) (c : ℕ) (m : Mail) : Type 0 where
  pub none : m ≡ Nothing
  pub not_shared : is_write j.access ≡ true → (x : ℕ) → (f c x).state ≡ S → (f c x).block ≡ j.block → ⊥
