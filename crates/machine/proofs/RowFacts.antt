-- What a lawful row tells of the states that the requestor and the owner get.
use Rattle.std.proofs.Common.{◌≡◌, Bool, true, false, refl, inl, inr, arith}
use Rattle.std.proofs.lemmas.Bool.{false≢true}
use Rattle.protocols.specs.declared.state.State.{State}
use Rattle.protocols.specs.declared.state.State.TheVariants.{I, S, E, M, O, F}
use Rattle.protocols.specs.declared.row.Row.{Row}
use Rattle.protocols.specs.States.{held, owning, writable}
use Rattle.machine.proofs.RowLaws.{surely_clean, OwnedRow, LawfulRow}
use Rattle.machine.proofs.Mailboxes.{read_only}
use Rattle.machine.proofs.Invariant.{go_together}
use Rattle.machine.proofs.StateFacts.{writable_held, surely_clean_held, read_only_S}

pub held_not_owning : (st : State) → held st ≡ true → owning st ≡ false → st ≡ S
held_not_owning I h o = grind arith
held_not_owning S h o = refl
held_not_owning E h o = grind arith
held_not_owning M h o = grind arith
held_not_owning O h o = grind arith
held_not_owning F h o = grind arith

pub surely_clean_read_only : (st : State) → surely_clean st ≡ true → read_only st ≡ true
surely_clean_read_only I h = grind arith
surely_clean_read_only S h = refl
surely_clean_read_only E h = grind arith
surely_clean_read_only M h = grind arith
surely_clean_read_only O h = grind arith
surely_clean_read_only F h = refl

-- a copy held that is no hit for a store is read only
pub held_read_only : (st : State) → held st ≡ true → writable st ≡ false → read_only st ≡ true
held_read_only I h w = grind arith
held_read_only S h w = refl
held_read_only E h w = grind arith
held_read_only M h w = grind arith
held_read_only O h w = refl
held_read_only F h w = refl

-- the requestor gets a copy
pub lawful_gets : (st : State) (r : Row) → LawfulRow st r → held r.requestor ≡ true
lawful_gets I r l = elim l [ inl h ↦ surely_clean_held r.requestor h | inr h ↦ writable_held r.requestor h ]
lawful_gets S r l = surely_clean_held r.requestor l
lawful_gets E r l = l.gets
lawful_gets M r l = l.gets
lawful_gets O r l = l.gets
lawful_gets F r l = l.gets

pub owned_row_of : (st : State) (r : Row) → owning st ≡ true → LawfulRow st r → OwnedRow st r
owned_row_of I r o l = grind arith
owned_row_of S r o l = grind arith
owned_row_of E r o l = l
owned_row_of M r o l = l
owned_row_of O r o l = l
owned_row_of F r o l = l

-- what the requestor gets goes together with what the owner keeps
pub row_pair : (st : State) (r : Row) → OwnedRow st r → held r.owner ≡ true → go_together r.requestor r.owner ≡ true
row_pair st r l h = go (writable r.requestor) refl
  where
    go : (t : Bool) → writable r.requestor ≡ t → go_together r.requestor r.owner ≡ true
    go true w = absurd (false≢true (rw (l.sole w).1 at h))
    go false w = elim l.one_owner [
      | inl a ↦ rw (held_not_owning r.owner h a) (read_only_S r.requestor (held_read_only r.requestor l.gets w)).0
      | inr a ↦ rw (held_not_owning r.requestor l.gets a) (read_only_S r.owner (held_read_only r.owner h l.lets_go)).1
    ]
