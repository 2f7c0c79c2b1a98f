-- Facts about single states, and about entries and ways in a state, each by cases.
use Rattle.std.proofs.Common.{◌≡◌, ℕ, true, false, refl, inl, inr, arith}
use Rattle.std.proofs.lemmas.Bool.{false≢true}
use Rattle.bedrock.specs.declared.words.Words.{Words}
use Rattle.protocols.specs.declared.state.State.{State}
use Rattle.protocols.specs.declared.state.State.TheVariants.{I, S, E, M, O, F}
use Rattle.protocols.specs.States.{held, owning, writable, dirty, may_be_dirty}
use Rattle.machine.specs.Holdings.{way_in, entry_in}
use Rattle.machine.specs.Coherence.{Shows, Agrees}
use Rattle.machine.proofs.RowLaws.{surely_clean}
use Rattle.machine.proofs.Mailboxes.{read_only}
use Rattle.machine.proofs.Invariant.{go_together, Blank}

-- ---- what an entry shows and what the way is in (E may be M)

pub shows_held : (e v : State) → Shows e v → held v ≡ true → held e ≡ true
shows_held I v f h = rw f at h
shows_held S v f h = refl
shows_held E v f h = refl
shows_held M v f h = refl
shows_held O v f h = refl
shows_held F v f h = refl

pub shows_writable : (e v : State) → Shows e v → writable v ≡ true → writable e ≡ true
shows_writable I v f h = rw f at h
shows_writable S v f h = rw f at h
shows_writable E v f h = refl
shows_writable M v f h = refl
shows_writable O v f h = rw f at h
shows_writable F v f h = rw f at h

-- a store that hits may happen under the entry
pub shows_store : (e v : State) → Shows e v → writable v ≡ true → Shows e M
shows_store I v f h = absurd (false≢true (rw f at h))
shows_store S v f h = absurd (false≢true (rw f at h))
shows_store E v f h = inr refl
shows_store M v f h = refl
shows_store O v f h = absurd (false≢true (rw f at h))
shows_store F v f h = absurd (false≢true (rw f at h))

pub shows_owning : (e v : State) → Shows e v → owning e ≡ true → held v ≡ true
shows_owning I v f o = absurd (false≢true o)
shows_owning S v f o = absurd (false≢true o)
shows_owning E v f o = elim f [ inl q ↦ rw q refl | inr q ↦ rw q refl ]
shows_owning M v f o = rw f refl
shows_owning O v f o = rw f refl
shows_owning F v f o = rw f refl

-- what is shown in S or F is not dirty
pub surely_clean_is : (e v : State) → Shows e v → surely_clean e ≡ true → dirty v ≡ true → ⊥
surely_clean_is I v f h k = false≢true h
surely_clean_is S v f h k = false≢true (rw f at k)
surely_clean_is E v f h k = false≢true h
surely_clean_is M v f h k = false≢true h
surely_clean_is O v f h k = false≢true h
surely_clean_is F v f h k = false≢true (rw f at k)

-- ---- tests that imply that the block is held

pub writable_held : (e : State) → writable e ≡ true → held e ≡ true
writable_held I h = h
writable_held S h = refl
writable_held E h = refl
writable_held M h = refl
writable_held O h = refl
writable_held F h = refl

pub dirty_held : (st : State) → dirty st ≡ true → held st ≡ true
dirty_held I h = h
dirty_held S h = refl
dirty_held E h = refl
dirty_held M h = refl
dirty_held O h = refl
dirty_held F h = refl

pub may_be_dirty_held : (st : State) → may_be_dirty st ≡ true → held st ≡ true
may_be_dirty_held I h = h
may_be_dirty_held S h = refl
may_be_dirty_held E h = refl
may_be_dirty_held M h = refl
may_be_dirty_held O h = refl
may_be_dirty_held F h = refl

pub owning_held : (st : State) → owning st ≡ true → held st ≡ true
owning_held I h = h
owning_held S h = refl
owning_held E h = refl
owning_held M h = refl
owning_held O h = refl
owning_held F h = refl

pub read_only_held : (st : State) → read_only st ≡ true → held st ≡ true
read_only_held I l = l
read_only_held S l = refl
read_only_held E l = refl
read_only_held M l = refl
read_only_held O l = refl
read_only_held F l = refl

pub surely_clean_held : (st : State) → surely_clean st ≡ true → held st ≡ true
surely_clean_held I h = h
surely_clean_held S h = refl
surely_clean_held E h = refl
surely_clean_held M h = refl
surely_clean_held O h = refl
surely_clean_held F h = refl

-- ---- which states go together

pub writable_alone : (e f : State) → writable e ≡ true → go_together e f ≡ true → ⊥
writable_alone I f h t = false≢true h
writable_alone S f h t = false≢true h
writable_alone E f h t = false≢true t
writable_alone M f h t = false≢true t
writable_alone O f h t = false≢true h
writable_alone F f h t = false≢true h

-- beside an owner there is only S
pub beside_owner : (shown st : State) → owning shown ≡ true → go_together shown st ≡ true → st ≡ S
beside_owner shown I o t = grind arith
beside_owner shown S o t = refl
beside_owner shown E o t = grind arith
beside_owner shown M o t = grind arith
beside_owner shown O o t = grind arith
beside_owner shown F o t = grind arith

pub owner_beside : (shown st : State) → owning shown ≡ true → go_together st shown ≡ true → st ≡ S
owner_beside shown I o t = grind arith
owner_beside shown S o t = refl
owner_beside shown E o t = grind arith
owner_beside shown M o t = grind arith
owner_beside shown O o t = grind arith
owner_beside shown F o t = grind arith

-- a copy that is read only goes with S
pub read_only_S : (st : State) → read_only st ≡ true → (go_together st S ≡ true) × (go_together S st ≡ true)
read_only_S I l = absurd (false≢true l)
read_only_S S l = (refl, refl)
read_only_S E l = absurd (false≢true l)
read_only_S M l = absurd (false≢true l)
read_only_S O l = (refl, refl)
read_only_S F l = (refl, refl)

-- the order of the two does not matter
pub together_sym : (a b : State) → go_together a b ≡ go_together b a
together_sym I b = grind arith
together_sym S b = elim b as (λ b. go_together S b ≡ go_together b S) [ I ↦ refl | S ↦ refl | E ↦ refl | M ↦ refl | O ↦ refl | F ↦ refl ]
together_sym E b = grind arith
together_sym M b = grind arith
together_sym O b = elim b as (λ b. go_together O b ≡ go_together b O) [ I ↦ refl | S ↦ refl | E ↦ refl | M ↦ refl | O ↦ refl | F ↦ refl ]
together_sym F b = elim b as (λ b. go_together F b ≡ go_together b F) [ I ↦ refl | S ↦ refl | E ↦ refl | M ↦ refl | O ↦ refl | F ↦ refl ]

-- ---- entries and ways in a state

pub held_entry : (st : State) (b : ℕ) → held st ≡ true → ((entry_in st b).state ≡ st) × ((entry_in st b).block ≡ b)
held_entry I b h = absurd (false≢true h)
held_entry S b h = (refl, refl)
held_entry E b h = (refl, refl)
held_entry M b h = (refl, refl)
held_entry O b h = (refl, refl)
held_entry F b h = (refl, refl)

pub entry_held : (st : State) (b : ℕ) → held (entry_in st b).state ≡ true → held st ≡ true
entry_held I b h = h
entry_held S b h = refl
entry_held E b h = refl
entry_held M b h = refl
entry_held O b h = refl
entry_held F b h = refl

pub entry_blank : (st : State) (b : ℕ) → Blank (entry_in st b)
entry_blank I b h = refl
entry_blank S b h = grind arith
entry_blank E b h = grind arith
entry_blank M b h = grind arith
entry_blank O b h = grind arith
entry_blank F b h = grind arith

-- an entry and a way in one state
pub agrees_in : (st : State) (b : ℕ) (ws : Words) → Agrees (entry_in st b) (way_in st b ws)
agrees_in I b ws = record { state = refl; block = refl }
agrees_in S b ws = record { state = refl; block = refl }
agrees_in E b ws = record { state = inl refl; block = refl }
agrees_in M b ws = record { state = refl; block = refl }
agrees_in O b ws = record { state = refl; block = refl }
agrees_in F b ws = record { state = refl; block = refl }

pub way_is : (st : State) (b : ℕ) (ws : Words) → held st ≡ true
    → ((way_in st b ws).state ≡ st) × ((way_in st b ws).block ≡ b) × ((way_in st b ws).words ≡ ws)
way_is I b ws h = absurd (false≢true h)
way_is S b ws h = (refl, refl, refl)
way_is E b ws h = (refl, refl, refl)
way_is M b ws h = (refl, refl, refl)
way_is O b ws h = (refl, refl, refl)
way_is F b ws h = (refl, refl, refl)

pub way_none : (st : State) (b : ℕ) (ws : Words) → held st ≡ false → held (way_in st b ws).state ≡ false
way_none I b ws h = refl
way_none S b ws h = h
way_none E b ws h = h
way_none M b ws h = h
way_none O b ws h = h
way_none F b ws h = h
