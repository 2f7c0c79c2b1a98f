-- A set comes to another stage, and what is on its way for one of its blocks changes: what holds of every block after that.
use Rattle.std.proofs.Common.{◌≡◌, ℕ, true, Some, Option, sym, refl, ◌∙◌}
use Rattle.bedrock.specs.Geometries.{Sizes, set_of}
use Rattle.protocols.specs.States.{dirty}
use Rattle.machine.specs.declared.holding.Way.{Way}
use Rattle.machine.proofs.Updates.{update, update₃, update_each}
use Rattle.machine.proofs.Ghost.{Progress, BlockAtMemory, Ghost}
use Rattle.machine.proofs.Invariant.{GoodPending, PendingInRange, DirtyOnTheWay, Newest, Invariant}
use Rattle.machine.proofs.Frames.{newest_progress, newest_way}

-- what holds of the block, of the set's other blocks, and of the blocks of other sets, holds of all
all_blocks : (n : Sizes) (P : ℕ → Option Progress → ℕ → BlockAtMemory → Type 0) (f : ℕ → Option Progress) (a : ℕ → BlockAtMemory) (s b : ℕ)
    (h : Option Progress) (k : BlockAtMemory) → set_of n b ≡ s → P s h b k → ((i : ℕ) → (i ≡ b → ⊥) → set_of n i ≡ s → P s h i (a i))
    → ((t i : ℕ) → (t ≡ s → ⊥) → set_of n i ≡ t → P t (f t) i (a i))
    → (i : ℕ) → P (set_of n i) (update f s h (set_of n i)) i (update a b k i)
all_blocks n P f a s b h k home here same other i =
    update_each (λ t z. set_of n i ≡ t → P t z i (update a b k i)) f s h
    (λ e. update_each (λ d z. set_of n d ≡ s → P s h d z) a b k (λ _. here) same i e)
    (λ t m e. update_each (λ d z. set_of n d ≡ t → P t (f t) d z) a b k (λ q. absurd (m (sym q ∙ home))) (λ d _. other t d m) i e)
    (set_of n i) refl

module _ (g : Ghost) (inv : Invariant g) (s b : ℕ) (h : Progress) (k : BlockAtMemory) (home : set_of g.geometry b ≡ s) where
  -- what is on its way
  pub pendings_after : GoodPending (Some h) b k.pending
      → ((i : ℕ) → (i ≡ b → ⊥) → set_of g.geometry i ≡ s → GoodPending (Some h) i (g.at_memory i).pending)
      → (i : ℕ) → GoodPending (update g.progress s (Some h) (set_of g.geometry i)) i (update g.at_memory b k i).pending
  pendings_after here same = all_blocks g.geometry (λ t z i y. GoodPending z i y.pending) g.progress g.at_memory s b
      (Some h) k home here same (λ t i _ q. rw q at (inv.pendings i))

  -- the newest words: no dirty data of another block was on its way
  module _ (none : (i : ℕ) → (i ≡ b → ⊥) → DirtyOnTheWay (g.progress s) i → ⊥) where
    same_set : (i : ℕ) → (i ≡ b → ⊥) → set_of g.geometry i ≡ s → Newest (g.way s) (Some h) i (g.at_memory i)
    same_set i n q = newest_progress (g.way s) (g.progress s) (Some h) i (g.at_memory i) (none i n) (rw q at (inv.newest i))

    pub newest_after : Newest (g.way s) (Some h) b k → (i : ℕ)
        → Newest (g.way (set_of g.geometry i)) (update g.progress s (Some h) (set_of g.geometry i)) i (update g.at_memory b k i)
    newest_after here = all_blocks g.geometry (λ t z i y. Newest (g.way t) z i y) g.progress g.at_memory s b (Some h) k home here same_set
        (λ t i _ q. rw q at (inv.newest i))

    -- where one way of the set changes too, which was dirty only with this block
    pub newest_way_after : (c p : ℕ) (v : Way) → (dirty (g.way s c p).state ≡ true → (g.way s c p).block ≡ b)
        → Newest (update₃ g.way s c p v s) (Some h) b k
        → (i : ℕ) → Newest (update₃ g.way s c p v (set_of g.geometry i))
        (update g.progress s (Some h) (set_of g.geometry i)) i (update g.at_memory b k i)
    newest_way_after c p v at here =
        all_blocks g.geometry (λ t z i y. Newest (update₃ g.way s c p v t) z i y) g.progress g.at_memory s b (Some h) k home here
        (λ i n q. newest_way g.way s c p v s (Some h) i (g.at_memory i) (same_set i n q) (λ _ d z. absurd (n (sym z ∙ at d))))
        (λ t i n q. newest_way g.way s c p v t (g.progress t) i (g.at_memory i) (rw q at (inv.newest i)) (λ z. absurd (n z)))

-- a block of the geometry has something on its way, or nothing is on its way
pub pending_ranges_after : (g : Ghost) → Invariant g → (b : ℕ) (k : BlockAtMemory) → PendingInRange g.geometry b k.pending
    → (i : ℕ) → PendingInRange g.geometry i (update g.at_memory b k i).pending
pending_ranges_after g inv b k here =
    update_each (λ i z. PendingInRange g.geometry i z.pending) g.at_memory b k here (λ i _. inv.pending_ranges i)

-- the latest words stay
pub latest_same : (f : ℕ → BlockAtMemory) (b : ℕ) (k : BlockAtMemory) → k.latest ≡ (f b).latest → (i : ℕ) → (update f b k i).latest ≡ (f i).latest
latest_same f b k e = update_each (λ i z. z.latest ≡ (f i).latest) f b k e (λ i _. refl)
