-- What the invariant promises: a copy in E or M is the only one; with nothing on its way, no cache waits and entries show the ways.
use Rattle.std.proofs.Common.{◌≡◌, ℕ, true, Some, None, Option, sym, refl, ap, ◌∙◌, ⊎_elim}
use Rattle.std.proofs.lemmas.Bool.{cases_eq}
use Rattle.bedrock.specs.Geometries.{set_of}
use Rattle.protocols.specs.States.{held, writable}
use Rattle.machine.specs.declared.order.Order.{Order}
use Rattle.machine.specs.Holdings.{block_of}
use Rattle.machine.specs.Coherence.{Agrees}
use Rattle.machine.proofs.Ghost.{Ghost}
use Rattle.machine.proofs.Invariant.{Invariant}
use Rattle.machine.proofs.StateFacts.{shows_held, shows_writable, writable_held, writable_alone}
use Rattle.machine.proofs.Frames.{none_some}

-- what a cache holds, it goes by; and so with what it may store into
pub known_held : (g : Ghost) → Invariant g → (s c w : ℕ) → held (g.way s c w).state ≡ true → held ((g.mailbox s c).known w).state ≡ true
known_held g inv s c w h = shows_held ((g.mailbox s c).known w).state (g.way s c w).state (inv.agrees s c w).state h

pub known_writable : (g : Ghost) → Invariant g → (s c w : ℕ) → writable (g.way s c w).state ≡ true
    → writable ((g.mailbox s c).known w).state ≡ true
known_writable g inv s c w h = shows_writable ((g.mailbox s c).known w).state (g.way s c w).state (inv.agrees s c w).state h

-- a copy that a store hits is the only one
pub sole_place : (g : Ghost) → Invariant g → (s c w t d x : ℕ) → writable (g.way s c w).state ≡ true → held (g.way t d x).state ≡ true
    → (g.way s c w).block ≡ (g.way t d x).block → (t ≡ s) × ((c ≡ d → w ≡ x → ⊥) → ⊥)
sole_place g inv s c w t d x h k e = (sets, clash)
  where
    open inv use {agrees, copies_home, copies_apart}

    wr : writable ((g.mailbox s c).known w).state ≡ true
    wr = known_writable g inv s c w h

    hd : held ((g.mailbox t d).known x).state ≡ true
    hd = known_held g inv t d x k

    same : ((g.mailbox s c).known w).block ≡ ((g.mailbox t d).known x).block
    same = (agrees s c w).block ∙ e ∙ sym (agrees t d x).block

    sets : t ≡ s
    sets = sym (copies_home t d x hd).0 ∙ ap (set_of g.geometry) (sym same)
        ∙ (copies_home s c w (writable_held ((g.mailbox s c).known w).state wr)).0

    clash : (c ≡ d → w ≡ x → ⊥) → ⊥
    clash n = writable_alone ((g.mailbox s c).known w).state ((g.mailbox s d).known x).state wr
        (copies_apart s c w d x n (writable_held ((g.mailbox s c).known w).state wr) (rw sets at hd) (rw sets at same)).1

-- and so the only one to hold the block
pub sole_holder_holds : (g : Ghost) → Invariant g → (s c w t d x : ℕ) → writable (g.way s c w).state ≡ true → held (g.way t d x).state ≡ true
    → (g.way s c w).block ≡ (g.way t d x).block → c ≡ d
sole_holder_holds g inv s c w t d x h k e = ⊎_elim (λ p. p) (λ n. absurd ((sole_place g inv s c w t d x h k e).1 (λ p _. n p))) (cases_eq c d)

-- with no transaction and no request: entries and ways agree, and no cache waits
pub settled_agrees : (g : Ghost) → Invariant g → ((s : ℕ) → g.progress s ≡ None) → (s c w : ℕ) → Agrees (g.entry s c w) (g.way s c w)
settled_agrees g inv idle s c w = let q = rw (idle s) at (inv.mailboxes s c) in rw (q.0 w) (inv.agrees s c w)

pub settled_idle : (g : Ghost) → Invariant g → ((s : ℕ) → g.progress s ≡ None) → ((c : ℕ) → (g.waiter c).request ≡ None) → (c : ℕ)
    → (g.waiter c).kept ≡ None
settled_idle g inv idle none c = go (g.waiter c).kept refl
  where
    go : (o : Option Order) → (g.waiter c).kept ≡ o → o ≡ None
    go None e = refl
    go (Some o) e = let s : ℕ = set_of g.geometry (block_of o) in
        let q = rw (idle s) at (inv.waits s c) in
        absurd (none_some (record { access = _; cache = _; block = _; way = _ }) (sym (none c) ∙ (q o e refl).request))
