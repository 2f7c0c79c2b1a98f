-- The commands of round one, by key and by weight.
use Rattle.std.proofs.Common.{◌≡◌, ℕ, zero, suc, ◌<◌, ◌≤◌, Bool, true, false, cond, not, ◌&&◌, eqb, ◌⊎◌, List, [], ◌∷◌, ◌++◌, map, length, filter, sym, refl, ◌∙◌, inl, inr, arith}
use Rattle.std.proofs.lemmas.List.Elements.{filter-append}
use Rattle.std.proofs.lemmas.List.{append-nil}
use Rattle.std.proofs.lemmas.Bool.{cases_eq, cases_lt, eqb-false, eq-eqb, ne_eqb}
use Rattle.bedrock.specs.Geometries.{Sizes, set_of}
use Rattle.protocols.specs.declared.state.State.{State}
use Rattle.protocols.specs.declared.state.State.TheVariants.{I, S, E, M, O, F}
use Rattle.protocols.specs.States.{held, may_be_dirty}
use Rattle.messages.specs.declared.request.Request.{Request}
use Rattle.messages.specs.declared.command.Command.{Command}
use Rattle.messages.specs.declared.command.Command.TheVariants.{Invalidate, SetStateWriteback}
use Rattle.messages.specs.Messages.{command_cache, command_block}
use Rattle.machine.specs.declared.holding.Entry.{Entry}
use Rattle.machine.specs.Holdings.{is_write}
use Rattle.machine.specs.Machines.{Machine, home}
use Rattle.machine.specs.Directory.{shown_way, shown_state, sharing, or_zero}
use Rattle.machine.specs.Acceptance.{upgrading, evict, dismiss, first_round}
use Rattle.machine.proofs.Weights.{weigh}
use Rattle.machine.proofs.Ghost.{Mail, Nothing, To}
use Rattle.machine.proofs.Matches.{mail_slot, to_mailbox, command_weight, command_one}
use Rattle.machine.proofs.ShownEntries.{EntriesInRange, shown_held}

-- ---- commands of one set, each with one answer

abbrev pub InSet : Sizes → ℕ → List Command → Type 0
InSet n s [] = Unit {0}
InSet n s (k ∷ ks) = (set_of n (command_block k) ≡ s) × ((t : ℕ) → command_weight n t k ≡ command_one n t k) × InSet n s ks

in_append : (n : Sizes) (s : ℕ) (xs ys : List Command) → InSet n s xs → InSet n s ys → InSet n s (xs ++ ys)
in_append n s [] ys p q = q
in_append n s (x ∷ xs) ys p q = (p.0, p.1, in_append n s xs ys p.2 q)

-- in their set each weighs 1, and elsewhere nothing
pub ones_here : (n : Sizes) (s : ℕ) (xs : List Command) → InSet n s xs
    → (weigh (command_one n s) xs ≡ length xs) × (weigh (command_weight n s) xs ≡ length xs)
ones_here n s [] p = (refl, refl)
ones_here n s (k ∷ ks) p =
    let r = ones_here n s ks p.2 in let u = p.1 s in
    let v : command_one n s k ≡ 1 = rw (eq-eqb (set_of n (command_block k)) s p.0) refl in
    (omega (arith, r.0), omega (arith, r.1))

pub ones_else : (n : Sizes) (s t : ℕ) → (t ≡ s → ⊥) → (xs : List Command) → InSet n s xs
    → (weigh (command_one n t) xs ≡ 0) × (weigh (command_weight n t) xs ≡ 0)
ones_else n s t ne [] p = (refl, refl)
ones_else n s t ne (k ∷ ks) p =
    let r = ones_else n s t ne ks p.2 in let u = p.1 t in
    let v : command_one n t k ≡ 0 = rw (ne_eqb (set_of n (command_block k)) t (λ z. ne (sym z ∙ p.0))) refl in
    (omega (arith, r.0), omega (arith, r.1))

pub kept_else : (n : Sizes) (s t c : ℕ) → (t ≡ s → ⊥) → (xs : List Command) → InSet n s xs → filter (to_mailbox n t c) xs ≡ []
kept_else n s t c ne [] p = refl
kept_else n s t c ne (k ∷ ks) p = let r = kept_else n s t c ne ks p.2 in rw (ne_eqb (set_of n (command_block k)) t (λ z. ne (sym z ∙ p.0))) r

-- ---- what goes to the sharers

module _ (m : Machine) (r b : ℕ) where
  -- what cache c is sent
  abbrev pub sent_to : ℕ → List Command
  sent_to c = cond (sharing (shown_state m c b) && not (eqb c r)) (Invalidate c b (or_zero (shown_way m c b)) ∷ []) []

  sent_in : (c : ℕ) → InSet m.geometry (home m b) (sent_to c)
  sent_in c = go (sharing (shown_state m c b) && not (eqb c r))
    where
      go : (t : Bool) → InSet m.geometry (home m b) (cond t (Invalidate c b (or_zero (shown_way m c b)) ∷ []) [])
      go true = (refl, (λ _. refl), tt)
      go false = tt

  dismiss_in : (k : ℕ) → InSet m.geometry (home m b) (dismiss m r b k)
  dismiss_in zero = tt
  dismiss_in (suc k) = in_append m.geometry (home m b) (dismiss m r b k) (sent_to k) (dismiss_in k) (sent_in k)

  sent_key : (c d : ℕ) → filter (to_mailbox m.geometry (home m b) d) (sent_to c) ≡ cond (eqb c d) (sent_to c) []
  sent_key c d = go (sharing (shown_state m c b) && not (eqb c r))
    where
      at : (t : Bool) → eqb c d ≡ t
          → filter (to_mailbox m.geometry (home m b) d) (Invalidate c b (or_zero (shown_way m c b)) ∷ [])
          ≡ cond t (Invalidate c b (or_zero (shown_way m c b)) ∷ []) []
      at true e = rw (eq-eqb (home m b) (home m b) refl, e) refl
      at false e = rw (eq-eqb (home m b) (home m b) refl, e) refl

      flat : (t : Bool) → [] ≡ cond {A = List Command} t [] []
      flat true = refl
      flat false = refl

      go : (t : Bool) → filter (to_mailbox m.geometry (home m b) d) (cond t (Invalidate c b (or_zero (shown_way m c b)) ∷ []) [])
          ≡ cond (eqb c d) (cond t (Invalidate c b (or_zero (shown_way m c b)) ∷ []) []) []
      go true = at (eqb c d) refl
      go false = flat (eqb c d)

  dismiss_above : (k d : ℕ) → k ≤ d → filter (to_mailbox m.geometry (home m b) d) (dismiss m r b k) ≡ []
  dismiss_above zero d l = refl
  dismiss_above (suc k) d l = filter-append (to_mailbox m.geometry (home m b) d) (dismiss m r b k) (sent_to k)
      ∙ rw (dismiss_above k d (omega arith), sent_key k d, ne_eqb k d (λ z. less z)) refl
    where
      less : k ≡ d → ⊥
      less z = omega arith

  dismiss_below : (k d : ℕ) → d < k → filter (to_mailbox m.geometry (home m b) d) (dismiss m r b k) ≡ sent_to d
  dismiss_below zero d l = absurd (none l)
    where
      none : d < 0 → ⊥
      none l = omega arith
  dismiss_below (suc k) d l = filter-append (to_mailbox m.geometry (home m b) d) (dismiss m r b k) (sent_to k)
      ∙ go (cases_eq k d) (dismiss_below k d)
    where
      go : (k ≡ d) ⊎ (k ≡ d → ⊥) → (d < k → filter (to_mailbox m.geometry (home m b) d) (dismiss m r b k) ≡ sent_to d)
          → filter (to_mailbox m.geometry (home m b) d) (dismiss m r b k) ++ filter (to_mailbox m.geometry (home m b) d) (sent_to k) ≡ sent_to d
      go (inl z) ih = rw (dismiss_above k d (omega arith), sent_key k d, eq-eqb k d z, z) refl
      go (inr z) ih = rw (ih (omega arith), sent_key k d, ne_eqb k d z) (append-nil (sent_to d))

  -- a cache out of range shows nothing
  outside : EntriesInRange m → (d : ℕ) → m.geometry.caches ≤ d → sent_to d ≡ []
  outside ranged d l = rw (silent (shown_state m d b) refl) refl
    where
      far : held (shown_state m d b) ≡ true → ⊥
      far h = let it = shown_held m d b h in let z = (ranged (home m b) d it.way it.is_held).0 in omega arith

      silent : (st : State) → shown_state m d b ≡ st → sharing (shown_state m d b) ≡ false
      silent I e = rw e refl
      silent S e = absurd (far (rw e refl))
      silent E e = rw e refl
      silent M e = rw e refl
      silent O e = rw e refl
      silent F e = rw e refl

  dismiss_key : EntriesInRange m → (d : ℕ) → filter (to_mailbox m.geometry (home m b) d) (dismiss m r b m.geometry.caches) ≡ sent_to d
  dismiss_key ranged d = elim (cases_lt d m.geometry.caches)
      [ inl l ↦ dismiss_below m.geometry.caches d l | inr l ↦ dismiss_above m.geometry.caches d l ∙ sym (outside ranged d l) ]

-- ---- at most one command, to one cache

abbrev Short : List Command → Type 0
Short xs = (xs ≡ []) ⊎ ((k : Command) × (xs ≡ k ∷ []))

abbrev pub mail_of : List Command → Mail
mail_of [] = Nothing
mail_of (k ∷ ks) = To k

slot_of : (xs : List Command) → Short xs → map To xs ≡ mail_slot (mail_of xs)
slot_of xs (inl e) = rw e refl
slot_of xs (inr e) = rw e.1 refl

-- at most one, to cache r of set s
abbrev OneTo : Sizes → ℕ → ℕ → List Command → Type 0
OneTo n s r xs = Short xs × InSet n s xs × ((c : ℕ) → filter (to_mailbox n s c) xs ≡ cond (eqb c r) xs [])

none_to : (n : Sizes) (s r : ℕ) → OneTo n s r []
none_to n s r = (inl refl, tt, λ c. flat (eqb c r))
  where
    flat : (t : Bool) → [] ≡ cond {A = List Command} t [] []
    flat true = refl
    flat false = refl

one_to : (n : Sizes) (s r : ℕ) (k : Command) → command_cache k ≡ r → set_of n (command_block k) ≡ s → ((t : ℕ) → command_weight n t k ≡ command_one n t k)
    → OneTo n s r (k ∷ [])
one_to n s r k c b w = (inr (k, refl), (b, w, tt), λ d. go d (cases_eq d r))
  where
    go : (d : ℕ) → (d ≡ r) ⊎ (d ≡ r → ⊥) → filter (to_mailbox n s d) (k ∷ []) ≡ cond (eqb d r) (k ∷ []) []
    go d (inl i) = rw (eq-eqb (set_of n (command_block k)) s b, eq-eqb (command_cache k) d (c ∙ sym i), eq-eqb d r i) refl
    go d (inr i) = rw (eq-eqb (set_of n (command_block k)) s b, ne_eqb (command_cache k) d (λ z. i (sym z ∙ c)), ne_eqb d r i) refl

-- ---- round one

module _ (m : Machine) (q : Request) where
  -- what goes to the requestor
  abbrev pub own_command : List Command
  own_command = cond (upgrading m q) [] (evict q.cache q.way (m.entry (home m q.block) q.cache q.way))

  -- what goes to cache c
  abbrev pub first_mail : ℕ → Mail
  first_mail c = mail_of (cond (eqb c q.cache) own_command (cond (is_write q.access) (sent_to m q.cache q.block c) []))

  module _ (ranged : EntriesInRange m)
      (homed : held (m.entry (home m q.block) q.cache q.way).state ≡ true
      → set_of m.geometry (m.entry (home m q.block) q.cache q.way).block ≡ home m q.block) where
    own_one : OneTo m.geometry (home m q.block) q.cache own_command
    own_one = go (upgrading m q) (held e.state) refl (may_be_dirty e.state)
      where
        e : Entry
        e = m.entry (home m q.block) q.cache q.way

        go : (t h : Bool) → held e.state ≡ h → (d : Bool) → OneTo m.geometry (home m q.block) q.cache
            (cond t [] (cond h (cond d (SetStateWriteback q.cache e.block q.way ∷ []) (Invalidate q.cache e.block q.way ∷ [])) []))
        go true h i d = none_to m.geometry (home m q.block) q.cache
        go false false i d = none_to m.geometry (home m q.block) q.cache
        go false true i true =
            one_to m.geometry (home m q.block) q.cache (SetStateWriteback q.cache e.block q.way) refl (homed i) (λ _. refl)
        go false true i false = one_to m.geometry (home m q.block) q.cache (Invalidate q.cache e.block q.way) refl (homed i)
            (λ _. refl)

    pub first_in : InSet m.geometry (home m q.block) (first_round m q)
    first_in = in_append m.geometry (home m q.block) own_command
        (cond (is_write q.access) (dismiss m q.cache q.block m.geometry.caches) [])
        own_one.1 (go (is_write q.access))
      where
        go : (t : Bool) → InSet m.geometry (home m q.block) (cond t (dismiss m q.cache q.block m.geometry.caches) [])
        go true = dismiss_in m q.cache q.block m.geometry.caches
        go false = tt

    first_key : (c : ℕ) → filter (to_mailbox m.geometry (home m q.block) c) (first_round m q)
        ≡ cond (eqb c q.cache) own_command (cond (is_write q.access) (sent_to m q.cache q.block c) [])
    first_key c = filter-append (to_mailbox m.geometry (home m q.block) c) own_command
        (cond (is_write q.access) (dismiss m q.cache q.block m.geometry.caches) [])
        ∙ rw (own_one.2 c, key (is_write q.access)) (go (cases_eq c q.cache))
      where
        key : (t : Bool) → filter (to_mailbox m.geometry (home m q.block) c) (cond t (dismiss m q.cache q.block m.geometry.caches) [])
            ≡ cond t (sent_to m q.cache q.block c) []
        key true = dismiss_key m q.cache q.block ranged c
        key false = refl

        mine : c ≡ q.cache → (t u : Bool) → eqb c q.cache ≡ u
            → cond t (cond (sharing (shown_state m c q.block) && not u) (Invalidate c q.block (or_zero (shown_way m c q.block)) ∷ []) []) []
            ≡ []
        mine z true true i = at (sharing (shown_state m c q.block))
          where
            at : (t : Bool) → cond (t && false) (Invalidate c q.block (or_zero (shown_way m c q.block)) ∷ []) [] ≡ []
            at true = refl
            at false = refl
        mine z true false i = absurd (eqb-false c q.cache i z)
        mine z false u i = refl

        go : (c ≡ q.cache) ⊎ (c ≡ q.cache → ⊥)
            → cond (eqb c q.cache) own_command [] ++ cond (is_write q.access) (sent_to m q.cache q.block c) []
            ≡ cond (eqb c q.cache) own_command (cond (is_write q.access) (sent_to m q.cache q.block c) [])
        go (inl z) = rw (mine z (is_write q.access) (eqb c q.cache) refl, eq-eqb c q.cache z) (append-nil own_command)
        go (inr z) = rw (ne_eqb c q.cache z) refl

    pub first_slot : (c : ℕ) → map To (filter (to_mailbox m.geometry (home m q.block) c) (first_round m q)) ≡ mail_slot (first_mail c)
    first_slot c = rw (first_key c) (slot_of (cond (eqb c q.cache) own_command (cond (is_write q.access) (sent_to m q.cache q.block c) []))
        (go (eqb c q.cache) (is_write q.access) (sharing (shown_state m c q.block) && not (eqb c q.cache))))
      where
        go : (t u v : Bool) → Short (cond t own_command (cond u (cond v (Invalidate c q.block (or_zero (shown_way m c q.block)) ∷ []) []) []))
        go true u v = own_one.0
        go false true true = inr (Invalidate c q.block (or_zero (shown_way m c q.block)), refl)
        go false true false = inl refl
        go false false v = inl refl
