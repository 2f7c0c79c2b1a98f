-- The machine takes an order that misses.
use Rattle.std.proofs.Common.{◌≡◌, ℕ, suc, ◌<◌, Bool, true, false, cond, not, ◌&&◌, eqb, ltb, leb, List, [], ◌∷◌, ◌++◌, length, Some, None, filter, Option, sym, refl, ◌∙◌, subst, inl, inr, ⊎_elim, arith}
use Rattle.std.proofs.lemmas.Bool.{eq-eqb, ne_eqb, and_from, false≢true, cases_eq, leb-false, ltb-true}
use Rattle.bedrock.specs.declared.words.Words.{Words}
use Rattle.protocols.specs.declared.state.State.{State}
use Rattle.protocols.specs.declared.state.State.TheVariants.{I, S, E, M, O, F}
use Rattle.protocols.specs.States.{held, writable}
use Rattle.messages.specs.declared.request.Request.{Request}
use Rattle.machine.specs.declared.order.Order.{Order}
use Rattle.machine.specs.declared.order.Order.TheVariants.{Load, Store}
use Rattle.machine.specs.Tables.{put}
use Rattle.machine.specs.Holdings.{block_of, word_asked, access_of, is_write, hits}
use Rattle.machine.specs.Machines.{Machine, home, with_turn}
use Rattle.machine.specs.Outcomes.{refuse}
use Rattle.machine.specs.Orders.{holding_way, empty_way, next_turn, ask_for, ask_for_new, miss}
use Rattle.machine.specs.Runs.{Event, orders}
use Rattle.machine.specs.Coherence.{Shows, waiting_order}
use Rattle.machine.proofs.Updates.{update, update_each, update₂_each, put₂_is}
use Rattle.machine.proofs.Keys.{kept_push_no, kept_push_yes}
use Rattle.machine.proofs.Ranges.{set_below, cache_below}
use Rattle.machine.proofs.Mailboxes.{read_only}
use Rattle.machine.proofs.Invariant.{Invariant}
use Rattle.machine.proofs.Promises.{known_held}
use Rattle.machine.proofs.StepMiss.{miss_keeps}
use Rattle.machine.proofs.Matches.{Added, ghost_of, request_slot}
use Rattle.machine.proofs.Searches.{lowest_none, lowest_below}
use Rattle.machine.proofs.Rooms.{push_length}
use Rattle.machine.proofs.Reached.{Reached, Keeps}
use Rattle.machine.proofs.Lifting.{cache_put, ghost_in, waiter_update}

-- where the cache goes by a copy, the way has one
shown_held : (e v : State) → Shows e v → held e ≡ true → held v ≡ true
shown_held I v f h = absurd (false≢true h)
shown_held S v f h = rw f refl
shown_held E v f h = elim f [ inl q ↦ rw q refl | inr q ↦ rw q refl ]
shown_held M v f h = rw f refl
shown_held O v f h = rw f refl
shown_held F v f h = rw f refl

-- a copy that a store does not hit
shown_read_only : (e v : State) → Shows e v → held v ≡ true → writable v ≡ false → read_only e ≡ true
shown_read_only I v f h w = absurd (false≢true (rw f at h))
shown_read_only S v f h w = refl
shown_read_only E v f h w = elim f [ inl q ↦ absurd (false≢true (sym (rw q at w))) | inr q ↦ absurd (false≢true (sym (rw q at w))) ]
shown_read_only M v f h w = absurd (false≢true (sym (rw f at w)))
shown_read_only O v f h w = refl
shown_read_only F v f h w = refl

-- why an order misses: its way is no hit, or there is none
abbrev pub Misses : Machine → ℕ → Order → Option ℕ → Type 0
Misses m c o (Some w) = (held (m.way (home m (block_of o)) c w).state ≡ true) × ((m.way (home m (block_of o)) c w).block ≡ block_of o)
    × (hits o (m.way (home m (block_of o)) c w).state ≡ false)
Misses m c o None = holding_way m c (block_of o) ≡ None

-- a copy of the block, if the cache goes by one, is at way w and read only, and the order is a store
abbrev OnlyAt : Machine → Added → ℕ → Order → ℕ → Type 0
OnlyAt m x c o w = (y : ℕ) → held ((x.mailbox (home m (block_of o)) c).known y).state ≡ true
    → ((x.mailbox (home m (block_of o)) c).known y).block ≡ block_of o
    → (y ≡ w) × (is_write (access_of o) ≡ true) × (read_only ((x.mailbox (home m (block_of o)) c).known y).state ≡ true)

only_stores_miss : (o : Order) (st : State) → held st ≡ true → hits o st ≡ false → (is_write (access_of o) ≡ true) × (writable st ≡ false)
only_stores_miss (Load b k) st h n = absurd (false≢true (sym n ∙ h))
only_stores_miss (Store b k v) st h n = (refl, n)

only_at_way : (m : Machine) (x : Added) → Invariant (ghost_of m x) → (c : ℕ) (o : Order) (w : ℕ) → Misses m c o (Some w)
    → OnlyAt m x c o w × (w < m.geometry.ways)
only_at_way m x inv c o w y = (
  (λ a hd bl. let i = same a hd bl in
      (i, store.0, rw i (shown_read_only ((x.mailbox t c).known w).state (m.way t c w).state (inv.agrees t c w).state y.0 store.1))),
  (inv.copies_home t c w known).2,
)
  where
    t : ℕ
    t = home m (block_of o)

    store : (is_write (access_of o) ≡ true) × (writable (m.way t c w).state ≡ false)
    store = only_stores_miss o (m.way t c w).state y.0 y.2

    known : held ((x.mailbox t c).known w).state ≡ true
    known = known_held (ghost_of m x) inv t c w y.0

    same : (a : ℕ) → held ((x.mailbox t c).known a).state ≡ true → ((x.mailbox t c).known a).block ≡ block_of o → a ≡ w
    same a hd bl = ⊎_elim (λ e. e)
        (λ n. absurd ((inv.copies_apart t c a c w (λ _ e. n e) hd known (bl ∙ sym ((inv.agrees t c w).block ∙ y.1))).0 refl)) (cases_eq a w)

only_none : (m : Machine) (x : Added) → Invariant (ghost_of m x) → (c : ℕ) (o : Order) (w : ℕ) → Misses m c o None → OnlyAt m x c o w
only_none m x inv c o w y a hd bl = absurd (false≢true (sym no ∙ and_from (held (m.way t c a).state) (eqb (m.way t c a).block (block_of o))
    (shown_held ((x.mailbox t c).known a).state (m.way t c a).state (inv.agrees t c a).state hd)
    (eq-eqb (m.way t c a).block (block_of o) (sym (inv.agrees t c a).block ∙ bl))))
  where
    t : ℕ
    t = home m (block_of o)

    no : (held (m.way t c a).state && eqb (m.way t c a).block (block_of o)) ≡ false
    no = lowest_none (λ w. held (m.way t c w).state && eqb (m.way t c w).block (block_of o)) m.geometry.ways y a (inv.copies_home t c a hd).2

-- the request goes out
request_keeps : (content : ℕ → Words) (m : Machine) (past : List Event) (x : Added) → Reached content m past x → (c : ℕ) (o : Order) (w : ℕ)
    → word_asked o < 2 → m.kept c ≡ None → length m.requests < 128
    → (c < m.geometry.caches) × (w < m.geometry.ways) × (block_of o < m.geometry.blocks) → OnlyAt m x c o w
    → Keeps content m past (orders c o) (ask_for m c o w)
request_keeps content m past x r c o w small free room range at = (
  y,
  record {
    bounds = r.bounds;
    lawful = r.lawful;
    owed = r.owed;
    words = r.words;
    turns = r.turns;
    matches = record {
      serving = r.matches.serving;
      mails = r.matches.mails;
      pendings = r.matches.pendings;
      weights = r.matches.weights;
      left = r.matches.left;
      requests = update_each (λ a z. filter (λ q. eqb q.cache a) (m.requests ++ q ∷ []) ≡ request_slot z) x.request c (Some q)
          (kept_push_yes (λ q. eqb q.cache c) m.requests q (eq-eqb c c refl) ∙ rw none refl)
          (λ a n. kept_push_no (λ q. eqb q.cache a) m.requests q (ne_eqb c a (λ z. n (sym z))) ∙ r.matches.requests a);
    };
    inv = subst (λ f. Invariant (ghost_in m.geometry m.entry m.way f m.memory y)) (sym kept_is)
        (rw (← waiter_update m.kept x.request c (Some o) (Some q)) (miss_keeps (ghost_of m x) r.inv c w o free range at));
    rooms = record {
      commands = r.rooms.commands;
      responses = r.rooms.responses;
      memory_commands = r.rooms.memory_commands;
      requests = let h = push_length m.requests q in omega arith;
    };
    orders = subst (λ f. (a : ℕ) → OrderAfter a (f a)) (sym kept_is) (update_each OrderAfter m.kept c (Some o)
        (rw (eq-eqb c c refl) refl, λ p e. let z : o ≡ p = cc in rw (← z) small) (λ a n. rw (ne_eqb c a (λ z. n (sym z))) (r.orders a)));
  },
  tt,
)
  where
    q : Request
    q = record { access = access_of o; cache = c; block = block_of o; way = w }

    y : Added
    y = record { mailbox = x.mailbox; progress = x.progress; request = update x.request c (Some q); pending = x.pending; latest = x.latest }

    OrderAfter : ℕ → Option Order → Type 0
    OrderAfter a z = (cond (eqb c a) (Some o) (waiting_order a past) ≡ z) × ((p : Order) → z ≡ Some p → word_asked p < 2)

    kept_is : put 8 m.kept c (Some o) ≡ update m.kept c (Some o)
    kept_is = cache_put m r.bounds m.kept c (Some o) range.0

    none : filter (λ q. eqb q.cache c) m.requests ≡ []
    none = r.matches.requests c ∙ rw (r.inv.asks c free) refl

-- the turn number goes on
next_below : (t n : ℕ) → 0 < n → cond (ltb (suc t) n) (suc t) 0 < n
next_below t n l = go (ltb (suc t) n) refl
  where
    go : (b : Bool) → ltb (suc t) n ≡ b → cond b (suc t) 0 < n
    go true e = ltb-true (suc t) n e
    go false e = l

turn_reached : (content : ℕ → Words) (m : Machine) (past : List Event) (x : Added) → Reached content m past x → (b c v : ℕ) → c < m.geometry.caches
    → v < m.geometry.ways → Reached content (with_turn m (home m b) c v) past x
turn_reached content m past x r b c v p l = record {
  bounds = r.bounds;
  lawful = r.lawful;
  inv = r.inv;
  owed = r.owed;
  words = r.words;
  orders = r.orders;
  matches = record {
    serving = r.matches.serving;
    requests = r.matches.requests;
    mails = r.matches.mails;
    pendings = r.matches.pendings;
    weights = r.matches.weights;
    left = r.matches.left;
  };
  rooms = record {
    requests = r.rooms.requests;
    commands = r.rooms.commands;
    responses = r.rooms.responses;
    memory_commands = r.rooms.memory_commands;
  };
  turns = subst (λ f. (s d : ℕ) → f s d < m.geometry.ways)
      (sym (put₂_is 16 8 m.turn (home m b) c v (set_below m.geometry r.bounds b) (cache_below m.geometry r.bounds c p)))
      (update₂_each (λ s c z. z < m.geometry.ways) m.turn (home m b) c v l (λ s c _. r.turns s c));
}

module _ (content : ℕ → Words) (m : Machine) (past : List Event) (x : Added) (r : Reached content m past x) (c : ℕ) (o : Order)
    (small : word_asked o < 2) (free : m.kept c ≡ None) (cache : c < m.geometry.caches) (block : block_of o < m.geometry.blocks) where
  new_way : length m.requests < 128 → Misses m c o None → (v : Option ℕ) → empty_way m (home m (block_of o)) c ≡ v
      → Keeps content m past (orders c o) (elim v [
        | Some w ↦ ask_for m c o w
        | None ↦ ask_for (with_turn m (home m (block_of o)) c (next_turn m (home m (block_of o)) c)) c o (m.turn (home m (block_of o)) c)
      ])
  new_way room y (Some w) e = request_keeps content m past x r c o w small free room
      (cache, lowest_below (λ w. not (held (m.way (home m (block_of o)) c w).state)) m.geometry.ways w e, block) (only_none m x r.inv c o w y)
  new_way room y None e =
      let s : ℕ = home m (block_of o) in
      let z = turn_reached content m past x r (block_of o) c (next_turn m s c) cache
      (next_below (m.turn s c) m.geometry.ways r.bounds.some_ways) in
      request_keeps content (with_turn m s c (next_turn m s c)) past x z c o (m.turn s c) small free room (cache, r.turns s c, block)
      (only_none m x r.inv c o (m.turn s c) y)

  asks_for : length m.requests < 128 → (at : Option ℕ) → Misses m c o at
      → Keeps content m past (orders c o) (elim at [ Some w ↦ ask_for m c o w | None ↦ ask_for_new m c o (home m (block_of o)) ])
  asks_for room (Some w) y = let a = only_at_way m x r.inv c o w y in
      request_keeps content m past x r c o w small free room (cache, a.1, block) a.0
  asks_for room None y = new_way room y (empty_way m (home m (block_of o)) c) refl

  pub miss_lifts : (at : Option ℕ) → Misses m c o at → Keeps content m past (orders c o) (refuse m 14)
      → Keeps content m past (orders c o) (miss m c o at)
  miss_lifts at y full = go (leb 128 (length m.requests)) refl
    where
      go : (t : Bool) → leb 128 (length m.requests) ≡ t → Keeps content m past (orders c o) (cond t (refuse m 14)
          (elim at [ Some w ↦ ask_for m c o w | None ↦ ask_for_new m c o (home m (block_of o)) ]))
      go true _ = full
      go false e = asks_for (leb-false 128 (length m.requests) e) at y
