-- The machine takes an order that hits.
use Rattle.std.proofs.Common.{◌≡◌, ℕ, ◌<◌, true, cond, ◌&&◌, eqb, ◌⊎◌, List, Some, None, sym, refl, ap, ◌∙◌, inl, inr, arith}
use mathlib.Core.Path.{fun_ext}
use Rattle.std.proofs.lemmas.Bool.{cases_eq, and_parts, eqb-true, eq-eqb, ne_eqb}
use Rattle.std.proofs.lemmas.Bool.Decides.{nat_tests}
use Rattle.bedrock.specs.declared.words.Words.{Words}
use Rattle.bedrock.specs.BlockWords.{word_of, with_word}
use Rattle.protocols.specs.declared.state.State.{State}
use Rattle.protocols.specs.declared.state.State.TheVariants.{I, S, E, M, O, F}
use Rattle.protocols.specs.States.{held, writable}
use Rattle.machine.specs.declared.holding.Way.{Way}
use Rattle.machine.specs.declared.order.Order.{Order}
use Rattle.machine.specs.declared.order.Order.TheVariants.{Load, Store}
use Rattle.machine.specs.Holdings.{way_in, word_asked}
use Rattle.machine.specs.Machines.{Machine, home, with_way}
use Rattle.machine.specs.Orders.{holding_way, finish}
use Rattle.machine.specs.Runs.{Event, orders}
use Rattle.machine.specs.Coherence.{waiting_order, latest}
use Rattle.machine.proofs.Updates.{update, update₃, update_each, update₂_each}
use Rattle.machine.proofs.Promises.{known_held}
use Rattle.machine.proofs.StepStore.{store_keeps}
use Rattle.machine.proofs.Matches.{Added, ghost_of}
use Rattle.machine.proofs.Searches.{lowest_passes}
use Rattle.machine.proofs.Rooms.{Rooms}
use Rattle.machine.proofs.Reached.{Reached, Keeps}
use Rattle.machine.proofs.Lifting.{way_put, block_latest}

update₃_id : {A : Type 0} (f : ℕ → ℕ → ℕ → A) (i j k : ℕ) (v : A) → v ≡ f i j k → update₃ f i j k v ≡ f
update₃_id {A} f i j k v e = fun_ext (λ a. fun_ext (λ b. update₂_each (λ a b h. h ≡ f a b) f i j (update (f i j) k v)
    (fun_ext (update_each (λ c z. z ≡ f i j c) (f i j) k v e (λ c _. refl))) (λ a b _. refl) a b))

-- a word of words in which one was replaced
pub word_replaced : (ws : Words) (k v l : ℕ) → k < 2 → l < 2 → word_of (with_word ws k v) l ≡ cond (eqb k l) v (word_of ws l)
word_replaced ws k v l a b = grind (arith, nat_tests)

-- the way that a search for the block finds
pub found_holding : (m : Machine) (c b w : ℕ) → holding_way m c b ≡ Some w
    → (held (m.way (home m b) c w).state ≡ true) × ((m.way (home m b) c w).block ≡ b)
found_holding m c b w e = let p = and_parts (held (m.way (home m b) c w).state) (eqb (m.way (home m b) c w).block b)
    (lowest_passes (λ w. held (m.way (home m b) c w).state && eqb (m.way (home m b) c w).block b) m.geometry.ways w e) in
    (p.0, eqb-true (m.way (home m b) c w).block b p.1)

-- a way with what it already has
way_again : (v : Way) (b : ℕ) → held v.state ≡ true → v.block ≡ b → way_in v.state b v.words ≡ v
way_again v b h e = in_state v.state b v.words h ∙ (λ t. record { state = v.state; block = sym e t; words = v.words })
  where
    in_state : (st : State) (b : ℕ) (ws : Words) → held st ≡ true → way_in st b ws ≡ record { state = st; block = b; words = ws }
    in_state I b ws h = grind arith
    in_state S b ws h = refl
    in_state E b ws h = refl
    in_state M b ws h = refl
    in_state O b ws h = refl
    in_state F b ws h = refl

module _ (content : ℕ → Words) (m : Machine) (past : List Event) (x : Added) (r : Reached content m past x) (c b k w : ℕ) (small : k < 2)
    (h : held (m.way (home m b) c w).state ≡ true) (here : (m.way (home m b) c w).block ≡ b) (free : m.kept c ≡ None) where
  ranges : (c < m.geometry.caches) × (w < m.geometry.ways)
  ranges = let p = r.inv.copies_home (home m b) c w (known_held (ghost_of m x) r.inv (home m b) c w h) in (p.1, p.2)

  -- the words of the way are the latest
  words_now : (m.way (home m b) c w).words ≡ x.latest b
  words_now = r.inv.copies (home m b) c w h ∙ ap (λ i. x.latest i) here

  orders_after : (a : ℕ) → (cond (eqb c a) None (waiting_order a past) ≡ m.kept a) × ((o : Order) → m.kept a ≡ Some o → word_asked o < 2)
  orders_after a = (go (cases_eq a c), (r.orders a).1)
    where
      go : (a ≡ c) ⊎ (a ≡ c → ⊥) → cond (eqb c a) None (waiting_order a past) ≡ m.kept a
      go (inl e) = rw (eq-eqb c a (sym e)) (sym (ap m.kept e ∙ free))
      go (inr n) = rw (ne_eqb c a (λ z. n (sym z))) (r.orders a).0

  rooms_after : (v : Way) → Rooms (with_way m (home m b) c w v)
  rooms_after v = record {
    requests = r.rooms.requests;
    commands = r.rooms.commands;
    responses = r.rooms.responses;
    memory_commands = r.rooms.memory_commands;
  }

  pub load_hits : Keeps content m past (orders c (Load b k))
      (finish m (home m b) c w (m.way (home m b) c w).state (m.way (home m b) c w).words (Load b k))
  load_hits = (
    x,
    record {
      bounds = r.bounds;
      lawful = r.lawful;
      owed = r.owed;
      words = r.words;
      orders = orders_after;
      turns = r.turns;
      matches = record {
        serving = r.matches.serving;
        requests = r.matches.requests;
        mails = r.matches.mails;
        pendings = r.matches.pendings;
        weights = r.matches.weights;
        left = r.matches.left;
      };
      inv = rw (
        way_put m r.bounds b c w same ranges.0 ranges.1,
        update₃_id m.way (home m b) c w same (way_again (m.way (home m b) c w) b h here),
      ) r.inv;
      rooms = rooms_after same;
    },
    (b, k, rw (eq-eqb c c refl) refl, ap (λ ws. word_of ws k) words_now ∙ r.words b k small),
  )
    where
      same : Way
      same = way_in (m.way (home m b) c w).state b (m.way (home m b) c w).words

  pub store_hits : (v : ℕ) → writable (m.way (home m b) c w).state ≡ true → Keeps content m past (orders c (Store b k v))
      (finish m (home m b) c w (m.way (home m b) c w).state (m.way (home m b) c w).words (Store b k v))
  store_hits v wr = (
    y,
    record {
      bounds = r.bounds;
      lawful = r.lawful;
      owed = r.owed;
      orders = orders_after;
      turns = r.turns;
      matches = record {
        serving = r.matches.serving;
        requests = r.matches.requests;
        mails = r.matches.mails;
        pendings = r.matches.pendings;
        weights = r.matches.weights;
        left = r.matches.left;
      };
      inv = rw (way_put m r.bounds b c w (way_in M b ws) ranges.0 ranges.1, ← block_latest m.memory x.pending x.latest b ws)
          (store_keeps (ghost_of m x) r.inv (home m b) c w b ws here wr);
      rooms = rooms_after (way_in M b ws);
      words = λ i l q. rw (eq-eqb c c refl) (update_each (λ i z. word_of z l ≡ cond (eqb b i && eqb k l) v (latest content past i l))
          x.latest b ws
          (word_replaced (m.way (home m b) c w).words k v l small q
          ∙ rw (eq-eqb b b refl) (ap (λ n. cond (eqb k l) v n) (ap (λ ws. word_of ws l) words_now ∙ r.words b l q)))
          (λ i n. r.words i l q ∙ rw (ne_eqb b i (λ e. n (sym e))) refl) i);
    },
    (b, k, rw (eq-eqb c c refl) refl),
  )
    where
      ws : Words
      ws = with_word (m.way (home m b) c w).words k v

      y : Added
      y = record { mailbox = x.mailbox; progress = x.progress; request = x.request; pending = x.pending; latest = update x.latest b ws }
