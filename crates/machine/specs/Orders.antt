-- An order: a load or a store by one cache.
use Rattle.std.specs.Prelude.{ℕ, suc, cond, not, ◌&&◌, length, Some, None, Option, ◌==◌, nat_le, nat_lt}
use Rattle.bedrock.specs.declared.words.Words.{Words}
use Rattle.bedrock.specs.BlockWords.{word_of, with_word}
use Rattle.protocols.specs.declared.state.State.{State}
use Rattle.protocols.specs.declared.state.State.TheVariants.{M}
use Rattle.protocols.specs.States.{held}
use Rattle.machine.specs.declared.holding.Way.{Way}
use Rattle.machine.specs.declared.order.Order.{Order}
use Rattle.machine.specs.declared.order.Order.TheVariants.{Load, Store}
use Rattle.machine.specs.Tables.{lowest}
use Rattle.machine.specs.Holdings.{way_in, block_of, word_asked, access_of, hits}
use Rattle.machine.specs.Machines.{Machine, home, with_way, with_kept, with_turn, request}
use Rattle.machine.specs.Outcomes.{Outcome, loaded, stored, refuse, move_on}

-- the way in which cache c holds block b
abbrev pub holding_way : Machine → ℕ → ℕ → Option ℕ
holding_way m c b = lowest (λ w. held (m.way (home m b) c w).state && (m.way (home m b) c w).block == b) m.geometry.ways

-- the lowest way of cache c in set s that is in I
abbrev pub empty_way : Machine → ℕ → ℕ → Option ℕ
empty_way m s c = lowest (λ w. not (held (m.way s c w).state)) m.geometry.ways

-- an order is carried out at a way that has the block's words in a state: a load answers its word, a store replaces it and leaves M
abbrev pub finish : Machine → ℕ → ℕ → ℕ → State → Words → Order → Outcome
finish m s c w st ws (Load b k) = record { says = loaded c (word_of ws k); after = with_way m s c w (way_in st b ws) }
finish m s c w st ws (Store b k v) = record { says = stored c v; after = with_way m s c w (way_in M b (with_word ws k v)) }

-- the turn number after it was used: one up, back to 0 after the last way
abbrev pub next_turn : Machine → ℕ → ℕ → ℕ
next_turn m s c = cond (nat_lt (suc (m.turn s c)) m.geometry.ways) (suc (m.turn s c)) 0

-- the cache keeps the order and waits, and a request goes out that names way w
abbrev pub ask_for : Machine → ℕ → Order → ℕ → Outcome
ask_for m c o w = move_on (request (with_kept m c (Some o)) (record { access = access_of o; cache = c; block = block_of o; way = w }))

-- a miss without a way that holds the block: the lowest in I, else the one that the turn number names
abbrev pub ask_for_new : Machine → ℕ → Order → ℕ → Outcome
ask_for_new m c o s = elim (empty_way m s c) [
  | Some w ↦ ask_for m c o w
  | None ↦ ask_for (with_turn m s c (next_turn m s c)) c o (m.turn s c)
]

-- 14 where there is no room for the request
abbrev pub miss : Machine → ℕ → Order → Option ℕ → Outcome
miss m c o at = cond (nat_le 128 (length m.requests)) (refuse m 14)
    (elim at [ Some w ↦ ask_for m c o w | None ↦ ask_for_new m c o (home m (block_of o)) ])

-- an order of a cache that does not wait: a hit is finished, a miss waits
abbrev pub order_at : Machine → ℕ → Order → Option ℕ → Outcome
order_at m c o None = miss m c o None
order_at m c o (Some w) =
    let h : Way = m.way (home m (block_of o)) c w in
    cond (hits o h.state) (finish m (home m (block_of o)) c w h.state h.words o) (miss m c o (Some w))

-- 1 no such cache, 2 no such block, 3 no such word, 11 the cache waits
abbrev pub order : Machine → ℕ → Order → Outcome
order m c o =
    cond (nat_le m.geometry.caches c) (refuse m 1)
    (cond (nat_le m.geometry.blocks (block_of o)) (refuse m 2)
    (cond (nat_le 2 (word_asked o)) (refuse m 3)
    (elim (m.kept c) [ Some kept ↦ refuse m 11 | None ↦ order_at m c o (holding_way m c (block_of o)) ])))
