-- Questions: each answers what stands at a key, or why there is none. They change nothing.
use Rattle.std.specs.Prelude.{ℕ, zero, suc, cond, ◌||◌, length, Ok, Err, Option, Result, nat_le}
use Rattle.bedrock.specs.BlockWords.{word_of}
use Rattle.machine.specs.declared.holding.Way.{Way}
use Rattle.machine.specs.declared.holding.Entry.{Entry}
use Rattle.machine.specs.declared.order.Order.{Order}
use Rattle.machine.specs.Machines.{Machine}

-- a way of a cache in a set: 1 no such cache, 10 no such set or way
abbrev pub way_asked : Machine → ℕ → ℕ → ℕ → Result Way ℕ
way_asked m c s w = cond (nat_le m.geometry.caches c) (Err 1) (cond (nat_le m.geometry.sets s || nat_le m.geometry.ways w) (Err 10) (Ok (m.way s c w)))

-- what the directory shows of it
abbrev pub entry_asked : Machine → ℕ → ℕ → ℕ → Result Entry ℕ
entry_asked m c s w = cond (nat_le m.geometry.caches c) (Err 1) (cond (nat_le m.geometry.sets s || nat_le m.geometry.ways w) (Err 10) (Ok (m.entry s c w)))

-- the order that a cache waits with, if it does
abbrev pub kept_asked : Machine → ℕ → Result (Option Order) ℕ
kept_asked m c = cond (nat_le m.geometry.caches c) (Err 1) (Ok (m.kept c))

-- the pending count of a set
abbrev pub count_asked : Machine → ℕ → Result ℕ ℕ
count_asked m s = cond (nat_le m.geometry.sets s) (Err 10) (Ok (m.count s))

-- how many messages wait on a channel, 0 to 3
abbrev pub length_asked : Machine → ℕ → Result ℕ ℕ
length_asked m zero = Ok (length m.requests)
length_asked m (suc zero) = Ok (length m.commands)
length_asked m (suc (suc zero)) = Ok (length m.responses)
length_asked m (suc (suc (suc zero))) = Ok (length m.memory_commands)
length_asked m (suc (suc (suc (suc n)))) = Err 4

-- a word of the memory: 2 no such block, 3 no such word
abbrev pub memory_asked : Machine → ℕ → ℕ → Result ℕ ℕ
memory_asked m b k = cond (nat_le m.geometry.blocks b) (Err 2) (cond (nat_le 2 k) (Err 3) (Ok (word_of (m.memory b) k)))
