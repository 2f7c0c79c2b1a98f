-- Whether a way of a cache in a set is there, or why it is not: 1 no such cache, 10 no such set or way.
use Rattle.std.specs.Prelude.{ℕ, cond, ◌||◌, Ok, Err, Result, nat_le}
use Rattle.bedrock.specs.Geometries.{Sizes}

abbrev pub place_asked : Sizes → ℕ → ℕ → ℕ → Result (Unit {0}) ℕ
place_asked g c s w = cond (nat_le g.caches c) (Err 1) (cond (nat_le g.sets s || nat_le g.ways w) (Err 10) (Ok tt))
