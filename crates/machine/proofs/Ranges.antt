-- Keys in range: a geometry within its bounds has no more caches, sets, ways and blocks than the tables have places.
use Rattle.std.proofs.Common.{◌≡◌, ℕ, ◌<◌, ◌≤◌, true, ◌&&◌, leb, arith, leb-true}
use Rattle.std.proofs.lemmas.Bool.{and_parts}
use Rattle.std.proofs.lemmas.Nat.{mod_below}
use Rattle.bedrock.specs.Geometries.{Sizes, set_of, within, bounded}

pub record Bounds (n : Sizes) : Type 0 where
  pub caches : n.caches ≤ 8
  pub some_sets : 0 < n.sets
  pub sets : n.sets ≤ 16
  pub some_ways : 0 < n.ways
  pub ways : n.ways ≤ 4
  pub blocks : n.blocks ≤ 1024

within_is : (low k high : ℕ) → within low k high ≡ true → (low ≤ k) × (k ≤ high)
within_is low k high h = let p = and_parts (leb low k) (leb k high) h in (leb-true low k p.0, leb-true k high p.1)

pub bounds_of : (n : Sizes) → bounded n ≡ true → Bounds n
bounds_of n h =
    let p = and_parts (within 1 n.caches 8) (within 1 n.sets 16 && (within 1 n.ways 4 && within 1 n.blocks 1024)) h in
    let q = and_parts (within 1 n.sets 16) (within 1 n.ways 4 && within 1 n.blocks 1024) p.1 in
    let r = and_parts (within 1 n.ways 4) (within 1 n.blocks 1024) q.1 in
    let sets = within_is 1 n.sets 16 q.0 in
    let ways = within_is 1 n.ways 4 r.0 in
    record {
      caches = (within_is 1 n.caches 8 p.0).1;
      some_sets = sets.0;
      sets = sets.1;
      some_ways = ways.0;
      ways = ways.1;
      blocks = (within_is 1 n.blocks 1024 r.1).1;
    }

pub set_below : (n : Sizes) → Bounds n → (b : ℕ) → set_of n b < 16
set_below n in_bounds b = let l = mod_below b n.sets in_bounds.some_sets in let m = in_bounds.sets in omega arith

pub cache_below : (n : Sizes) → Bounds n → (c : ℕ) → c < n.caches → c < 8
cache_below n in_bounds c l = let m = in_bounds.caches in omega arith

pub way_below : (n : Sizes) → Bounds n → (w : ℕ) → w < n.ways → w < 4
way_below n in_bounds w l = let m = in_bounds.ways in omega arith

pub block_below : (n : Sizes) → Bounds n → (b : ℕ) → b < n.blocks → b < 1024
block_below n in_bounds b l = let m = in_bounds.blocks in omega arith
