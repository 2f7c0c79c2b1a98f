-- Geometries: how large a fabric may be, and where a block belongs.
use Rattle.std.specs.Prelude.{ℕ, ◌%◌, Bool, cond, ◌&&◌, Ok, Err, Result, nat_le}
use Rattle.bedrock.specs.declared.geometry.Geometry.{Geometry}

-- the four numbers of a geometry
pub record Sizes : Type 0 where
  pub caches : ℕ
  pub sets : ℕ
  pub ways : ℕ
  pub blocks : ℕ

abbrev pub sizes : Geometry → Sizes
sizes g = record { caches = g.caches; sets = g.sets; ways = g.ways; blocks = g.blocks }

abbrev pub within : ℕ → ℕ → ℕ → Bool
within low n high = nat_le low n && nat_le n high

-- 1 to 8 caches, 1 to 16 sets, 1 to 4 ways, 1 to 1,024 blocks
abbrev pub bounded : Sizes → Bool
bounded g = within 1 g.caches 8 && (within 1 g.sets 16 && (within 1 g.ways 4 && within 1 g.blocks 1024))

-- a geometry of these sizes, refused with 7 outside the bounds and only there
abbrev pub judged_sizes : ℕ → ℕ → ℕ → ℕ → Result Sizes ℕ
judged_sizes c s w b =
    let g : Sizes = record { caches = c; sets = s; ways = w; blocks = b } in
    cond (bounded g) (Ok g) (Err 7)

-- block b belongs to set b mod the number of sets
abbrev pub set_of : Sizes → ℕ → ℕ
set_of g b = b % g.sets
