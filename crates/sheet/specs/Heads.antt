-- The head of a sheet: 13 bytes.
use Rattle.std.specs.Prelude.{ℕ, Bool, false, cond, ◌&&◌, List, ◌∷◌, ◌++◌, length, Ok, Err, codes, Result, ◌==◌, nat_le, nat_lt, slice_index}
use Rattle.bedrock.specs.Geometries.{Sizes, bounded}
use Rattle.protocols.specs.ProtocolKinds.{code_of}
use Rattle.sheet.specs.declared.head.Head.{Head}
use Rattle.sheet.specs.declared.head.HeadCodes.{HeadCodes}
use Rattle.sheet.specs.Bytes.{bytes_of, field}
use Rattle.sheet.specs.Kinds.{channel_code, memory_code}

-- the codes of a head whose kinds and geometry are known
abbrev pub head_codes : Head → HeadCodes
head_codes h = record { protocol = code_of h.protocol; channels = channel_code h.channels; memory = memory_code h.memory; caches = h.geometry.caches; sets = h.geometry.sets; ways = h.geometry.ways; blocks = h.geometry.blocks }

abbrev pub sizes_in : HeadCodes → Sizes
sizes_in h = record { caches = h.caches; sets = h.sets; ways = h.ways; blocks = h.blocks }

-- protocol 0 to 7, channel kind 0 to 2, memory kind 0 or 1, and a geometry
abbrev pub in_bounds : HeadCodes → Bool
in_bounds h = nat_lt h.protocol 8 && (nat_lt h.channels 3 && (nat_lt h.memory 2 && bounded (sizes_in h)))

abbrev pub judged : HeadCodes → Result HeadCodes ℕ
judged h = cond (in_bounds h) (Ok h) (Err 7)

-- the head as bytes: the mark MOS, version 1 in two bytes, the codes, the blocks in two bytes
abbrev pub head_bytes : HeadCodes → List ℕ
head_bytes h = codes "MOS" ++ (bytes_of 2 1 ++ (h.protocol ∷ h.channels ∷ h.memory ∷ h.caches ∷ h.sets ∷ h.ways ∷ bytes_of 2 h.blocks))

-- 13 bytes are there, and begin with mark and version
abbrev pub marked : List ℕ → Bool
marked bs = nat_le 13 (length bs) && (slice_index bs 0 == 77 && (slice_index bs 1 == 79 && (slice_index bs 2 == 83 && (slice_index bs 3 == 1 && slice_index bs 4 == 0))))

-- the codes where they stand in the head
abbrev pub codes_in : List ℕ → HeadCodes
codes_in bs = record { protocol = slice_index bs 5; channels = slice_index bs 6; memory = slice_index bs 7; caches = slice_index bs 8; sets = slice_index bs 9; ways = slice_index bs 10; blocks = field 11 2 bs }

-- the head that a sheet's bytes begin with: 5 over 32,768 bytes, then 6 where it is short or has another mark or version, then 7
abbrev pub head_of : List ℕ → Result HeadCodes ℕ
head_of bs = cond (nat_lt 32768 (length bs)) (Err 5) (cond (marked bs) (judged (codes_in bs)) (Err 6))

-- the two heads have the same codes
abbrev pub same_codes : HeadCodes → HeadCodes → Bool
same_codes g h = g.protocol == h.protocol && (g.channels == h.channels && (g.memory == h.memory && (g.caches == h.caches && (g.sets == h.sets && (g.ways == h.ways && g.blocks == h.blocks)))))

-- the bytes begin with a good head, and it has these codes
abbrev pub is_head : Result HeadCodes ℕ → HeadCodes → Bool
is_head (Ok g) h = same_codes g h
is_head (Err n) h = false
