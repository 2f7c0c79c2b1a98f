-- The kinds of channel and memory that a head can name: the code of each, and the name of each code.
use Rattle.std.specs.Prelude.{ℕ, List, [], ◌∷◌, codes, slice_index_or}
use Rattle.sheet.specs.declared.kinds.ChannelKind.{ChannelKind}
use Rattle.sheet.specs.declared.kinds.ChannelKind.TheVariants.{Unordered, Paired, SingleFile}
use Rattle.sheet.specs.declared.kinds.MemoryKind.{MemoryKind}
use Rattle.sheet.specs.declared.kinds.MemoryKind.TheVariants.{Words, Image}

abbrev pub channel_code : ChannelKind → ℕ
channel_code Unordered = 0
channel_code Paired = 1
channel_code SingleFile = 2

abbrev pub channel_name : ℕ → List ℕ
channel_name n = slice_index_or (codes "unordered" ∷ codes "paired" ∷ codes "single file" ∷ []) n []

abbrev pub memory_code : MemoryKind → ℕ
memory_code Words = 0
memory_code Image = 1

abbrev pub memory_name : ℕ → List ℕ
memory_name n = slice_index_or (codes "words" ∷ codes "image" ∷ []) n []
