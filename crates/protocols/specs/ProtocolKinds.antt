-- The eight protocols: the code and the name of each.
use Rattle.std.specs.Prelude.{ℕ, List, [], ◌∷◌, codes, slice_index_or}
use Rattle.protocols.specs.declared.protocol_kind.ProtocolKind.{ProtocolKind}
use Rattle.protocols.specs.declared.protocol_kind.ProtocolKind.TheVariants.{Mi, Msi, Mesi, Mesif, Mosi, Mosif, Moesi, Moesif}

abbrev pub code_of : ProtocolKind → ℕ
code_of Mi = 0
code_of Msi = 1
code_of Mesi = 2
code_of Mesif = 3
code_of Mosi = 4
code_of Mosif = 5
code_of Moesi = 6
code_of Moesif = 7

-- the name of the protocol with a code
abbrev pub name_of : ℕ → List ℕ
name_of n = slice_index_or (codes "MI" ∷ codes "MSI" ∷ codes "MESI" ∷ codes "MESIF" ∷ codes "MOSI" ∷ codes "MOSIF" ∷ codes "MOESI" ∷ codes "MOESIF" ∷ []) n []
