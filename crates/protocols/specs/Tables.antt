-- The tables of the eight protocols: the row of a read for each state that the directory shows.
use Rattle.std.specs.Prelude.{true, false, List, [], ◌∷◌, Some, None, Option, slice_index_or}
use Rattle.protocols.specs.declared.state.State.{State}
use Rattle.protocols.specs.declared.state.State.TheVariants.{I, S, E, M, O, F}
use Rattle.protocols.specs.declared.row.Row.{Row}
use Rattle.protocols.specs.declared.protocol_kind.ProtocolKind.{ProtocolKind}
use Rattle.protocols.specs.declared.protocol_kind.ProtocolKind.TheVariants.{Mi, Msi, Mesi, Mesif, Mosi, Mosif, Moesi, Moesif}
use Rattle.protocols.specs.States.{state_number}
use Rattle.protocols.specs.Rows.{row_of}

-- A cell is a row, or blank where the protocol never meets the state.
abbrev pub Cell : Type 0
Cell = Option Row

abbrev blank : Cell
blank = None

-- Cells by owner's next / requestor's next: a dot where there is no owner, W where the owner writes back.
abbrev ·/M : Cell
·/M = Some (row_of I M false)

abbrev ·/E : Cell
·/E = Some (row_of I E false)

abbrev ·/S : Cell
·/S = Some (row_of I S false)

abbrev ·/F : Cell
·/F = Some (row_of I F false)

abbrev I/M : Cell
I/M = Some (row_of I M false)

abbrev O/S : Cell
O/S = Some (row_of O S false)

abbrev F/S : Cell
F/S = Some (row_of F S false)

abbrev S/S·W : Cell
S/S·W = Some (row_of S S true)

abbrev F/S·W : Cell
F/S·W = Some (row_of F S true)

-- the cells of a protocol, at I, S, E, M, O, F
abbrev pub cells : ProtocolKind → List Cell
cells Mi = ·/M ∷ blank ∷ blank ∷ I/M ∷ blank ∷ blank ∷ []
cells Msi = ·/S ∷ ·/S ∷ blank ∷ S/S·W ∷ blank ∷ blank ∷ []
cells Mesi = ·/E ∷ ·/S ∷ S/S·W ∷ S/S·W ∷ blank ∷ blank ∷ []
cells Mesif = ·/E ∷ ·/S ∷ S/S·W ∷ S/S·W ∷ blank ∷ F/S ∷ []
cells Mosi = ·/S ∷ ·/S ∷ blank ∷ O/S ∷ O/S ∷ blank ∷ []
cells Mosif = ·/F ∷ ·/S ∷ blank ∷ O/S ∷ O/S ∷ F/S ∷ []
cells Moesi = ·/E ∷ ·/S ∷ S/S·W ∷ O/S ∷ O/S ∷ blank ∷ []
cells Moesif = ·/E ∷ ·/S ∷ F/S·W ∷ O/S ∷ O/S ∷ F/S ∷ []

abbrev no_row : Row
no_row = row_of I I false

-- the row of the first cell that is not blank
abbrev filled : Cell → Cell → Row
filled (Some r) other = r
filled None (Some r) = r
filled None None = no_row

abbrev filled_from : List Cell → List Cell → List Row
filled_from [] others = []
filled_from (c ∷ cs) [] = filled c blank ∷ filled_from cs []
filled_from (c ∷ cs) (o ∷ os) = filled c o ∷ filled_from cs os

-- a protocol's table: a blank is filled from MOESIF's row
abbrev pub table_of : ProtocolKind → List Row
table_of p = filled_from (cells p) (cells Moesif)

abbrev pub read_row : ProtocolKind → State → Row
read_row p s = slice_index_or (table_of p) (state_number s) no_row
