-- What playing a sheet prints, from its bytes.
use Rattle.std.specs.Prelude.{ℕ, zero, suc, true, List, [], ◌∷◌, drop, Ok, Err, Result, slice_index_or}
use Rattle.protocols.specs.declared.state.State.{State}
use Rattle.protocols.specs.declared.row.Row.{Row}
use Rattle.protocols.specs.declared.protocol_kind.ProtocolKind.{ProtocolKind}
use Rattle.protocols.specs.declared.protocol_kind.ProtocolKind.TheVariants.{Mi, Msi, Mesi, Mesif, Mosi, Mosif, Moesi, Moesif}
use Rattle.protocols.specs.Tables.{read_row}
use Rattle.bedrock.specs.declared.words.Words.{Words}
use Rattle.memory.specs.Blocks.{empty_blocks}
use Rattle.machine.specs.Machines.{Machine, new}
use Rattle.machine.specs.Outcomes.{Said}
use Rattle.machine.specs.Runs.{Past}
use Rattle.machine.specs.Picking.{Picks, unordered, paired, single_file, play, heard}
use Rattle.sheet.specs.declared.head.HeadCodes.{HeadCodes}
use Rattle.sheet.specs.Heads.{head_of, sizes_in}
use Rattle.sheet.specs.Records.{Item}
use Rattle.sheet.specs.Readings.{Reading, reading}
use Rattle.player.specs.Contents.{starting_content}
use Rattle.player.specs.Calls.{calls_in, items_in}
use Rattle.player.specs.Lines.{refusal_line, reading_lines}

-- the rows of the protocol with a code
abbrev pub protocol_of : ℕ → ProtocolKind
protocol_of n = slice_index_or (Mi ∷ Msi ∷ Mesi ∷ Mesif ∷ Mosi ∷ Mosif ∷ Moesi ∷ Moesif ∷ []) n Mi

abbrev pub rows_of : ℕ → State → Row
rows_of n = read_row (protocol_of n)

-- how channels of the kind with a code pick: 0 unordered, 1 paired, 2 single file
abbrev pub picks_of : ℕ → Picks
picks_of zero = unordered
picks_of (suc zero) = paired
picks_of (suc (suc n)) = single_file

-- a memory of zeros with the contents that come before every call
abbrev pub content_of : HeadCodes → List Item → ℕ → Words
content_of h xs = starting_content h.blocks empty_blocks xs

-- the fabric that the calls of a sheet start on
abbrev pub start_of : HeadCodes → List Item → Machine
start_of h xs = new (sizes_in h) (rows_of h.protocol) (content_of h xs)

-- the run of its calls, and what they answered
abbrev pub run_of : HeadCodes → List Item → Past
run_of h xs = play (picks_of h.channels) (start_of h xs) (calls_in xs)

abbrev pub answers_by : Picks → HeadCodes → List Item → List Said
answers_by k h xs = heard k (start_of h xs) (calls_in xs)

abbrev pub answers_of : HeadCodes → List Item → List Said
answers_of h xs = answers_by (picks_of h.channels) h xs

-- what follows a sheet's head, record by record
abbrev pub reading_of : List ℕ → Reading
reading_of bs = reading (drop 13 bs)

-- the lines of the records, numbered from 1, where the channels pick as k says
unfoldable pub lines_by : Picks → HeadCodes → Reading → List ℕ
lines_by k h r = reading_lines h.blocks 1 true r (answers_by k h (items_in r))

-- the lines of a sheet; a head that is refused has a line with number 0, and that is all
abbrev pub lines_after_head : Reading → Result HeadCodes ℕ → List ℕ
lines_after_head r (Ok h) = lines_by (picks_of h.channels) h r
lines_after_head r (Err e) = refusal_line 0 e

abbrev pub playing_of : List ℕ → List ℕ
playing_of bs = lines_after_head (reading_of bs) (head_of bs)

-- the machine after the calls of a sheet; one cache of one way where there is no good head
abbrev pub machine_of : Reading → Result HeadCodes ℕ → Machine
machine_of r (Ok h) = (run_of h (items_in r)).machine
machine_of r (Err e) = new (record { caches = 1; sets = 1; ways = 1; blocks = 1 }) (rows_of 0) empty_blocks

abbrev pub machine_after : List ℕ → Machine
machine_after bs = machine_of (reading_of bs) (head_of bs)
