-- A directory as a machine that has nothing else: empty caches, empty channels, a memory of zeros.
use Rattle.std.specs.Prelude.{[], None}
use Rattle.bedrock.specs.BlockWords.{no_words}
use Rattle.bedrock.specs.Geometries.{sizes}
use Rattle.protocols.specs.declared.state.State.{State}
use Rattle.protocols.specs.declared.row.Row.{Row}
use Rattle.protocols.specs.Rows.{write_row}
use Rattle.machine.specs.Holdings.{no_way, no_entry}
use Rattle.machine.specs.Machines.{Machine}
use Rattle.tables.specs.Grids.{grid}
use Rattle.directory.specs.declared.state.Directory.{Directory}

-- under a protocol
abbrev pub under : (State → Row) → Directory → Machine
under rows d = record { geometry = sizes d.geometry; rows = rows; way = λ _ _ _. no_way; entry = grid no_entry d.entries.cells; kept = λ _. None; turn = λ _ _. 0; serving = λ _. None; count = λ _. 0; memory = λ _. no_words; requests = []; commands = []; responses = []; memory_commands = [] }

-- where the protocol does not matter
abbrev pub alone : Directory → Machine
alone d = under (λ _. write_row) d

-- The directory of a machine, and nothing else: under another protocol,
abbrev pub bare : (State → Row) → Machine → Machine
bare rows m = record { geometry = m.geometry; rows = rows; way = λ _ _ _. no_way; entry = m.entry; kept = λ _. None; turn = λ _ _. 0; serving = λ _. None; count = λ _. 0; memory = λ _. no_words; requests = []; commands = []; responses = []; memory_commands = [] }

-- under its own,
abbrev pub only_directory : Machine → Machine
only_directory m = bare m.rows m

-- and where the protocol does not matter
abbrev pub only_entries : Machine → Machine
only_entries m = bare (λ _. write_row) m
