use Rattle.tables.proofs.Grids.{column_new}
use Rattle.tables.proofs.column.Column.new.Goals as goal

pub returns : goal.returns
returns g c = (column_new c.args.zero _)
