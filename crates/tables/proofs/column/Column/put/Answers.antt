use Rattle.tables.proofs.Grids.{column_written}
use Rattle.tables.proofs.column.Column.put.Goals as goal

pub returns-then-key : goal.returns-then-key
returns-then-key g c =
    let t = c.args.self.now in
    λ zero. column_written zero t.cells _ c.args.key c.args.value t.sized c.if-key.true
