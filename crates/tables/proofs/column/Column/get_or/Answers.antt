use Rattle.std.proofs.Common.{◌∙◌, arith}
use Rattle.tables.proofs.Grids.{column_read}
use Rattle.tables.proofs.column.Column.get_or.Goals as goal

pub returns : goal.returns
returns g c =
    let a = c.args in
    rw (c.unwrap_or.ensures, c.copied.ensures) (c.get.ensures.lookup.4 (omega arith) a.zero ∙ column_read a.zero a.self.now.cells _ a.key a.self.now.sized)
