use Rattle.tables.proofs.Grids.{grid_new}
use Rattle.tables.proofs.by_way.ByWay.new.Goals as goal

pub returns : goal.returns
returns g c = (grid_new c.args.zero)
