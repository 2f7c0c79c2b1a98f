use Rattle.tables.proofs.Grids.{rows_new}
use Rattle.tables.proofs.by_set_cache.BySetCache.new.Goals as goal

pub returns : goal.returns
returns g c = (rows_new c.args.zero)
