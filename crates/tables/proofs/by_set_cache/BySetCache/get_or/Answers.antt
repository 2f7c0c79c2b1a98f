use Rattle.tables.proofs.Grids.{rows_read, rows_none}
use Rattle.tables.proofs.by_set_cache.BySetCache.get_or.Goals as goal

pub returns-in-Some : goal.returns-in-Some
returns-in-Some g c = let a = c.args in rows_read a.zero a.self.now.cells a.set a.cache _ _ c.in-Some.ensures.value a.self.now.sized

pub returns-in-None : goal.returns-in-None
returns-in-None g c = let a = c.args in rows_none a.zero a.self.now.cells a.set a.cache _ c.in-None.ensures.value
