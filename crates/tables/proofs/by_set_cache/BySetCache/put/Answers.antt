use Rattle.tables.proofs.Grids.{rows_written}
use Rattle.tables.proofs.by_set_cache.BySetCache.put.Goals as goal

pub returns-in-Some : goal.returns-in-Some
returns-in-Some g c = let a = c.args in λ zero. rows_written zero a.self.now.cells a.set a.cache _ a.value c.in-Some.ensures.value a.self.now.sized
