use Rattle.tables.proofs.Grids.{grid_written}
use Rattle.tables.proofs.by_way.ByWay.put.Goals as goal

pub returns-in-Some : goal.returns-in-Some
returns-in-Some g c = let a = c.args in λ zero. grid_written zero a.self.now.cells a.set a.cache a.way _ a.value c.in-Some.ensures.value a.self.now.sized
