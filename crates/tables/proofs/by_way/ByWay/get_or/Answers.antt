use Rattle.tables.proofs.Grids.{grid_read, grid_none}
use Rattle.tables.proofs.by_way.ByWay.get_or.Goals as goal

pub returns-in-Some : goal.returns-in-Some
returns-in-Some g c = let a = c.args in grid_read a.zero a.self.now.cells a.set a.cache a.way _ _ c.in-Some.ensures.value a.self.now.sized

pub returns-in-None : goal.returns-in-None
returns-in-None g c = let a = c.args in grid_none a.zero a.self.now.cells a.set a.cache a.way _ c.in-None.ensures.value
