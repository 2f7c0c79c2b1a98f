use Rattle.std.proofs.Common.{◌≡◌, ◌&&◌, ◌==◌, ℕ, Bool, true, false, rules}
use Rattle.std.proofs.lemmas.Iterator.{first_from_Range}
use Rattle.bedrock.specs.Geometries.{sizes, set_of}
use Rattle.protocols.specs.States.{held}
use Rattle.machine.specs.Holdings.{no_way}
use Rattle.machine.specs.declared.holding.Way.{Way}
use Rattle.tables.specs.Grids.{grid}
use Rattle.directory.proofs.Searches.{lowest_from_find}
use Rattle.cache_steps.proofs.orders.holding_way.Goals as goal

pub returns : goal.returns
returns g c =
    let a = c.args in
    let way : ℕ → Way = grid no_way a.parts.now.ways.cells (set_of (sizes a.parts.now.directory.geometry) a.block) a.cache in
    let holds : ℕ → Bool = λ w. held (way w).state && (way w).block == a.block in
    lowest_from_find holds _ _ c.find.result c.ways.ensures
    (first_from_Range _ _ _ _ (λ w. holds w ≡ true) (λ w. holds w ≡ false) c.find.ensures.ran (λ w q p. search rules) (λ w q p. search rules))
