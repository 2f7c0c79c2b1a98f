use Rattle.std.proofs.Common.{◌≡◌, ℕ, Bool, true, false, not, rules}
use Rattle.std.proofs.lemmas.Iterator.{first_from_Range}
use Rattle.protocols.specs.States.{held}
use Rattle.machine.specs.Holdings.{no_way}
use Rattle.tables.specs.Grids.{grid}
use Rattle.directory.proofs.Searches.{lowest_from_find}
use Rattle.cache_steps.proofs.orders.empty_way.Goals as goal

pub returns : goal.returns
returns g c =
    let a = c.args in
    let empty : ℕ → Bool = λ w. not (held (grid no_way a.parts.now.ways.cells a.set a.cache w).state) in
    lowest_from_find empty _ _ c.find.result c.ways.ensures
    (first_from_Range _ _ _ _ (λ w. empty w ≡ true) (λ w. empty w ≡ false) c.find.ensures.ran (λ w q p. search rules) (λ w q p. search rules))
