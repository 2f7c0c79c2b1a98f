use Rattle.std.proofs.Common.{◌≡◌, ◌&&◌, ◌==◌, ℕ, Bool, true, false, rules}
use Rattle.std.proofs.lemmas.Iterator.{first_from_Range}
use Rattle.protocols.specs.States.{held}
use Rattle.machine.specs.Machines.{home}
use Rattle.machine.specs.declared.holding.Entry.{Entry}
use Rattle.directory.specs.Alone.{alone}
use Rattle.directory.proofs.Searches.{lowest_from_find}
use Rattle.directory.proofs.state.Directory.shown_way.Goals as goal

pub returns : goal.returns
returns c =
    let m = alone c.args.self.now in
    let entry : ℕ → Entry = m.entry (home m c.args.block) c.args.cache in
    let shows : ℕ → Bool = λ w. held (entry w).state && (entry w).block == c.args.block in
    lowest_from_find shows _ _ c.find.result c.ways.ensures
    (first_from_Range _ _ _ _ (λ w. shows w ≡ true) (λ w. shows w ≡ false) c.find.ensures.ran (λ w q p. search rules) (λ w q p. search rules))
