use Rattle.std.proofs.Common.{◌≡◌, ℕ, Bool, true, false, rules}
use Rattle.std.proofs.lemmas.Iterator.{first_from_Range}
use Rattle.protocols.specs.States.{owning}
use Rattle.machine.specs.Directory.{shown_state}
use Rattle.directory.specs.Alone.{alone}
use Rattle.directory.proofs.Searches.{lowest_from_find}
use Rattle.directory.proofs.state.Directory.owner.Goals as goal

pub returns : goal.returns
returns c =
    let owns : ℕ → Bool = λ k. owning (shown_state (alone c.args.self.now) k c.args.block) in
    lowest_from_find owns _ _ c.find.result c.caches.ensures
    (first_from_Range _ _ _ _ (λ k. owns k ≡ true) (λ k. owns k ≡ false) c.find.ensures.ran (λ k q p. search rules) (λ k q p. search rules))
