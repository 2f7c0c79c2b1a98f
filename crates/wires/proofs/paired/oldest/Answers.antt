use Rattle.std.proofs.Common.{◌≡◌, true, false, refl, sym, ◌∙◌, rules, add-one}
use Rattle.std.proofs.lemmas.Iterator.{YieldsList-from_slice, IsFirst-from_position, index_from_first}
use borrow.Author.Tests.{tests}
use Rattle.wires.specs.Picks.{same_pair, first_by}
use Rattle.wires.proofs.paired.oldest.Goals as goal

pub returns : goal.returns
returns g c =
    let t = same_pair g.T.Routed.from g.T.Routed.to c.args.message.now in
    let xs = c.args.waiting.now in
    let found =
    IsFirst-from_position _ _ c.position.result (λ m. t m ≡ true) (λ m. t m ≡ false) c.position.ensures.ran
    (YieldsList-from_slice xs cc) (λ x q k. search (rules, tests)) (λ x q k. search (rules, tests)) in
    c.unwrap_or.ensures
    ∙ sym (index_from_first (first_by t) (λ m. t m ≡ true) (λ m. t m ≡ false) refl (λ x ys e. rw e) (λ x ys e. rw (e, add-one)) xs c.position.result found)
