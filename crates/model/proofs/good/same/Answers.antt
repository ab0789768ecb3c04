-- The test of a place decides whether it holds the same.
use Rattle.std.proofs.Common.{rules, tests}
use Rattle.model.specs.Inner.GoodPlaces.{SameAt}
use Rattle.model.proofs.Laws.Store.EachAllLaws.{all_below}
use Rattle.model.proofs.good.same.Goals as goal

pub returns : goal.returns
returns c =
    all_below (SameAt c.args.store.now c.args.p c.args.q) _ _ _ c.all.ensures.ran (λ x q k. search (rules, tests))
    (λ x q k. search (rules, tests))
