-- The test of a step decides whether it is good.
use Rattle.std.proofs.Common.{rules, tests}
use Rattle.model.specs.Inner.GoodPlaces.{GoodStep}
use Rattle.model.proofs.Laws.Store.EachAllLaws.{all_below}
use Rattle.model.proofs.good.steps_good.Goals as goal

pub returns : goal.returns
returns c =
    all_below (GoodStep c.args.h c.args.store.now) _ _ _ c.all.ensures.ran (λ x q k. search (rules, tests))
    (λ x q k. search (rules, tests))
