-- The test of an action decides whether it is good.
use Rattle.std.proofs.Common.{rules, tests}
use Rattle.model.specs.Inner.GoodPlaces.{GoodAction}
use Rattle.model.proofs.Laws.Store.EachAllLaws.{all_below}
use Rattle.model.proofs.good.actions_good.Goals as goal

pub returns : goal.returns
returns c =
    all_below (GoodAction c.args.store.now) _ _ _ c.all.ensures.ran (λ x q k. search (rules, tests))
    (λ x q k. search (rules, tests))
