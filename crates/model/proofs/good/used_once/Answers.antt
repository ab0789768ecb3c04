-- The test of an action decides whether it has another name.
use Rattle.std.proofs.Common.{rules, tests}
use Rattle.model.specs.Inner.GoodPlaces.{OtherName}
use Rattle.model.proofs.Laws.Store.EachAllLaws.{all_below}
use Rattle.model.proofs.good.used_once.Goals as goal

pub returns : goal.returns
returns c =
    all_below (OtherName c.args.store.now c.args.a.0) _ _ _ c.all.ensures.ran (λ x q k. search (rules, tests))
    (λ x q k. search (rules, tests))
