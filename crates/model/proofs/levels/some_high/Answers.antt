-- The test of an action decides whether it is high.
use Rattle.std.proofs.Common.{rules, ◌≡◌, tests}
use Rattle.text.specs.Model.{high}
use Rattle.text.specs.Laws.DecidesLaws.{decides_iff}
use Rattle.model.specs.StoredModel.{action_at}
use Rattle.model.specs.Laws.Store.ListedLaws.{some_high?_listed, listed_some_high?}
use Rattle.model.proofs.Laws.Store.EachAllLaws.{any_below}
use Rattle.model.proofs.levels.some_high.Goals as goal

pub returns : goal.returns
returns c =
    let s = c.args.store.now in
    decides_iff c.any.result (λ w. listed_some_high? _ _ w.0 w.1 w.2) (λ t. some_high?_listed _ _ t)
    (any_below (λ k. (action_at s k).level ≡ high) _ _ _ c.any.ensures.ran (λ x q k. search (rules, tests))
    (λ x q k. search (rules, tests)))
