-- What each test says of an action's name says whether the name is used.
use Rattle.std.proofs.Common.{rules, tests}
use Rattle.model.proofs.Laws.Store.EachAllLaws.{any_cases}
use Rattle.model.proofs.Laws.Store.NamesLaws.{used?_answer}
use Rattle.model.proofs.names.used.Goals as goal

pub returns : goal.returns
returns c before s e =
    used?_answer _ before s _ _ e _
    (any_cases _ _ _ _ _ c.any.ensures.ran (λ x q k. search (rules, tests)) (λ x q k. search (rules, tests)))
