-- The test of an action decides whether it is silent.
use Rattle.std.proofs.Common.{rules, arith, T, tests}
use Rattle.text.specs.Laws.DecidesLaws.{decides_iff}
use Rattle.model.specs.Inner.ModelOf.{model_of}
use Rattle.model.specs.System.{view}
use Rattle.model.proofs.Laws.Store.EachAllLaws.{any_below}
use Rattle.moves.proofs.labels.some_silent.Goals as goal

pub returns : goal.returns
returns c =
    let m = model_of c.args.store.store in
    decides_iff c.any.result
    (λ w. record { action = w.0; action_lt = omega (arith, w.1, c.actions-n.ensures); is_silent = w.2 })
    (λ x. (x.action, omega (arith, x.action_lt, c.actions-n.ensures), x.is_silent))
    (any_below (λ a. T ((view m).levels.silent? a)) _ _ _ c.any.ensures.ran (λ x q k. search (rules, tests))
    (λ x q k. search (rules, tests)))
