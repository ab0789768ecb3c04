-- What `find` tells of the steps of p, for a step of p stands among them.
use Rattle.std.proofs.Common.{◌≡◌, ℕ, sym, ◌∙◌, arith, rules, tests, get_or}
use Rattle.std.proofs.lemmas.Iterator.{first_from_Range}
use Rattle.text.specs.Limits.{action_of_step_place}
use Rattle.model.specs.StoredModel.{model_at}
use Rattle.model.specs.Laws.System.StoredLaws.{stored_action}
use Rattle.letters.specs.Inner.Letters.{StepOf}
use Rattle.letters.specs.Laws.LettersLaws.{own_found, step_found}
use Rattle.letters.proofs.letters.step_of_action.Goals as goal

pub returns : goal.returns
returns c =
    let P = StepOf (model_at c.args.store.now) c.args.p.0 c.args.a.0 in
    let Q : ℕ → Type 0 = λ j. get_or c.args.store.now (action_of_step_place j) 0 ≡ c.args.a.0 in
    let st = c.requires.stored in
    step_found P _ _
    (own_found c.requires.index_length_in_bounds.1 c.requires.p_bound P (λ j x. (x.number_lt, x.source_is)) Q
    (λ j l e q. record { number_lt = l; source_is = e; action_is = sym (stored_action st j l) ∙ q })
    (λ j x. stored_action st j x.number_lt ∙ x.action_is) c.own_steps.ensures _
    (first_from_Range _ _ _ _ Q (λ i. ¬ (Q i)) c.find.ensures.ran (λ x q k. search (rules, tests))
    (λ x q k. (search rules, grind (arith, tests)))))
    c.map.ensures.cases
