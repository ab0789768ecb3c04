-- Where no action is silent, no step is; else what `find` tells of the steps.
use Rattle.std.proofs.Common.{◌∙◌, arith, rules}
use Rattle.std.proofs.lemmas.Iterator.{first_from_Range}
use Rattle.model.specs.StoredModel.{model_at}
use Rattle.model.specs.System.{SilentStep}
use Rattle.model.specs.Laws.System.StoredLaws.{stored_steps}
use Rattle.letters.specs.Laws.LettersLaws.{number_found, step_found}
use Rattle.letters.proofs.silent_steps.first_silent.Goals as goal

pub returns : goal.returns
returns c =
    let P = SilentStep (model_at c.args.store.now) in
    let n = c.steps.ensures ∙ stored_steps c.requires.stored in
    step_found P _ _
    (number_found P _
    (first_from_Range _ _ _ _ P (λ i. ¬ (P i)) c.find.ensures.ran (λ x q k. search rules)
    (λ x q k. (search rules, search rules)))
    (λ i l. absurd (omega arith)) (λ i l x. omega (arith, n, x.number_lt)))
    c.map.ensures.cases
