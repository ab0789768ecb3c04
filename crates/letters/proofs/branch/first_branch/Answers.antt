-- No step branches that is first or past the last.
use Rattle.std.proofs.Common.{◌∙◌, arith, rules}
use Rattle.std.proofs.lemmas.Iterator.{first_from_Range}
use Rattle.model.specs.StoredModel.{model_at}
use Rattle.model.specs.Laws.System.StoredLaws.{stored_steps}
use Rattle.letters.specs.Words.{Branches}
use Rattle.letters.specs.Laws.LettersLaws.{number_found, step_found}
use Rattle.letters.specs.Laws.WordsLaws.{not_first_branches}
use Rattle.letters.proofs.branch.first_branch.Goals as goal

pub returns : goal.returns
returns c =
    let P = Branches (model_at c.args.store.now) in
    let n = c.steps.ensures ∙ stored_steps c.requires.stored in
    step_found P _ _
    (number_found P _
    (first_from_Range _ _ _ _ P (λ i. ¬ (P i)) c.find.ensures.ran (λ x q k. search rules)
    (λ x q k. (search rules, search rules)))
    not_first_branches (λ i l x. omega (arith, n, x.number_lt)))
    c.map.ensures.cases
