-- What `find` tells of the steps of p, for a step of p stands among them.
use Rattle.std.proofs.Common.{ℕ, rules}
use Rattle.std.proofs.lemmas.Iterator.{first_from_Range}
use Rattle.model.specs.StoredModel.{model_at}
use Rattle.letters.specs.Inner.Letters.{Alone, Unanswered}
use Rattle.letters.specs.Laws.LettersLaws.{own_found, step_found}
use Rattle.letters.proofs.letters.alone.Goals as goal

pub returns : goal.returns
returns c =
    let m = model_at c.args.store.now in
    let P = Alone m c.args.p.0 c.args.q.0 in
    let Q : ℕ → Type 0 = Unanswered m c.args.q.0 in
    step_found P _ _
    (own_found c.requires.step_lists.index c.requires.p_bound.0 P (λ j x. (x.unanswered.number_lt, x.source_is)) Q
    (λ j l e u. record { source_is = e; unanswered = u }) (λ j x. x.unanswered) c.own_steps.ensures _
    (first_from_Range _ _ _ _ Q (λ i. ¬ (Q i)) c.find.ensures.ran (λ x q k. search rules)
    (λ x q k. (search rules, search rules))))
    c.map.ensures.cases
