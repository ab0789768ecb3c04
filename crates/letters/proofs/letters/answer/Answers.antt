-- The role says whether step j is low, `step_of_action` gives q's one step of its action, the table the targets' rank.
use Rattle.std.proofs.Common.{sym, ap, subst, ◌∙◌}
use Rattle.std.proofs.lemmas.Bool.{eqb-true, eqb-false}
use Rattle.text.specs.declared.Action.{Action}
use Rattle.text.specs.declared.State.{State}
use Rattle.model.specs.StoredModel.{model_at}
use Rattle.model.specs.Laws.System.StepTestLaws.{reachable_state}
use Rattle.model.specs.Laws.System.StoredLaws.{stored_action, stored_target}
use Rattle.letters.specs.Inner.Letters.{FoundFirst, Answer}
use Rattle.letters.specs.Laws.LettersLaws.{found_if, step_of_at, letter_low, separated_of_entry, not_answer}
use Rattle.letters.proofs.letters.answer.Goals as goal

pub step_of_action-requires-clause-p_bound : goal.step_of_action-requires-clause-p_bound
step_of_action-requires-clause-p_bound c =
    reachable_state c.requires.word_lists.step_lists.stored c.requires.deterministic_model.1

pub returns : goal.returns
returns c =
    let P = Answer (model_at c.args.store.now) c.args.q.0 c.args.k c.args.j.0 in
    let W = c.requires.word_lists in
    let st = W.step_lists.stored in
    let (pos, l, r) = c.requires.k_nonzero in
    let (det, t) = c.requires.deterministic_model in
    let i = c.in_ok-i.ensures in
    let d = ap (λ (x : Action). x.0) c.action-a.ensures ∙ stored_action st _ l in
    let e = ap (λ (x : State). x.0) c.target-x.ensures ∙ stored_target st _ l in
    let g = ap (λ (x : State). x.0) c.target-y.ensures ∙ stored_target st _ i.holds.number_lt in
    subst (FoundFirst P) (sym c.then_some.ensures)
    (found_if P _ _
    (λ b. record {
      holds = record {
        is_low = letter_low W.step_lists d l c.if-not-is_low.ensures;
        step_of = step_of_at d i.holds;
        targets = separated_of_entry W l r t i.holds e g pos (sym c.rank_at.ensures ∙ eqb-true _ _ b);
      };
      first = λ o x. i.first o (step_of_at (sym d) x.step_of);
    })
    (λ b. not_answer W l r t i.holds e g det d (λ z. eqb-false _ _ b (c.rank_at.ensures ∙ z))))
