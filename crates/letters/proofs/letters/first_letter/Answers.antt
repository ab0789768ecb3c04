-- No step of p before j has an answer, and some step has: steps rise by action, so the first has the lowest action.
use Rattle.std.proofs.Common.{ℕ, sym, ap, ◌∙◌, arith, below_more}
use Rattle.std.specs.declared.ops.Range.{Range}
use Rattle.model.specs.Laws.System.StepTestLaws.{reachable_state}
use Rattle.model.specs.StoredModel.{model_at}
use Rattle.letters.specs.Inner.Letters.{HasAnswer}
use Rattle.letters.specs.Laws.FirstSilentLaws.{reachable_at}
use Rattle.letters.specs.Laws.LettersLaws.{own_of_index, none_before, none_after, has_answer_some, first_letter_of}
use Rattle.letters.proofs.letters.first_letter.Goals as goal

pub own_steps-j-items-requires : goal.own_steps-j-items-requires
own_steps-j-items-requires c =
    let S = c.requires.word_lists.step_lists in
    omega (
      arith,
      S.index_length_is,
      S.stored.states_le,
      reachable_state S.stored c.requires.k_nonzero.1.first_reachable,
    )

pub loop-j-init : goal.loop-j-init
loop-j-init c =
    let S = c.requires.word_lists.step_lists in
    let p = reachable_state S.stored c.requires.k_nonzero.1.first_reachable in
    let e = c.own_steps-j-items.ensures in
    let is = c.into_iter-j-iterator.ensures.into_iter_gives in
    let start = ap (λ (r : Range ℕ). r.start) is ∙ e.0 in
    let end = ap (λ (r : Range ℕ). r.end) is ∙ e.1 in
    let P = HasAnswer (model_at c.args.store.now) c.args.p.0 c.args.q.0 c.args.k in (
      end,
      omega (arith, start),
      λ i l. none_before S.index p P (λ j x. (x.number_lt, x.source_is)) i (omega (arith, l, start)),
    )

pub answer-requires-clause-k_nonzero : goal.answer-requires-clause-k_nonzero
answer-requires-clause-k_nonzero c =
    let e = c.in-Some.ensures.steps in
    let inv = c.loop-j.invariant in
    let S = c.requires.word_lists.step_lists in
    let pair = c.requires.k_nonzero.1 in
    let own = own_of_index S.index (reachable_state S.stored pair.first_reachable) c.in-Some.j
    (omega (arith, inv.1, e.1.1)) (omega (arith, inv.0, e.1.0, e.1.1)) in
    (c.requires.k_nonzero.0, own.0, reachable_at (sym own.1) pair.first_reachable)

pub returns-in-Some-answer : goal.returns-in-Some-answer
returns-in-Some-answer c =
    let e = c.in-Some.ensures.steps in
    let inv = c.loop-j.invariant in
    let S = c.requires.word_lists.step_lists in
    let own = own_of_index S.index (reachable_state S.stored c.requires.k_nonzero.1.first_reachable) c.in-Some.j
    (omega (arith, inv.1, e.1.1)) (omega (arith, inv.0, e.1.0, e.1.1)) in
    first_letter_of S.stored own c.in-Some-answer.ensures.holds (λ o l. inv.2 o (omega (arith, l, e.1.1)))

pub loop-j-preserved : goal.loop-j-preserved
loop-j-preserved c =
    let e = c.in-Some.ensures.steps in
    let inv = c.loop-j.invariant in (
      e.0 ∙ inv.0,
      omega (arith, inv.1, e.1.2),
      λ i l.
          below_more _ c.in-Some.j (λ k h. inv.2 k (omega (arith, h, e.1.1)))
          (λ x. c.in_default.ensures x.by x.answer) i (omega (arith, l, e.1.1, e.1.2)),
    )

pub unreachable-requires : goal.unreachable-requires
unreachable-requires c =
    let e = c.in-None.ensures.steps in
    let inv = c.loop-j.invariant in
    let S = c.requires.word_lists.step_lists in
    let pair = c.requires.k_nonzero.1 in
    let some = has_answer_some S.stored _ _ _ c.requires.k_nonzero.0 pair in
    none_after S.index (reachable_state S.stored pair.first_reachable) _ (λ j x. (x.number_lt, x.source_is)) inv.0
    (omega (arith, e.1.0)) inv.2 some.0 some.1
