-- The targets of p that are no targets of q are tried from the lowest up.
use Rattle.std.proofs.Common.{refl}
use Rattle.sets.specs.Inner.SetValues.{In, SetOf}
use Rattle.weak_books.specs.Laws.FirstsLaws.{least_of_none}
use Rattle.weak_books.specs.Laws.HeldEntryLaws.{within_of_none, none_of_within}
use Rattle.weak_books.specs.Laws.OpensToLaws.{tried-start, tried_without, lowest_to_of_tried, lowest_to_end}
use Rattle.weak_books.proofs.firsts.lowest_opening.Goals as goal
use Rattle.weak_books.proofs.firsts.lowest_opening.Goals.{After-into_iter-t-iterator}

-- The targets that are walked are those of p without those of q.
walked : (c : After-into_iter-t-iterator)
    → SetOf (λ x. In c.set_at.result x × ¬ (In c.set_at-answers.result x)) c.into_iter-t-iterator.result.left
walked c = rw c.into_iter-t-iterator.ensures c.without-t-items.ensures

pub loop-t-init : goal.loop-t-init
loop-t-init c = tried-start

pub returns-then-is_empty : goal.returns-then-is_empty
returns-then-is_empty c =
    let next = c.in-Some.ensures.steps in (
      next.taken.member_lt,
      lowest_to_of_tried c.set_at.ensures c.set_at-answers.ensures
          (walked (goal.at.returns-then-is_empty c).After-into_iter-t-iterator) c.loop-t.invariant next.least
          c.requires.irreflexive
          (λ _ u i. within_of_none c.set_at-answers.ensures c.set_at-in-loop-t.ensures c.without.ensures
          c.if-is_empty.ensures
          u (c.set_at-answers.ensures.only u i)),
    )

pub loop-t-preserved : goal.loop-t-preserved
loop-t-preserved c =
    tried_without c.loop-t.invariant
    (λ h.
    c.if-is_empty.ensures (none_of_within c.set_at-answers.ensures c.set_at-in-loop-t.ensures c.without.ensures
    (λ u m. h u (c.set_at-answers.ensures.all u m))))
    c.in-Some.ensures.steps.left

pub returns : goal.returns
returns c =
    lowest_to_end c.set_at.ensures c.set_at-answers.ensures
    (walked (goal.at.returns c).After-into_iter-t-iterator) c.loop-t.invariant
    (least_of_none c.in-None.ensures.steps.none) c.requires.irreflexive refl
