-- `step_at` has a step's numbers from its row, and then tests the order.
use Rattle.std.proofs.Common.{◌≡◌, inr, refl, ◌∙◌, ap, not, arith, rules}
use Rattle.std.proofs.lemmas.Result.{err_from_is_err_and}
use Rattle.text.specs.Lines.{checked, row_count}
use Rattle.text.specs.Inner.LineAnswers.{after?}
use Rattle.text.specs.Inner.Row.{RowAt}
use Rattle.text.specs.Inner.Scan.{StepAtRead}
use Rattle.text.specs.Laws.ColumnsLaws.{step_numbers-columns}
use Rattle.text.specs.Laws.LinesLaws.{step_of_bad, step_of_order}
use Rattle.text.specs.Laws.ScanLaws.{line_at_map, refused_map}
use Rattle.text.proofs.scan.step_at.Goals as goal

pub row_at-requires : goal.row_at-requires
unfolding row_count
row_at-requires c = search rules

pub returns-in_err-end : goal.returns-in_err-end
unfolding StepAtRead RowAt
returns-in_err-end c before last =
    let p = err_from_is_err_and c.from_residual.result c.from_residual.ensures.1 in
    rw (p.1, p.2) (refused_map (step_of_bad _ before) c.in_err-end.ensures)

pub returns-then-is_some_and : goal.returns-then-is_some_and
unfolding StepAtRead checked RowAt after?
returns-then-is_some_and c before last =
    let after : after? c.args.last _ ≡ not c.is_some_and.result = search rules in
    let order = last.above _ ∙ after ∙ ap not c.if-is_some_and.true in (
      _,
      inr (line_at_map (step_of_order c.args.head before (step_numbers-columns c.args.head _) order)
          c.in_ok-end.ensures),
    )

pub overflow_add-result : goal.overflow_add-result
unfolding RowAt
overflow_add-result c = let l = c.in_ok-end.ensures in omega (arith, l.inside)

pub returns : goal.returns
unfolding StepAtRead checked RowAt after?
returns c before last =
    let after : after? c.args.last _ ≡ not c.is_some_and.result = search rules in
    let order = last.above _ ∙ after ∙ ap not c.if-is_some_and.false in (
      _,
      refl,
      line_at_map (step_of_order c.args.head before (step_numbers-columns c.args.head _) order)
          c.in_ok-end.ensures,
    )
