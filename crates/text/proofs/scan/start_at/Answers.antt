-- `start_at` has the start from its row, and then tests that it is above the one before it.
use Rattle.std.proofs.Common.{inr, refl, arith, lt-ltb, le-ltb, rules}
use Rattle.std.proofs.lemmas.Bool.Decides.{nat_tests}
use Rattle.std.proofs.lemmas.Result.{err_from_is_err_and}
use Rattle.text.specs.Lines.{checked, row_count}
use Rattle.text.specs.Inner.Row.{RowAt}
use Rattle.text.specs.Inner.Scan.{StartAtRead}
use Rattle.text.specs.Laws.ColumnsLaws.{start_number_column}
use Rattle.text.specs.Laws.LinesLaws.{start_of_bad, start_of_order}
use Rattle.text.specs.Laws.ScanLaws.{line_at_map, refused_map}
use Rattle.text.proofs.scan.start_at.Goals as goal

pub row_at-requires : goal.row_at-requires
unfolding row_count
row_at-requires c = search rules

pub returns-in_err-end : goal.returns-in_err-end
unfolding StartAtRead RowAt
returns-in_err-end c before last =
    let p = err_from_is_err_and c.from_residual.result c.from_residual.ensures.1 in
    rw (p.1, p.2) (refused_map (start_of_bad _ before) c.in_err-end.ensures)

pub overflow_add-result : goal.overflow_add-result
unfolding RowAt
overflow_add-result c = let l = c.in_ok-end.ensures in omega (arith, l.inside)

pub returns-then-le : goal.returns-then-le
unfolding StartAtRead checked RowAt
returns-then-le c before last = (
  _,
  inr (line_at_map (start_of_order _ before last (start_number_column _ _)
      (le-ltb _ _ (grind (arith, nat_tests, c.if-le.ensures)))) c.in_ok-end.ensures),
)

pub returns : goal.returns
unfolding StartAtRead checked RowAt
returns c before last = (
  _,
  refl,
  line_at_map (start_of_order _ before last (start_number_column _ _)
      (lt-ltb _ _ (grind (arith, nat_tests, c.if-le.ensures)))) c.in_ok-end.ensures,
)
