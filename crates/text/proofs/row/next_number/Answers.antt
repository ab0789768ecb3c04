-- `next_number` passes a free column, or reads a number by its bounds and what is due after it.
use Rattle.std.proofs.Common.{◌≡◌, ◌≤◌, arith}
use Rattle.text.specs.declared.number.NumberFault.TheVariants.{BadDigits, Outside}
use Rattle.text.specs.Inner.Row.{RowScanned}
use Rattle.text.specs.Inner.Columns.{first_column}
use Rattle.text.specs.Laws.RowLaws.{separator_kind_separator}
use Rattle.text.specs.Laws.ColumnsLaws.{column_free, column_bad, column_outside, column_value}
use Rattle.text.proofs.row.next_number.Goals as goal
use Rattle.text.proofs.row.next_number.Goals.{Else-column-count_of}

-- the column is one of the row's
filled : (c : Else-column-count_of) → first_column c.args.row ≤ c.args.column
filled c = omega (arith, c.count_of.ensures)

pub returns-then-column-count_of : goal.returns-then-column-count_of
returns-then-column-count_of c =
    column_free _ _ _ _ _ _ _ c.requires.0 (omega (arith, c.count_of.ensures))

pub number_at-number-requires : goal.number_at-number-requires
number_at-number-requires c =
    (omega (arith, c.requires.0.row_to.inside), rw c.separator.ensures (separator_kind_separator _ _))

pub returns-in-Ok : goal.returns-in-Ok
returns-in-Ok c =
    column_value _ _ _ _ _ _ _ c.requires.0 (filled (goal.at.returns-in-Ok c).Else-column-count_of) c.requires.1 _
    c.bounds_of-bounds.ensures c.separator.ensures c.number_at-number.ensures _ c.in-Ok.is

pub returns-in-Err-Outside : goal.returns-in-Err-Outside
returns-in-Err-Outside c =
    let i = c.in-Err-Outside in
    let f : i.field-0 ≡ Outside = rw i.is at i.field-0-is in
    column_outside _ _ _ _ _ _ _ c.requires.0 (filled (goal.at.returns-in-Err-Outside c).Else-column-count_of)
    c.requires.1 _ c.bounds_of-bounds.ensures c.separator.ensures c.number_at-number.ensures
    (rw f at i.is)

pub returns-in-Err-BadDigits : goal.returns-in-Err-BadDigits
unfolding RowScanned
returns-in-Err-BadDigits c =
    let i = c.in-Err-BadDigits in
    let f : i.field-0 ≡ BadDigits = rw i.is at i.field-0-is in
    column_bad _ _ _ _ _ _ _ c.requires.0 (filled (goal.at.returns-in-Err-BadDigits c).Else-column-count_of)
    c.requires.1 _ c.bounds_of-bounds.ensures c.separator.ensures c.number_at-number.ensures
    (rw f at i.is)
