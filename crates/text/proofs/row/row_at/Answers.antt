-- `row_at` tells the fault that was found, or one that comes before it.
use Rattle.std.proofs.Common.{inr}
use Rattle.text.specs.Inner.Row.{RowScanned, RowAt}
use Rattle.text.specs.Laws.RowToLaws.{row_good, row_range}
use Rattle.text.specs.Laws.ColumnsLaws.{columns_all}
use Rattle.text.proofs.row.row_at.Goals as goal

pub row_fault-requires : goal.row_fault-requires
unfolding RowScanned
row_fault-requires c = (c.requires.0, c.in_default.ensures)

pub returns-in_default : goal.returns-in_default
unfolding RowAt
returns-in_default c = c.row_fault.ensures

pub returns-then-scan : goal.returns-then-scan
unfolding RowAt RowScanned
returns-then-scan c = (_, inr (row_range _ _ _ _ _ _ _ c.in-Some.ensures (columns_all _) c.if-scan.true))

pub returns : goal.returns
unfolding RowAt RowScanned
returns c = row_good _ _ _ _ _ _ _ c.in-Some.ensures (columns_all _) c.if-scan.false
