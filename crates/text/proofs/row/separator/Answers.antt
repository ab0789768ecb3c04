-- By whether the column is the last.
use Rattle.std.proofs.Common.{sym}
use Rattle.text.specs.Laws.RowLaws.{separator_kind_last, separator_kind_other}
use Rattle.text.proofs.row.separator.Goals as goal

pub returns-then-column-eq-COLUMNS : goal.returns-then-column-eq-COLUMNS
returns-then-column-eq-COLUMNS c = sym (separator_kind_last _ _ c.if-column-eq-COLUMNS.true)

pub returns-else-column-eq-COLUMNS : goal.returns-else-column-eq-COLUMNS
returns-else-column-eq-COLUMNS c = sym (separator_kind_other _ _ c.if-column-eq-COLUMNS.false)
