-- By cases on the row.
use Rattle.std.proofs.Common.{sym, ap}
use Rattle.text.specs.Lines.{row_count}
use Rattle.text.proofs.row.count_of.Goals as goal

pub returns-in-HeadRow : goal.returns-in-HeadRow
unfolding row_count
returns-in-HeadRow c = sym (ap row_count c.in-HeadRow.is)

pub returns-in-StartRow : goal.returns-in-StartRow
unfolding row_count
returns-in-StartRow c = sym (ap row_count c.in-StartRow.is)

pub returns-in-StepRow : goal.returns-in-StepRow
unfolding row_count
returns-in-StepRow c = sym (ap row_count c.in-StepRow.is)
