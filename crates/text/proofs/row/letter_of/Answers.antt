-- By cases on the row.
use Rattle.std.proofs.Common.{sym, ap}
use Rattle.text.specs.Lines.{row_letter}
use Rattle.text.proofs.row.letter_of.Goals as goal

pub returns-in-HeadRow : goal.returns-in-HeadRow
unfolding row_letter
returns-in-HeadRow c = sym (ap row_letter c.in-HeadRow.is)

pub returns-in-StartRow : goal.returns-in-StartRow
unfolding row_letter
returns-in-StartRow c = sym (ap row_letter c.in-StartRow.is)

pub returns-in-StepRow : goal.returns-in-StepRow
unfolding row_letter
returns-in-StepRow c = sym (ap row_letter c.in-StepRow.is)
