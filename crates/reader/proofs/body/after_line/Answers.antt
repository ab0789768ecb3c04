-- By where the search ends: past the text, at its end, or at a line end.
use Rattle.std.proofs.Common.{arith}
use Rattle.text.specs.Bytes.{line_end}
use Rattle.text.specs.Laws.SplitLaws.{found_le}
use Rattle.reader.specs.Laws.TextReadLaws.{after_line_past, after_line_absent, after_line_line}
use Rattle.reader.proofs.body.after_line.Goals as goal

pub returns-then-text-at : goal.returns-then-text-at
returns-then-text-at c = after_line_past _ _ c.if-text-at.true

pub returns-then-e-text : goal.returns-then-e-text
returns-then-e-text c =
    after_line_absent _ _ _ c.if-text-at.false c.find-e.ensures (omega arith)

pub overflow_add-result : goal.overflow_add-result
overflow_add-result c =
    omega (arith, found_le line_end _ _ _ c.if-text-at.false c.find-e.ensures)

pub returns : goal.returns
returns c =
    let n = found_le line_end _ _ _ c.if-text-at.false c.find-e.ensures in
    after_line_line _ _ _ c.if-text-at.false c.find-e.ensures (omega arith)
