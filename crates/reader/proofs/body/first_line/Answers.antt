-- Past the text there is no line; else what is read of the line is what it states.
use Rattle.text.specs.Inner.LineAnswers.{head_read}
use Rattle.reader.specs.Laws.TextReadLaws.{first_line_past, first_line-head}
use Rattle.reader.proofs.body.first_line.Goals as goal

pub returns-then-text-at : goal.returns-then-text-at
unfolding head_read
returns-then-text-at c = first_line_past _ _ c.if-text-at.true

pub returns : goal.returns
returns c = first_line-head _ _ c.if-text-at.false c.head_at.result c.head_at.ensures
