-- Two blanks and the dash. Assumes nothing.
use Rattle.writer.specs.Laws.WroteLaws.{wrote-append}
use Rattle.columns.specs.Rows.{flush_right}
use Rattle.columns.proofs.line.RollLine.dash.Goals as goal

pub returns : goal.returns
unfolding flush_right
returns c =
    (wrote-append c.blanks-row.ensures.0 c.byte.ensures, c.blanks-row.ensures.1)
