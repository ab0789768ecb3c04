-- Each field goes on from where the last one ended; the text's length is what its fields ask for. Assumes nothing.
use Rattle.std.proofs.Common.{arith}
use Rattle.writer.specs.Laws.WroteLaws.{wrote-append}
use Rattle.lines.specs.PageLines.{line_text}
use Rattle.lines.specs.Laws.PageLinesLaws.{run_length_is}
use Rattle.lines.proofs.lines.PagePosition.run_text.Goals as goal

pub byte-requires : goal.byte-requires
byte-requires c =
    omega (arith, c.requires, run_length_is c.args.j.0)

pub field-at-requires : goal.field-at-requires
field-at-requires c =
    omega (arith, c.requires, run_length_is c.args.j.0)

pub returns : goal.returns
unfolding line_text
returns c =
    wrote-append c.byte.ensures c.field-at.ensures
