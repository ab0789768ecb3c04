-- One letter. Assumes nothing.
use Rattle.std.proofs.Common.{arith}
use Rattle.lines.specs.PageLines.{line_text}
use Rattle.lines.proofs.lines.PagePosition.last_text.Goals as goal

pub byte-at-requires : goal.byte-at-requires
unfolding line_text
byte-at-requires c = omega (arith, c.requires)

pub returns : goal.returns
unfolding line_text
returns c = c.byte-at.ensures
