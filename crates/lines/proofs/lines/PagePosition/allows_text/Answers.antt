-- Each arm writes its text whole. Assumes nothing.
use Rattle.std.proofs.Common.{arith}
use Rattle.lines.specs.PageLines.{end_text, line_text}
use Rattle.lines.proofs.lines.PagePosition.allows_text.Goals as goal

pub text-at-requires : goal.text-at-requires
unfolding line_text end_text
text-at-requires c =
    omega (arith, rw c.in-Source.is at c.requires)

pub text-at-requires-in-Target : goal.text-at-requires-in-Target
unfolding line_text end_text
text-at-requires-in-Target c =
    omega (arith, rw c.in-Target.is at c.requires)

pub returns-in-Source : goal.returns-in-Source
unfolding line_text end_text
returns-in-Source c =
    rw c.in-Source.is c.text-at.ensures

pub returns-in-Target : goal.returns-in-Target
unfolding line_text end_text
returns-in-Target c =
    rw c.in-Target.is c.text-at-in-Target.ensures
