-- By the kind of the byte.
use Rattle.std.proofs.Common.{arith}
use Rattle.text.specs.Lines.{name_byte?}
use Rattle.std.proofs.lemmas.Bool.Decides.{nat_tests}
use Rattle.text.proofs.line.is_name_byte.Goals as goal

pub returns-in-1 : goal.returns-in-1
unfolding name_byte?
returns-in-1 c = grind (arith, nat_tests, c.kind.ensures)

pub returns-in_default : goal.returns-in_default
unfolding name_byte?
returns-in_default c = grind (arith, nat_tests, c.kind.ensures)

pub returns-in_default-2 : goal.returns-in_default-2
unfolding name_byte?
returns-in_default-2 c = grind (arith, nat_tests, c.kind.ensures)
