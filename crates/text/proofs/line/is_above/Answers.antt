-- `<` compares sources, then actions, then targets, as `above?` does.
use Rattle.std.proofs.Common.{arith}
use Rattle.text.specs.Model.{above?}
use Rattle.std.proofs.lemmas.Bool.Decides.{nat_tests}
use Rattle.text.proofs.line.is_above.Goals as goal

pub returns : goal.returns
unfolding above?
returns c = grind (arith, nat_tests, c.lt.ensures)
