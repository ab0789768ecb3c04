-- `within` makes the two comparisons of `in_bounds?`.
use Rattle.std.proofs.Common.{le-leb}
use Rattle.std.proofs.lemmas.Bool.{lt-leb}
use Rattle.text.specs.Numbers.{in_bounds?}
use Rattle.text.proofs.number.within.Goals as goal

pub returns-then-from-n : goal.returns-then-from-n
unfolding in_bounds?
returns-then-from-n c = rw (c.from-then-from-n.ensures, ← c.from.ensures, le-leb _ _ c.if-from-n.true)

pub returns-else-from-n : goal.returns-else-from-n
unfolding in_bounds?
returns-else-from-n c = rw (← c.from.ensures, lt-leb _ _ c.if-from-n.false)
