-- `head_bounds` gives element i of `head_bounds`, by the four values of i.
use Rattle.std.proofs.Common.{◌≡◌, arith}
use Rattle.text.specs.Lines.{head_bounds}
use Rattle.text.proofs.row.head_bounds.Goals as goal

pub returns-in-0 : goal.returns-in-0
unfolding head_bounds
returns-in-0 c = rw c.in-0.is

pub returns-in-1 : goal.returns-in-1
unfolding head_bounds
returns-in-1 c = rw c.in-1.is

pub returns-in-2 : goal.returns-in-2
unfolding head_bounds
returns-in-2 c = rw c.in-2.is c.below.ensures

pub returns-in_default : goal.returns-in_default
unfolding head_bounds
returns-in_default c = let e : c.args.i ≡ 3 = omega arith in rw e c.below-in_default.ensures
