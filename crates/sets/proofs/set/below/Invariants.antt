-- The numbers below x are in the set.
use Prim.Native.Nat.{◌-◌, ◌≤◌, ◌<◌}
use Rattle.sets.specs.Inner.SetValues.{SetOf}
use Rattle.sets.proofs.set.below.Given as goal

abbrev pub invariant-loop-x : goal.invariant-loop-x
invariant-loop-x l = (l.x ≤ l.n) × SetOf (λ y. y < l.x) l.set

abbrev pub decreases-loop-x : goal.decreases-loop-x
decreases-loop-x l = l.n - l.x
