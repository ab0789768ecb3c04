-- Whatever moves the states that are left makes up the move of all.
use Rattle.std.proofs.Common.{List, ℕ}
use Rattle.splitters.specs.Inner.Partition.{Moved}
use Rattle.splitters.proofs.dividing.move_states.Given as goal

abbrev pub invariant-loop-p : goal.invariant-loop-p
invariant-loop-p l =
    (t : List ℕ) → Moved l.p-iterator.left l.c.0 l.class t → Moved l.fn.s l.c.0 l.initial.class t
