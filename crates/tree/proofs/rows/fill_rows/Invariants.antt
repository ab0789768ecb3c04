-- The rows below c are filled. The row of an origin comes before, and stands.
use Prim.Native.Nat.{◌+◌, ◌-◌, ◌≤◌, ◌<◌}
use Rattle.tree.specs.Inner.Rows.{RowsFilled}
use Rattle.tree.proofs.rows.fill_rows.Given as goal

abbrev pub invariant-loop-c : goal.invariant-loop-c
invariant-loop-c l =
    (0 < l.c) × (l.c ≤ l.classes + (1 - l.classes)) × RowsFilled l.c l.members l.origin l.when l.initial.rows l.rows

abbrev pub decreases-loop-c : goal.decreases-loop-c
decreases-loop-c l = l.classes - l.c
