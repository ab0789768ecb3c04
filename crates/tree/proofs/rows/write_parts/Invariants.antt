-- The parts below e are written.
use Prim.Native.Nat.{◌+◌, ◌-◌, ◌≤◌, ◌<◌}
use Rattle.tree.specs.Inner.Rows.{PartsWritten}
use Rattle.tree.proofs.rows.write_parts.Given as goal

abbrev pub invariant-loop-e : goal.invariant-loop-e
invariant-loop-e l =
    (0 < l.e) × (l.e ≤ l.classes + (1 - l.classes)) × PartsWritten l.e l.origin l.under l.when l.initial.rows l.rows

abbrev pub decreases-loop-e : goal.decreases-loop-e
decreases-loop-e l = l.classes - l.e
