-- The states below p have their sets, each at most one of the pool.
use Prim.Native.Nat.{◌+◌, ◌-◌, ◌≤◌}
use Rattle.text.specs.Limits.{state_limit}
use Rattle.held.specs.Held.{slot_place}
use Rattle.held.specs.Inner.Slots.{Pooled, FreeFrom, RowsKept, RowHeld}
use Rattle.held.proofs.slots.hold_row.Given as goal

abbrev pub invariant-loop-p : goal.invariant-loop-p
invariant-loop-p l =
    (l.p ≤ state_limit) × RowHeld l.sets l.row l.p l.slots l.pool × RowsKept l.row l.initial.slots l.initial.pool
    l.slots l.pool × (l.used ≤ l.next)
    × (l.next ≤ l.used + l.p) × Pooled l.next l.slots l.pool × FreeFrom (slot_place l.row l.p) l.slots

abbrev pub decreases-loop-p : goal.decreases-loop-p
decreases-loop-p l = state_limit - l.p
