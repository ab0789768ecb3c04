-- The actions below a that have steps are held and listed.
use Prim.Native.Nat.{◌*◌, ◌-◌, ◌≤◌}
use Rattle.text.specs.Limits.{action_limit}
use Rattle.silent.specs.Steps.{label_moves}
use Rattle.held.specs.Held.{slot_place}
use Rattle.held.specs.Inner.Slots.{Pooled, FreeFrom, HeldTo}
use Rattle.held.proofs.labels.hold_actions.Given as goal

abbrev pub invariant-loop-a : goal.invariant-loop-a
invariant-loop-a l =
    (l.a ≤ action_limit) × HeldTo (label_moves l.steps) l.a l.labels l.count l.slots l.pool ×
    Pooled l.used l.slots l.pool
    × FreeFrom (slot_place (2 * l.a) 0) l.slots

abbrev pub decreases-loop-a : goal.decreases-loop-a
decreases-loop-a l =
    action_limit - l.a
