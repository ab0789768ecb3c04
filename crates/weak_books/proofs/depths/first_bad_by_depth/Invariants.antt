-- The sets have the entries below depth d, and these are tested.
use Rattle.held.specs.Moves.{held_moves}
use Prim.Native.Nat.{◌≤◌, ◌-◌}
use Rattle.text.specs.Limits.{table_length}
use Rattle.books.specs.Inner.Sides.{LowerNumber, FirstOf}
use Rattle.weak_books.specs.Inner.Bounds.{byte_values}
use Rattle.weak_books.specs.Inner.Depths.{LowerBy}
use Rattle.weak_books.proofs.depths.first_bad_by_depth.Given as goal

abbrev pub invariant-loop-d : goal.invariant-loop-d
invariant-loop-d l =
    (l.d ≤ byte_values) × LowerBy l.book l.d l.there l.back
    × FirstOf (held_moves l.moves) (LowerNumber l.book l.d) l.book table_length l.bad

abbrev pub decreases-loop-d : goal.decreases-loop-d
decreases-loop-d l =
    byte_values - l.d
