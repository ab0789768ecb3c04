-- No label before the i-th is one with which a state has many moves.
use Prim.Native.Nat.{ℕ, ◌≤◌, ◌<◌, ◌-◌}
use lib.ListN.{get_or}
use Rattle.weak_books.specs.Inner.ManyMoves.{ManyMoves}
use Rattle.weak_books.proofs.depths.has_many_moves.Given as goal

abbrev pub invariant-loop-i : goal.invariant-loop-i
invariant-loop-i l =
    (l.i ≤ l.moves.count) × ((j : ℕ) → j < l.i → ¬ (ManyMoves l.moves.slots.now l.moves.pool.now (get_or l.moves.labels.now j 0)))

abbrev pub decreases-loop-i : goal.decreases-loop-i
decreases-loop-i l = l.moves.count - l.i
