-- No state before p has many moves.
use Prim.Native.Nat.{ℕ, ◌≤◌, ◌<◌, ◌-◌}
use Rattle.text.specs.Limits.{state_limit}
use Rattle.held.specs.Held.{target_row, HeldAt}
use Rattle.weak_books.specs.Inner.ManyMoves.{Many}
use Rattle.weak_books.proofs.depths.has_many_moves_with.Given as goal

abbrev pub invariant-loop-p : goal.invariant-loop-p
invariant-loop-p l =
    (l.p ≤ state_limit) × ((x : ℕ) → x < l.p → ¬ (Many (HeldAt l.moves.slots.now l.moves.pool.now (target_row l.a) x)))

abbrev pub decreases-loop-p : goal.decreases-loop-p
decreases-loop-p l = state_limit - l.p
