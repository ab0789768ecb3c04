-- No place of the group before place i has the target t.
use Rattle.std.proofs.Common.{◌≡◌, ℕ, ◌≤◌, ◌<◌, get_or}
use Rattle.books.proofs.check.has_move.Given as goal

abbrev pub invariant-loop-i : goal.invariant-loop-i
invariant-loop-i l =
    (k : ℕ) → k < l.i → l.initial.i ≤ k → ¬ (get_or l.indexed.targets.now k 0 ≡ l.t.0)
