-- The rows of labels come in the order of the actions, and that of the silent label behind them. Assumes nothing.
use Rattle.std.proofs.Common.{⊎_elim, ap, arith, lt-ltb, le-ltb}
use Rattle.std.specs.Prelude.{◌≡◌, ℕ, ◌*◌, ◌≤◌, ◌<◌}
use Rattle.lts.proofs.TestsLaws.{lt_or_le}
use Rattle.text.specs.Limits.{action_limit}
use Rattle.held.specs.Held.{chosen, target_row}

pub target_row-action : (a : ℕ) → a < action_limit → target_row a ≡ 2 * a
target_row-action a l = ap (λ t. 2 * chosen t a action_limit) (lt-ltb a action_limit l)

pub target_row-silent : (a : ℕ) → action_limit ≤ a → target_row a ≡ 2 * action_limit
target_row-silent a l = ap (λ t. 2 * chosen t a action_limit) (le-ltb a action_limit l)

-- A later row than all of the labels below `to`.
pub target_row_after : (to a : ℕ) → to ≤ a → to ≤ action_limit → 2 * to ≤ target_row a
target_row_after to a l m = ⊎_elim (λ k. omega (arith, l, target_row-action a k))
    (λ k. omega (arith, m, target_row-silent a k)) (lt_or_le a action_limit)
