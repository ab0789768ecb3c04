-- A property of each number of a range.
use Rattle.std.specs.Prelude.{ℕ, ◌≤◌, ◌<◌}

-- P holds of each number from `from` on that is below `to`
pub record EachFrom (P : ℕ → Type 0) (from to : ℕ) : Type 0 where
  pub at : (k : ℕ) → from ≤ k → k < to → P k
