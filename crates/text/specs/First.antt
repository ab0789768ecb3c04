-- The first number that a claim holds of.
use Rattle.std.specs.Prelude.{ℕ, ◌≤◌}

pub record First (P : ℕ → Type 0) (j : ℕ) : Type 0 where
  pub holds : P j
  pub first : (i : ℕ) → P i → j ≤ i
