-- What is found of a book, and its line. Only the contracts of inner functions cite it.
use Rattle.std.specs.Prelude.{List, ◌≡◌, ℕ, ◌<◌, take}
use Rattle.io.specs.Counts.{IsPrefixLen}
use Rattle.text.specs.Faults.{Outcome, refuses}
use Rattle.till_check.specs.PrintsCheck.{outcome_bytes}

-- The place of a refusal has 16 bits.
pub record PlaceFits (outcome : Outcome) : Type 0 where
  pub place_lt : (number place : ℕ) → outcome ≡ refuses number place → place < 65536

-- The first n bytes tell the outcome.
pub record FoundTold (outcome : Outcome) (n : ℕ) (out : List ℕ) : Type 0 where
  pub counts : IsPrefixLen n out
  pub bytes_are : take n out ≡ outcome_bytes outcome
