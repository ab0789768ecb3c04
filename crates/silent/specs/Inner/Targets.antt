-- The targets of moves as sets. Only the contracts of inner functions cite it.
use Rattle.std.specs.Prelude.{List, ◌≡◌, ℕ, ◌<◌, get_or}
use Rattle.lts.specs.Alike.{Moves}
use Rattle.text.specs.Limits.{state_limit}
use Rattle.sets.specs.Inner.Sets.{Member}

-- Each of n states has a class of its own.
pub record OwnNumbers (n : ℕ) (class : List ℕ) : Type 0 where
  pub own : (p : ℕ) → p < n → get_or class p 0 ≡ p

-- Set p has the states that its moves with the label a lead to.
pub record Targets (Move : Moves) (a : ℕ) (sets : List ℕ) : Type 0 where
  pub reached : (p q : ℕ) → Move p a q → Member sets p q
  pub only : (p q : ℕ) → p < state_limit → Member sets p q → Move p a q
