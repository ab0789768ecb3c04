-- Where the steps of each state begin: steps rise by source. Only the contracts of inner functions cite it.
use Rattle.std.specs.Prelude.{List, ℕ, ◌≤◌, ◌<◌, length, get_or}
use Rattle.text.specs.Model.{Model}
use Rattle.model.specs.System.{source}

-- The steps of the states from p on begin at step `from`.
pub record Begins (m : Model) (p from : ℕ) : Type 0 where
  pub from_le : from ≤ length m.steps
  pub below : (j : ℕ) → j < from → source m j < p
  pub above : (j : ℕ) → from ≤ j → j < length m.steps → p ≤ source m j

-- Entry p of the list, up to n, is where they begin.
pub record Index (m : Model) (n : ℕ) (begins : List ℕ) : Type 0 where
  pub at : (p : ℕ) → p ≤ n → Begins m p (get_or begins p 0)
