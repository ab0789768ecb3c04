-- What the writers of a state's columns ask of its distance. Only the contracts of inner functions cite it.
-- Document 02, (ii): "5 to 7 the distance or `-`".
use Rattle.std.specs.Prelude.{List, ◌≡◌, ℕ, ◌≤◌, ◌<◌, length, get_or}
use Rattle.text.specs.Limits.{state_limit, distances_length, unreachable}

-- The list has an entry of p; a distance is less than the number of states.
pub record DistanceFits (distances : List ℕ) (p : ℕ) : Type 0 where
  pub state_lt : p < distances_length
  pub length_le : distances_length ≤ length distances
  pub distance_lt : ¬ (get_or distances p 0 ≡ unreachable) → get_or distances p 0 < state_limit
