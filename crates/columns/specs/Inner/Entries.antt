-- The distance of a state, as its list has it. Only the contracts of inner functions cite it.
use Rattle.std.specs.Prelude.{cond, List, ℕ, eqb, get_or}
use Rattle.std.proofs.Math.Option.{Option, none, some}
use Rattle.text.specs.Limits.{unreachable}

-- The entry of p in the distances.
unfoldable pub distance_of : List ℕ → ℕ → Option ℕ
distance_of distances p = cond (eqb (get_or distances p 0) unreachable) none (some (get_or distances p 0))
