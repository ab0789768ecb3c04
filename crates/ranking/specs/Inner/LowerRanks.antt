-- Ranks below a depth, as the table has them. Only the contracts of inner functions cite it.
use Rattle.std.specs.Prelude.{List, ℕ, ◌<◌, get_or}
use Rattle.text.specs.Limits.{pair_place}

-- The table has a rank above 0 and below the depth for p and q.
pub record RankIn (table : List ℕ) (depth p q : ℕ) : Type 0 where
  pub rank_pos : 0 < get_or table (pair_place p q) 0
  pub rank_lt : get_or table (pair_place p q) 0 < depth
