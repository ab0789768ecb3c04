-- A table of ranks tells which states have a lower rank. Assumes nothing.
use Rattle.std.specs.Prelude.{List, ℕ, ◌<◌, get_or}
use Rattle.std.proofs.Common.{arith}
use Rattle.lts.specs.Alike.{Moves}
use Rattle.lts.proofs.AlikeLaws.{rank_unique}
use Rattle.lts.specs.Book.{LowerRank}
use Rattle.text.specs.Limits.{pair_place}
use Rattle.ranking.specs.Table.{Ranks}
use Rattle.ranking.specs.Inner.LowerRanks.{RankIn}

module _ {Move : Moves} {n : ℕ} {table : List ℕ} (R : Ranks Move n table) {d x y : ℕ} (lx : x < n) (ly : y < n) where
  pub lower_rank_of_rank_in : RankIn table d x y → LowerRank Move d x y
  lower_rank_of_rank_in h = record {
    rank = get_or table (pair_place x y) 0;
    rank_is = R.ranks x y lx ly;
    rank_pos = h.rank_pos;
    rank_lt = h.rank_lt;
  }

  pub rank_in_of_lower_rank : LowerRank Move d x y → RankIn table d x y
  rank_in_of_lower_rank h =
      let e = rank_unique Move x y _ _ (R.ranks x y lx ly) h.rank_is in
      record { rank_pos = omega (arith, e, h.rank_pos); rank_lt = omega (arith, e, h.rank_lt) }
