-- What the rounds of `weak_rounds` keep.
use Rattle.std.proofs.Common.{List, ◌≡◌, ℕ, ◌<◌, length}
use Rattle.lts.specs.Alike.{Moves}
use Rattle.lts.specs.Game.{Separates}
use Rattle.ranking.specs.Inner.ClassList.{Classes}
use Rattle.ranking.specs.Inner.TableWrites.{entry_of, Outside, RanksUpTo}
use Rattle.weak_ranks.specs.Inner.Dividing.{LeadClasses}

pub record Rounds (Move : Moves) (n k : ℕ) (entry table class : List ℕ) : Type 0 where
  pub leads : LeadClasses n class
  pub are_classes : Classes Move n k class
  pub ranks : RanksUpTo Move n k (entry_of table)
  pub separates : (j : ℕ) → j < k → Separates Move n j
  pub outside : Outside n entry table
  pub table_length_is : length table ≡ length entry
