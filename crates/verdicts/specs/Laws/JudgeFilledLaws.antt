-- The lists that Judge leaves are the only ones.
-- Document 01, operation 4. Assumes nothing.
use Rattle.std.specs.Prelude.{List, ◌≡◌, ℕ}
use Rattle.text.specs.Model.{Model}
use Rattle.model.specs.Inner.Stored.{Stored}
use Rattle.ranking.specs.Laws.RankedLaws.{ranks_unique}
use Rattle.distances.specs.Laws.DistancesLaws.{distances_unique}
use Rattle.verdicts.specs.JudgeFilled.{JudgeFilled}
use Rattle.model.specs.System.{view}
use Rattle.lts.specs.Weak.{WeakMove}

pub filled_unique : {s : List ℕ} {m : Model} → Stored s m → (distances table u v x y : List ℕ)
    → JudgeFilled m distances table u v → JudgeFilled m distances table x y → (u ≡ x) × (v ≡ y)
filled_unique {m = m} st distances table u v x y f g = (
  distances_unique st f.distances_filled g.distances_filled,
  ranks_unique (WeakMove (view m)) m.head.states table v y f.ranks f.table_past g.ranks g.table_past,
)
