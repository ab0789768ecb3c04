-- The lists as Judge leaves them.
-- Document 01, operation 4: "Fills both as 2 and 3 do."
use Rattle.std.specs.Prelude.{List, ℕ}
use Rattle.text.specs.Limits.{table_length}
use Rattle.text.specs.Lists.{Past}
use Rattle.text.specs.Model.{Model}
use Rattle.ranking.specs.Table.{Ranks}
use Rattle.distances.specs.Distances.{Distances}
use Rattle.model.specs.System.{view}
use Rattle.lts.specs.Weak.{WeakMove}

-- The lists as Judge leaves them: "Fills both as 2 and 3 do."
pub record JudgeFilled (m : Model) (distances table distances' table' : List ℕ) : Type 0 where
  pub distances_filled : Distances m distances distances'
  pub ranks : Ranks (WeakMove (view m)) m.head.states table'
  pub table_past : Past table_length table table'
