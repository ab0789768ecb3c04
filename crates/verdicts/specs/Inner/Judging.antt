-- What judging a good store leaves. Only the contracts of inner functions cite it.
-- Document 01, operation 4.
use Rattle.std.specs.Prelude.{List, ℕ, ◌≤◌, length}
use Rattle.text.specs.Limits.{action_limit}
use Rattle.text.specs.Model.{Model}
use Rattle.verdicts.specs.declared.judging.Verdict.{Verdict}
use Rattle.text.specs.Limits.{distances_length, table_length}
use Rattle.text.specs.Limits.{index_length}
use Rattle.model.specs.Inner.Stored.{Stored}
use Rattle.model.specs.Inner.Index.{Index}
use Rattle.model.specs.Inner.Roles.{Roles}
use Rattle.verdicts.specs.Verdicts.{Judged}
use Rattle.verdicts.specs.JudgeFilled.{JudgeFilled}
use Rattle.model.specs.System.{view}

-- A good store, and lists long enough for its index, its roles, its distances and its table.
pub record Judgeable (m : Model) (store begins roles distances table : List ℕ) : Type 0 where
  pub stored : Stored store m
  pub index_length_is : index_length ≤ length begins
  pub roles_length : action_limit ≤ length roles
  pub distances_length_is : distances_length ≤ length distances
  pub table_length_is : table_length ≤ length table

-- The verdict v, and the four lists filled.
pub record Judging (m : Model) (v : Verdict) (distances table begins' roles' distances' table' : List ℕ) : Type 0 where
  pub verdict : Judged m v
  pub index : Index m m.head.states begins'
  pub roles : Roles (view m).levels m.head.actions roles'
  pub filled : JudgeFilled m distances table distances' table'
