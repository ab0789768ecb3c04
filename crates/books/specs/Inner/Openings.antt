-- The search for an opening. Only the contracts of inner functions cite it.
use Rattle.std.specs.Prelude.{List, ℕ, ◌≤◌, ◌<◌, get_or}
use Rattle.lts.specs.Alike.{Moves}
use Rattle.ranking.specs.Inner.LowerRanks.{RankIn}

-- Each answer of q with the action a leads, beside t, to a rank above 0 and below the depth.
abbrev pub LowerAnswers : Moves → List ℕ → ℕ → ℕ → ℕ → ℕ → Type 0
LowerAnswers Move table depth q a t = (u : ℕ) → Move q a u → RankIn table depth t u

-- The first of the moves from place `from` up to place `to` whose answers by q all lead to such a rank stands at place
-- `at`; where there is none, `at` is the end.
pub record FirstOpening (Move : Moves) (actions targets table : List ℕ) (depth q from to at : ℕ) : Type 0 where
  pub from_le : from ≤ at
  pub to_le : at ≤ to
  pub none_before : (i : ℕ) → from ≤ i → i < at
      → ¬ (LowerAnswers Move table depth q (get_or actions i 0) (get_or targets i 0))
  pub opens : at < to → LowerAnswers Move table depth q (get_or actions at 0) (get_or targets at 0)
