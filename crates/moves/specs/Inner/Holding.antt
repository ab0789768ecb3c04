-- The low steps of a model on their way into held sets. Only the contracts of inner functions cite it.
use Rattle.std.specs.Prelude.{List, ◌≡◌, ℕ, ◌≤◌, ◌<◌, T, get_or}
use Rattle.text.specs.Limits.{state_limit, action_limit}
use Rattle.text.specs.Model.{Model}
use Rattle.model.specs.System.{source, view}
use Rattle.held.specs.Held.{LabelIn, target_row, source_row, HeldAt}
use Rattle.moves.specs.Inner.Listing.{Among, LowAs}

-- The first `count` places of the list have just the low actions below `to`, rising.
pub record LowLabels (m : Model) (to : ℕ) (labels : List ℕ) (count : ℕ) : Type 0 where
  pub count_le : count ≤ to
  pub label_lt : (i : ℕ) → i < count → get_or labels i 0 < to
  pub is_low : (i : ℕ) → i < count → T ((view m).levels.low? (get_or labels i 0))
  pub rising : (i j : ℕ) → i < j → j < count → get_or labels i 0 < get_or labels j 0
  pub listed : (a : ℕ) → a < to → T ((view m).levels.low? a) → LabelIn labels count a

-- Step j is low, has the action a, and leads from p to q.
pub record LowAt (m : Model) (a j p q : ℕ) : Type 0 where
  pub low_as : LowAs m j a q
  pub source_is : source m j ≡ p

-- One of the first `to` steps is such.
abbrev pub LowBefore : Model → ℕ → ℕ → ℕ → ℕ → Type 0
LowBefore m to a = Among (LowAt m a) 0 to

-- The sets have just the low ones of the first `to` steps, from their sources and from their targets.
pub record LowHeld (m : Model) (to : ℕ) (slots pool : List ℕ) : Type 0 where
  pub target : (a p q : ℕ) → LowBefore m to a p q → HeldAt slots pool (target_row a) p q
  pub target_only : (a p q : ℕ) → a < action_limit → p < state_limit → HeldAt slots pool (target_row a) p q
      → LowBefore m to a p q
  pub source : (a p q : ℕ) → LowBefore m to a p q → HeldAt slots pool (source_row a) q p
  pub source_only : (a p q : ℕ) → a < action_limit → q < state_limit → HeldAt slots pool (source_row a) q p
      → LowBefore m to a p q
