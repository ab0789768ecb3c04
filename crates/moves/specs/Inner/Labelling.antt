-- Steps on their way into the lists by label. Only the contracts of inner functions cite it.
use Rattle.std.specs.Prelude.{List, ◌≡◌, ℕ, ◌+◌, ◌≤◌, ◌<◌, T, length, get_or}
use Rattle.text.specs.Limits.{action_limit}
use Rattle.text.specs.Model.{low, silent, Model}
use Rattle.model.specs.System.{source, action, target, view}
use Rattle.moves.specs.Inner.Listing.{Among}

-- A step with the action a has this label: its action if it is low, and the label behind all actions if it is silent.
pub data HasLabel (IsLow IsSilent : Type 0) (label a : ℕ) : Type 0 where
  low_label : a ≡ label → label < action_limit → IsLow → HasLabel IsLow IsSilent label a
  tick_label : label ≡ action_limit → IsSilent → HasLabel IsLow IsSilent label a

-- The same by the role of its action.
abbrev pub RoleLabel : List ℕ → ℕ → ℕ → Type 0
RoleLabel roles label a = HasLabel (get_or roles a 0 ≡ low) (get_or roles a 0 ≡ silent) label a

-- A step with the action a of the model has it.
abbrev pub ActionLabel : Model → ℕ → ℕ → Type 0
ActionLabel m label a = HasLabel (T ((view m).levels.low? a)) (T ((view m).levels.silent? a)) label a

-- This is the only label that Has holds of; Has holds of no label if it is the number behind all of them.
pub record OnlyLabel (Has : ℕ → Type 0) (label : ℕ) : Type 0 where
  pub label_le : label ≤ action_limit + 1
  pub has : label ≤ action_limit → Has label
  pub only : (other : ℕ) → Has other → other ≡ label

-- Step k of the model has this label.
abbrev pub StepLabel : Model → ℕ → ℕ → Type 0
StepLabel m label k = ActionLabel m label (action m k)

-- It has, and leads from p to q.
pub record LabelledAs (m : Model) (label k p q : ℕ) : Type 0 where
  pub has_label : StepLabel m label k
  pub source_is : source m k ≡ p
  pub target_is : target m k ≡ q

-- Some step of the model has this label and leads from p to q.
abbrev pub Labelled : Model → ℕ → ℕ → ℕ → Type 0
Labelled m label = Among (LabelledAs m label) 0 (length m.steps)

-- Step j is the first with this label from step `from` on; it is the number of steps if there is none.
pub record FirstLabelled (m : Model) (label from j : ℕ) : Type 0 where
  pub from_le : from ≤ j
  pub number_le : j ≤ length m.steps
  pub none_before : (k : ℕ) → from ≤ k → k < j → ¬ (StepLabel m label k)
  pub has_label : j < length m.steps → StepLabel m label j

-- The steps from step `from` on are linked by label: `heads` has the first with each label, and `nexts`, for each step,
-- the next with its label.
pub record Linked (m : Model) (from : ℕ) (heads nexts : List ℕ) : Type 0 where
  pub head : (label : ℕ) → label ≤ action_limit → FirstLabelled m label from (get_or heads label 0)
  pub next : (j label : ℕ) → from ≤ j → j < length m.steps → StepLabel m label j
      → FirstLabelled m label (j + 1) (get_or nexts j 0)

-- Step k has a label, and comes before step j under this label: its label is lower, or the same and k is lower.
pub record Earlier (m : Model) (label j k : ℕ) : Type 0 where
  pub number_lt : k < length m.steps
  pub of : ℕ
  pub has_label : StepLabel m of k
  pub of_le : of ≤ label
  pub lower : of ≡ label → k < j

-- The places below `at` have different steps, which all come before step j under this label: `numbers` says which.
pub record PlacedTo (m : Model) (label j at : ℕ) : Type 0 where
  pub numbers : ℕ → ℕ
  pub different : (i k : ℕ) → i < at → k < at → numbers i ≡ numbers k → i ≡ k
  pub earlier : (i : ℕ) → i < at → Earlier m label j (numbers i)
