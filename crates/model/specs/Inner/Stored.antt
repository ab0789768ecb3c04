-- What the judge uses of a good store: the places of its model, and the order of its steps. Only the contracts of inner
-- functions cite it; `good→Stored` shows it of every good store.
-- Document 01, "The text" and "The model store"; document 02, (iii).
use Rattle.std.specs.Prelude.{List, ◌≡◌, ℕ, ◌≤◌, ◌<◌, length, get_or}
use Rattle.text.specs.Limits.{state_limit, action_limit, step_limit, extra_limit, store_length}
use Rattle.text.specs.Model.{last_level, Model}
use Rattle.model.specs.StoredModel.{head_at, action_at, step_at, extra_count_at, extra_start_at}
use Rattle.model.specs.System.{step, source, action, target, level, IsStart}

pub record Stored (s : List ℕ) (m : Model) : Type 0 where
  pub length_le : store_length ≤ length s
  pub head_is : head_at s ≡ m.head
  pub states_pos : 0 < m.head.states
  pub states_le : m.head.states ≤ state_limit
  pub actions_le : m.head.actions ≤ action_limit
  pub extra_count_is : extra_count_at s ≡ length m.extra_starts
  pub extra_count_le : length m.extra_starts ≤ extra_limit
  pub extra_start_is : (i : ℕ) → i < length m.extra_starts → extra_start_at s i ≡ get_or m.extra_starts i 0
  pub start_lt : (p : ℕ) → IsStart m p → p < m.head.states
  pub steps_is : m.head.steps ≡ length m.steps
  pub steps_le : length m.steps ≤ step_limit
  pub step_is : (j : ℕ) → j < length m.steps → step_at s j ≡ step m j
  pub source_lt : (j : ℕ) → j < length m.steps → source m j < m.head.states
  pub action_lt : (j : ℕ) → j < length m.steps → action m j < m.head.actions
  pub target_lt : (j : ℕ) → j < length m.steps → target m j < m.head.states
  pub level_is : (a : ℕ) → a < m.head.actions → (action_at s a).level ≡ level m a
  pub level_le : (a : ℕ) → a < m.head.actions → level m a ≤ last_level
  -- steps rise by source, then action, then target
  pub source_le : (i j : ℕ) → i ≤ j → j < length m.steps → source m i ≤ source m j
  pub action_le : (i j : ℕ) → i ≤ j → j < length m.steps → source m i ≡ source m j → action m i ≤ action m j
  pub target_lt_target : (i j : ℕ) → i < j → j < length m.steps → source m i ≡ source m j → action m i ≡ action m j
      → target m i < target m j
