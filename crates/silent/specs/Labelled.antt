-- The low and the silent steps of n states as lists, by label: the label of a low step is its action, and the silent
-- steps stand behind those of all actions. The moves that are played are made of them. Document 02, (vii).
use Rattle.std.specs.Prelude.{List, ◌≡◌, ℕ, ◌+◌, ◌≤◌, ◌<◌, get_or}
use Rattle.lts.specs.Alike.{Moves, Relation}
use Rattle.lts.specs.Weak.{Weak}
use Rattle.text.specs.Limits.{state_limit, action_limit, step_limit}

-- Where the steps of each label begin; behind the actions comes the label of the silent steps, and where these end.
abbrev pub labels_length : ℕ
labels_length = action_limit + 2

-- The lists have a step with the label a from p to q: those of a label stand from place from[a] up to place
-- from[a + 1], a source and a target each.
pub record LabelStep (from sources targets : List ℕ) (a p q : ℕ) : Type 0 where
  pub place : ℕ
  pub from_le : get_or from a 0 ≤ place
  pub place_lt : place < get_or from (a + 1) 0
  pub source_is : get_or sources place 0 ≡ p
  pub target_is : get_or targets place 0 ≡ q

-- The lists are steps among n states.
pub record LabelList (n : ℕ) (from sources targets : List ℕ) : Type 0 where
  pub some_state : 0 < n
  pub states_le : n ≤ state_limit
  pub rising : (a : ℕ) → a ≤ action_limit → get_or from a 0 ≤ get_or from (a + 1) 0
  pub last_le : get_or from (action_limit + 1) 0 ≤ step_limit
  pub source_lt : (i : ℕ) → i < get_or from (action_limit + 1) 0 → get_or sources i 0 < n
  pub target_lt : (i : ℕ) → i < get_or from (action_limit + 1) 0 → get_or targets i 0 < n

-- A low step.
abbrev pub LowLabel : List ℕ → List ℕ → List ℕ → Moves
LowLabel from sources targets p a q = (a < action_limit) × LabelStep from sources targets a p q

-- A silent step.
abbrev pub TickLabel : List ℕ → List ℕ → List ℕ → Relation
TickLabel from sources targets p q = LabelStep from sources targets action_limit p q

-- The moves that are played.
abbrev pub LabelMove : ℕ → List ℕ → List ℕ → List ℕ → Moves
LabelMove n from sources targets = Weak (LowLabel from sources targets) (TickLabel from sources targets) n
