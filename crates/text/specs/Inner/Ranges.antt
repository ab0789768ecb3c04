-- The ranges of numbers: those of line 1 and of a step's line, of a number field, and of a place of the store.
-- Document 01, "The text" and "The model store".
use Rattle.std.specs.Prelude.{List, ℕ, ◌≤◌, ◌<◌}
use Rattle.text.specs.declared.Head.{Head}
use Rattle.text.specs.declared.StepLine.{StepLine}
use Rattle.text.specs.All.{All}
use Rattle.text.specs.Limits.{state_limit, action_limit, step_limit}

-- "States 1 to 128, actions 1 to 64, steps 0 to 1,024, start below states."
pub record HeadRanges (h : Head) : Type 0 where
  pub states_pos : 1 ≤ h.states
  pub states : h.states ≤ state_limit
  pub actions_pos : 1 ≤ h.actions
  pub actions : h.actions ≤ action_limit
  pub steps : h.steps ≤ step_limit
  pub start : h.start.0 < h.states

-- source, action and target are there
pub record StepRanges (h : Head) (s : StepLine) : Type 0 where
  pub source : s.source.0 < h.states
  pub action : s.action.0 < h.actions
  pub target : s.target.0 < h.states

-- "Numbers have 1 to 5 digits"
abbrev pub Small : List ℕ → Type 0
Small ns = All (λ n. n < 100000) ns

-- "numbers of 16 bits"
abbrev pub Storable : ℕ → Type 0
Storable n = n < 65536
