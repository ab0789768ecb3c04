-- Moves among n states as lists: the steps of the state p stand from place first[p] up to place first[p + 1], an action
-- and a target each. Assumes nothing.
use Rattle.std.specs.Prelude.{List, ◌≡◌, ℕ, ◌+◌, ◌≤◌, ◌<◌, get_or}
use Rattle.lts.specs.Alike.{Moves}
use Rattle.text.specs.Limits.{state_limit, action_limit, step_limit}

-- The lists have a step from p with the action a to q.
pub record Listed (n : ℕ) (first actions targets : List ℕ) (p a q : ℕ) : Type 0 where
  pub place : ℕ
  pub source_lt : p < n
  pub first_le : get_or first p 0 ≤ place
  pub place_lt : place < get_or first (p + 1) 0
  pub action_is : get_or actions place 0 ≡ a
  pub target_is : get_or targets place 0 ≡ q

-- The lists are steps among n states.
pub record MoveList (n : ℕ) (first actions targets : List ℕ) : Type 0 where
  pub some_state : 0 < n
  pub states_le : n ≤ state_limit
  pub rising : (p : ℕ) → p < n → get_or first p 0 ≤ get_or first (p + 1) 0
  pub last_le : (p : ℕ) → p ≤ n → get_or first p 0 ≤ step_limit
  pub action_lt : (i : ℕ) → i < get_or first n 0 → get_or actions i 0 < action_limit
  pub target_lt : (i : ℕ) → i < get_or first n 0 → get_or targets i 0 < n

-- The lists have just the moves of another relation.
pub record Lists (Move : Moves) (n : ℕ) (first actions targets : List ℕ) : Type 0 where
  pub moves : MoveList n first actions targets
  pub sound : (p a q : ℕ) → Listed n first actions targets p a q → Move p a q
  pub complete : (p a q : ℕ) → Move p a q → Listed n first actions targets p a q

-- The steps from place `from` up to place `to` rise by action, and those of one action by target.
pub record Rising (from to : ℕ) (actions targets : List ℕ) : Type 0 where
  pub action_le : (i j : ℕ) → from ≤ i → i < j → j < to → get_or actions i 0 ≤ get_or actions j 0
  pub target_lt : (i j : ℕ) → from ≤ i → i < j → j < to → get_or actions i 0 ≡ get_or actions j 0
      → get_or targets i 0 < get_or targets j 0

-- The steps of each of n states do.
pub record Ordered (n : ℕ) (first actions targets : List ℕ) : Type 0 where
  pub each : (p : ℕ) → p < n → Rising (get_or first p 0) (get_or first (p + 1) 0) actions targets
