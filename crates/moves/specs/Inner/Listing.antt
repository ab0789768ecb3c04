-- Steps on their way into the lists: one step after the other, and the steps of one state, or of one label, behind
-- those of the one before. Only the contracts of inner functions cite it.
use Rattle.std.specs.Prelude.{List, ◌≡◌, ℕ, ◌+◌, ◌≤◌, ◌<◌, T, get_or}
use Rattle.text.specs.Model.{Model}
use Rattle.model.specs.System.{action, target, view}
use Rattle.by_state.specs.MoveList.{Listed}

-- From place `from` up to place `to` the two lists have the pairs of Out, each of them; the places before are as they
-- were.
pub record Appended (Out : ℕ → ℕ → Type 0) (from to : ℕ) (left right left' right' : List ℕ) : Type 0 where
  pub from_le : from ≤ to
  pub sound : (i : ℕ) → from ≤ i → i < to → Out (get_or left' i 0) (get_or right' i 0)
  pub complete : (x y : ℕ) → Out x y
      → (i : ℕ) × (from ≤ i) × (i < to) × (get_or left' i 0 ≡ x) × (get_or right' i 0 ≡ y)
  pub left_kept : (i : ℕ) → i < from → get_or left' i 0 ≡ get_or left i 0
  pub right_kept : (i : ℕ) → i < from → get_or right' i 0 ≡ get_or right i 0

-- `Has k x y` says that step k is one to be listed, as x and y: some step with a number from `from` up to `to` is.
pub record Among (Has : ℕ → ℕ → ℕ → Type 0) (from to x y : ℕ) : Type 0 where
  pub number : ℕ
  pub from_le : from ≤ number
  pub to_lt : number < to
  pub holds : Has number x y

-- Step k is low, and has the action a and the target q.
pub record LowAs (m : Model) (k a q : ℕ) : Type 0 where
  pub is_low : T ((view m).levels.low? a)
  pub action_is : action m k ≡ a
  pub target_is : target m k ≡ q

-- Up to place `to` the lists have, for each number below n, its pairs of Out: where those of each begin stands in
-- `first`. The number is a state, and the pairs are actions and targets; or it is a label, and they are sources and
-- targets.
pub record ListedTo (Out : ℕ → ℕ → ℕ → Type 0) (n to : ℕ) (first left right : List ℕ) : Type 0 where
  pub end_is : get_or first n 0 ≡ to
  pub first_le : (p : ℕ) → p ≤ n → get_or first p 0 ≤ to
  pub rising : (p : ℕ) → p < n → get_or first p 0 ≤ get_or first (p + 1) 0
  pub each : (i : ℕ) → i < to → (p : ℕ) × Out p (get_or left i 0) (get_or right i 0)
  pub sound : (p x y : ℕ) → Listed n first left right p x y → Out p x y
  pub complete : (p x y : ℕ) → p < n → Out p x y → Listed n first left right p x y
