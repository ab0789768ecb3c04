-- Actions as they stand in a store, from a place on. Only the contracts of inner functions cite it.
-- Document 01, "The model store".
use Rattle.std.specs.Prelude.{List, [], ◌∷◌, ◌++◌, ◌≡◌, ℕ, ◌≤◌, length, drop}
use Rattle.text.specs.Limits.{name_limit}
use Rattle.text.specs.Model.{ActionLine}
use Rattle.model.specs.Store.{action_numbers, actions_numbers}

-- an action stands from place `at` on, and its name has at most twelve bytes
pub record ActionStored (store : List ℕ) (at : ℕ) (a : ActionLine) : Type 0 where
  pub after : List ℕ
  pub stored : drop at store ≡ action_numbers a ++ after
  pub short : length a.name ≤ name_limit

-- each name has at most twelve bytes
unfoldable pub Short : List ActionLine → Type 0
Short [] = Unit {0}
Short (a ∷ rest) = (length a.name ≤ name_limit) × Short rest

-- actions stand one after the other from place `at` on
pub record ActionsStored (store : List ℕ) (at : ℕ) (actions : List ActionLine) : Type 0 where
  pub after : List ℕ
  pub stored : drop at store ≡ actions_numbers actions ++ after
  pub short : Short actions
