-- The role of each action, found once and handed down: 0 low, 1 release, 2 high, 3 silent, as the levels in the store.
-- Only the contracts of inner functions cite it.
use Rattle.std.specs.Prelude.{List, ◌≡◌, ℕ, ◌≤◌, ◌<◌, eqb, length, get_or}
use Rattle.text.specs.Limits.{action_limit}
use Rattle.text.specs.Model.{low, release, high, silent, Model}
use Rattle.lts.specs.View.{Levels}
use Rattle.model.specs.System.{view}

-- The list has the roles of the first n actions.
pub record Roles (L : Levels) (n : ℕ) (roles : List ℕ) : Type 0 where
  pub low_is : (a : ℕ) → a < n → L.low? a ≡ eqb (get_or roles a 0) low
  pub release_is : (a : ℕ) → a < n → L.release? a ≡ eqb (get_or roles a 0) release
  pub high_is : (a : ℕ) → a < n → L.high? a ≡ eqb (get_or roles a 0) high
  pub silent_is : (a : ℕ) → a < n → L.silent? a ≡ eqb (get_or roles a 0) silent

-- The list has the roles of the model's actions, and a place for as many as there can be.
pub record RolesOf (m : Model) (roles : List ℕ) : Type 0 where
  pub roles_length : action_limit ≤ length roles
  pub roles_are : Roles (view m).levels m.head.actions roles
