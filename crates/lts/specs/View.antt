-- A model as one check sees it. What is said of runs, reachable states, distances, BNID, NID, INI and words is said of
-- a view, so that other starts and the levels of one domain are other views (document 02, (iii) and (xiv)).
-- Document 01, "The meaning". Assumes nothing.
use Rattle.std.specs.Prelude.{Bool, ℕ}
use Rattle.lts.specs.Alike.{Moves}

-- "An action is low (L), release (D) or high (H)" (document 01, "The meaning"), or silent, which "Level T [..] marks"
-- (document 02, (vii)). Tests and not one table: the levels of a domain only change the tests.
pub record Levels : Type 0 where
  pub low? : ℕ → Bool
  pub release? : ℕ → Bool
  pub high? : ℕ → Bool
  pub silent? : ℕ → Bool

-- The levels of a model's actions, its steps, its starts and the number of its states: `Step p a q` says that a step
-- with the action a leads from p to q.
pub record View : Type 1 where
  pub levels : Levels
  pub Step : Moves
  pub Start : ℕ → Type 0
  pub states : ℕ
