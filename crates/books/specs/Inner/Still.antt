-- Moves without silent steps, and the silent openings among them. Only the contracts of inner functions cite it.
use Rattle.std.specs.Prelude.{◌≡◌, ℕ, ◌≤◌, ◌<◌}
use Rattle.lts.specs.Alike.{Moves}
use Rattle.lts.specs.Book.{Entry}
use Rattle.lts.specs.Weak.{silent_label}

-- A move of Move, or the silent move of zero steps that each of n states has.
pub data Still (Move : Moves) (n p a q : ℕ) : Type 0 where
  moves : Move p a q → Still Move n p a q
  stays : a ≡ silent_label → p < n → p ≡ q → Still Move n p a q

-- p stays where it is, t, and q is no state and has no answer.
pub record StaysUnanswered (n p q t : ℕ) : Type 0 where
  pub opener_lt : p < n
  pub target_is : t ≡ p
  pub other_le : n ≤ q

-- The same of the side that the entry names, under the silent label.
pub data UnansweredBy (n p q : ℕ) (e : Entry) : Type 0 where
  first_stays : e.action ≡ silent_label → e.side ≡ 1 → StaysUnanswered n p q e.target → UnansweredBy n p q e
  second_stays : e.action ≡ silent_label → e.side ≡ 2 → StaysUnanswered n q p e.target → UnansweredBy n p q e
