-- Moves that a test decides, among n states and labels below l, with the test of one round; and views that tests
-- decide, with the test of the states that at most k steps reach. Document 01, "The meaning". Assumes nothing.
use Rattle.std.specs.Prelude.{Bool, not, ◌&&◌, ◌||◌, ℕ, zero, suc, ◌<◌, T}
use Rattle.lts.specs.Tests.{all, any}
use Rattle.lts.specs.Alike.{Moves}
use Rattle.lts.specs.View.{View}

-- `move?` decides the moves, and they go from states to states.
pub record Decided (Move : Moves) (n l : ℕ) (move? : ℕ → ℕ → ℕ → Bool) : Type 0 where
  pub move?→Move : (p a q : ℕ) → T (move? p a q) → Move p a q
  pub Move→move? : (p a q : ℕ) → Move p a q → T (move? p a q)
  pub source_lt : (p a q : ℕ) → Move p a q → p < n
  pub label_lt : (p a q : ℕ) → Move p a q → a < l
  pub target_lt : (p a q : ℕ) → Move p a q → q < n

-- Some move of q with the label a has a target that passes R.
abbrev pub answer? : ℕ → (ℕ → ℕ → ℕ → Bool) → (ℕ → Bool) → ℕ → ℕ → Bool
answer? n move? R q a = any n (λ q'. let r = R q' in move? q a q' && r)

-- If p has a move with the label a to p', q answers it inside R.
abbrev pub met? : ℕ → (ℕ → ℕ → ℕ → Bool) → (ℕ → ℕ → Bool) → ℕ → ℕ → ℕ → ℕ → Bool
met? n move? R p q a p' = let r = answer? n move? (R p') q a in not (move? p a p') || r

-- The test of `Answered`.
unfoldable pub answered? : ℕ → ℕ → (ℕ → ℕ → ℕ → Bool) → (ℕ → ℕ → Bool) → ℕ → ℕ → Bool
answered? n l move? R p q = all l (λ a. all n (met? n move? R p q a))

-- The test of `Answers`: one round.
unfoldable pub answers? : ℕ → ℕ → (ℕ → ℕ → ℕ → Bool) → (ℕ → ℕ → Bool) → ℕ → ℕ → Bool
answers? n l move? R p q = let r = answered? n l move? (λ x y. R y x) q p in answered? n l move? R p q && r

-- Each pair of states in R is answered one way, inside R.
unfoldable pub simulation? : ℕ → ℕ → (ℕ → ℕ → ℕ → Bool) → (ℕ → ℕ → Bool) → Bool
simulation? n l move? R = all n (λ p. all n (λ q. let r = answered? n l move? R p q in not (R p q) || r))

-- One move leads from a state that passes S to q.
abbrev pub entered? : ℕ → ℕ → (ℕ → ℕ → ℕ → Bool) → (ℕ → Bool) → ℕ → Bool
entered? n l move? S q = any n (λ p. let s = S p in any l (λ a. move? p a q) && s)

-- ---- views

-- Tests of a view's steps and starts, and how many actions there are. The levels are tests already.
pub record ViewTest : Type 0 where
  pub step? : ℕ → ℕ → ℕ → Bool
  pub start? : ℕ → Bool
  pub actions : ℕ

-- The tests t decide the steps and the starts of v, which are among its states and the actions.
pub record DecidedView (v : View) (t : ViewTest) : Type 0 where
  pub steps : Decided v.Step v.states t.actions t.step?
  pub start?→Start : (p : ℕ) → T (t.start? p) → v.Start p
  pub Start→start? : (p : ℕ) → v.Start p → T (t.start? p)
  pub start_lt : (p : ℕ) → v.Start p → p < v.states

-- The test of `Within`: at most k steps lead from a start to q.
unfoldable pub within? : View → ViewTest → ℕ → ℕ → Bool
within? v t zero q = t.start? q
within? v t (suc k) q =
    let r = entered? v.states t.actions t.step? (within? v t k) q in
    within? v t k q || r
