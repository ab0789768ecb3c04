-- Moves that agree on a closed set of states. Document 01, "Alike"; document 02, (vii). Assumes nothing.
use Rattle.std.specs.Prelude.{◌≡◌, ◌⊎◌, ℕ}
use Rattle.lts.specs.Alike.{Moves}

-- On the set C, which M does not leave, M and N have the same moves; but under an idle label N lets each state stay
-- where it is, as a silent move of no steps does. With no idle label the two have the same moves.
pub record Agree (C : ℕ → Type 0) (Idle : ℕ → Type 0) (M N : Moves) : Type 0 where
  pub closed : (p a q : ℕ) → C p → M p a q → C q
  pub forth : (p a q : ℕ) → C p → M p a q → N p a q
  pub back : (p a q : ℕ) → C p → N p a q → M p a q ⊎ (Idle a × (p ≡ q))
  pub idle : (p a : ℕ) → C p → Idle a → N p a p
  pub not_idle : (p a q : ℕ) → C p → M p a q → ¬ (Idle a)
