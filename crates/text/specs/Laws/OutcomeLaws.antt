-- What an outcome is not, and when equal outcomes come from equal answers. Assumes nothing.
use Rattle.std.specs.Prelude.{List, ◌≡◌, ℕ}
use Rattle.std.proofs.Common.{sym, ap, ◌∙◌, arith}
use Rattle.text.specs.Faults.{Outcome, answers, refuses}

pub answers_not_refuses : {values : List ℕ} {number place : ℕ} → ¬ (answers values ≡ refuses number place)
answers_not_refuses e = let z : ◌≡◌ {A = ℕ} 0 1 = cc in omega arith

-- A function that takes each outcome back to its answer shows that no two answers share one.
pub injective_of_inverse : {A : Type 0} (f : A → Outcome) (back : Outcome → A) → ((a : A) → back (f a) ≡ a)
    → (a b : A) → f a ≡ f b → a ≡ b
injective_of_inverse f back inverse a b e = sym (inverse a) ∙ ap back e ∙ inverse b
