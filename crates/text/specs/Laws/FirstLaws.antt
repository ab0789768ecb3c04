-- The first number that a claim holds of: there is one at most, and one below n or none.
-- Assumes nothing.
use Rattle.std.specs.Prelude.{◌⊎◌, ◌≡◌, ℕ, zero, suc, ◌<◌}
use Rattle.std.proofs.Common.{inl, inr, ⊎_elim, subst, arith}
use Rattle.lts.proofs.TestsLaws.{lt_or_le, lt-suc_cases}
use Rattle.text.specs.First.{First}

pub first_found : {P : ℕ → Type 0} {j : ℕ} → ((i : ℕ) → i < j → ¬ (P i)) → P j → First P j
first_found {j = j} none x = record {
  holds = x;
  first = λ i y. ⊎_elim (λ l. absurd (none i l y)) (λ l. l) (lt_or_le i j);
}

pub first_unique : {P : ℕ → Type 0} {i j : ℕ} → First P i → First P j → i ≡ j
first_unique {i = i} {j = j} x y = omega (arith, x.first j y.holds, y.first i x.holds)

pub first_cases : (P : ℕ → Type 0) → ((i : ℕ) → P i ⊎ ¬ (P i)) → (n : ℕ)
    → ((j : ℕ) × First P j) ⊎ ((i : ℕ) → i < n → ¬ (P i))
first_cases P decide zero = inr (λ i l. absurd (omega arith))
first_cases P decide (suc n) = go (first_cases P decide n) (decide n)
  where
    go : ((j : ℕ) × First P j) ⊎ ((i : ℕ) → i < n → ¬ (P i)) → P n ⊎ ¬ (P n)
        → ((j : ℕ) × First P j) ⊎ ((i : ℕ) → i < suc n → ¬ (P i))
    go (inl x) d = inl x
    go (inr f) (inl y) = inl (n, first_found f y)
    go (inr f) (inr y) = inr (λ i l. last i (lt-suc_cases l))
      where
        last : (i : ℕ) → (i ≡ n) ⊎ (i < n) → ¬ (P i)
        last i (inl e) = λ x. y (subst P e x)
        last i (inr l) = f i l
