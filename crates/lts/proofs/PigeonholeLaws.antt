-- No more numbers than n have different values below n. Assumes nothing.
use Rattle.std.specs.Prelude.{◌≡◌, ◌⊎◌, ℕ, zero, suc, ◌≤◌, ◌<◌}
use Rattle.std.proofs.Math.Path.{sym}
use Rattle.std.proofs.Common.{◌∙◌, inl, inr, not-suc-le-zero, arith}
use Rattle.lts.proofs.TestsLaws.{eq_or_not, le_of_not_lt}

-- a in the one case, b in the other
pick : {A : Type 0} → A ⊎ ¬ A → ℕ → ℕ → ℕ
pick (inl _) a b = a
pick (inr _) a b = b

-- The values below n + 1 of m + 1 numbers: where n is the value of one of the first m, it is given that of the last.
module _ (m n : ℕ) (f : ℕ → ℕ) (below : (i : ℕ) → i < suc m → f i < suc n)
    (one : (i j : ℕ) → i < suc m → j < suc m → f i ≡ f j → i ≡ j) where
  moved : ℕ → ℕ
  moved i = pick (eq_or_not (f i) n) (f m) (f i)

  moved_lt : (i : ℕ) → i < m → moved i < n
  unfolding moved pick
  moved_lt i l = go (eq_or_not (f i) n)
    where
      go : (d : (f i ≡ n) ⊎ ¬ (f i ≡ n)) → pick d (f m) (f i) < n
      go (inl e) = last (eq_or_not (f m) n)
        where
          last : (f m ≡ n) ⊎ ¬ (f m ≡ n) → f m < n
          last (inl g) = absurd (omega (arith, one i m (omega arith) (omega arith) (e ∙ sym g)))
          last (inr g) = omega (arith, below m (omega arith))
      go (inr d) = omega (arith, below i (omega arith))

  moved_one : (i j : ℕ) → i < m → j < m → moved i ≡ moved j → i ≡ j
  unfolding moved pick
  moved_one i j li lj = go (eq_or_not (f i) n) (eq_or_not (f j) n)
    where
      go : (d : (f i ≡ n) ⊎ ¬ (f i ≡ n)) (e : (f j ≡ n) ⊎ ¬ (f j ≡ n)) → pick d (f m) (f i) ≡ pick e (f m) (f j) → i ≡ j
      go (inl d) (inl e) h = one i j (omega arith) (omega arith) (d ∙ sym e)
      go (inl d) (inr e) h = absurd (omega (arith, one m j (omega arith) (omega arith) h))
      go (inr d) (inl e) h = absurd (omega (arith, one i m (omega arith) (omega arith) h))
      go (inr d) (inr e) h = one i j (omega arith) (omega arith) h

pub injective_le : (m n : ℕ) (f : ℕ → ℕ) → ((i : ℕ) → i < m → f i < n)
    → ((i j : ℕ) → i < m → j < m → f i ≡ f j → i ≡ j) → m ≤ n
injective_le m zero f below one = le_of_not_lt m 0 (λ l. not-suc-le-zero (below 0 l))
injective_le zero (suc n) f below one = omega arith
injective_le (suc m) (suc n) f below one =
    omega (arith, injective_le m n (moved m n f below one) (moved_lt m n f below one) (moved_one m n f below one))
