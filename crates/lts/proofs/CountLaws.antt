-- How many numbers, or pairs of numbers, pass a test: one that passes f alone adds one. Assumes nothing.
use Rattle.std.specs.Prelude.{◌≡◌, refl, ◌⊎◌, Bool, true, false, not}
use Rattle.std.proofs.Common.{sym, ◌∙◌, inl, inr, T_not}
use Prim.Native.Nat.{ℕ, zero, suc, ◌+◌, ◌≤◌, ◌<◌}
use native.Mathlib.Omega.{arith}
use Rattle.std.proofs.Math.Dec.{T}
use Rattle.lts.specs.Tests.{Each, bit, count, count_pairs}
use Rattle.lts.proofs.TestsLaws.{T_cases, eq_or_not, count_le-count, count_pos}

bit_none : (b : Bool) → T (not b) → bit b ≡ 0
bit_none true t = absurd t
bit_none false t = refl

pub count_none : (n : ℕ) (f : ℕ → Bool) → Each n (λ i. not (f i)) → count n f ≡ 0
unfolding count
count_none zero f h = refl
count_none (suc n) f h = omega (arith, count_none n f (λ i l. h i (omega arith)), bit_none (f n) (h n (omega arith)))

bit_not : (b : Bool) → bit b + bit (not b) ≡ 1
bit_not true = refl
bit_not false = refl

-- Each number passes f or fails it.
pub count_not : (n : ℕ) (f : ℕ → Bool) → count n f + count n (λ i. not (f i)) ≡ n
unfolding count
count_not zero f = refl
count_not (suc n) f = omega (arith, count_not n f, bit_not (f n))

-- Some number fails f.
pub count_lt : (n : ℕ) (f : ℕ → Bool) (x : ℕ) → x < n → T (not (f x)) → count n f < n
count_lt n f x l t = omega (arith, count_not n f, count_pos n (λ i. not (f i)) x l t)

-- What passes f passes g, but for one number.
pub count_le-suc : (n : ℕ) (f g : ℕ → Bool)
    → ((i j : ℕ) → i < n → j < n → T (f i) → T (not (g i)) → T (f j) → T (not (g j)) → i ≡ j)
    → count n f ≤ suc (count n g)
unfolding count
count_le-suc zero f g one = omega arith
count_le-suc (suc n) f g one =
    go (f n) (g n) (λ i l t u x y. one i n (omega arith) (omega arith) t u x y)
    (count_le-suc n f g (λ i j k l. one i j (omega arith) (omega arith)))
  where
    -- the last number is the one
    only : ((i : ℕ) → i < n → T (f i) → T (not (g i)) → i ≡ n) → (i : ℕ) → i < n → T (f i) → T (g i)
    only last i l t = cases (T_cases (g i))
      where
        cases : T (g i) ⊎ T (not (g i)) → T (g i)
        cases (inl u) = u
        cases (inr u) = absurd (omega (arith, last i l t u))

    go : (a b : Bool) → ((i : ℕ) → i < n → T (f i) → T (not (g i)) → T a → T (not b) → i ≡ n)
        → count n f ≤ suc (count n g) → count n f + bit a ≤ suc (count n g + bit b)
    go true true last h = omega arith
    go true false last h =
        omega (arith, count_le-count n f g (only (λ i l t u. last i l t u tt tt)))
    go false true last h = omega arith
    go false false last h = omega arith

-- ---- pairs

pub count_pairs_none : (n l : ℕ) (f : ℕ → ℕ → Bool) → ((i j : ℕ) → i < n → j < l → T (not (f i j)))
    → count_pairs n l f ≡ 0
unfolding count_pairs
count_pairs_none zero l f h = refl
count_pairs_none (suc n) l f h =
    let r = count_pairs_none n l f (λ i j k. h i j (omega arith)) in
    omega (arith, count_none l (f n) (λ j k. h n j (omega arith) k))

module _ (l : ℕ) (f g : ℕ → ℕ → Bool) where
  -- What passes f passes g.
  pub count_pairs_le : (n : ℕ) → ((i j : ℕ) → i < n → j < l → T (f i j) → T (g i j))
      → count_pairs n l f ≤ count_pairs n l g
  unfolding count_pairs
  count_pairs_le zero h = omega arith
  count_pairs_le (suc n) h =
      let r = count_pairs_le n (λ i j k. h i j (omega arith)) in
      omega (arith, count_le-count l (f n) (g n) (λ j k. h n j (omega arith) k))

  -- What passes f passes g, but for the pair of x and y.
  pub count_pairs_le_suc : (n x y : ℕ) → ((i j : ℕ) → i < n → j < l → T (f i j) → T (g i j) ⊎ ((i ≡ x) × (j ≡ y)))
      → count_pairs n l f ≤ suc (count_pairs n l g)
  unfolding count_pairs
  count_pairs_le_suc zero x y h = omega arith
  count_pairs_le_suc (suc n) x y h = go (eq_or_not n x) (count_pairs_le_suc n x y (λ i j k. h i j (omega arith)))
    where
      other : (i j : ℕ) → i < suc n → j < l → ¬ (i ≡ x) → T (f i j) → T (g i j)
      other i j a b d t = cases (h i j a b t)
        where
          cases : T (g i j) ⊎ ((i ≡ x) × (j ≡ y)) → T (g i j)
          cases (inl u) = u
          cases (inr e) = absurd (d e.0)

      is_y : (j : ℕ) → j < l → T (f n j) → T (not (g n j)) → j ≡ y
      is_y j b t u = cases (h n j (omega arith) b t)
        where
          cases : T (g n j) ⊎ ((n ≡ x) × (j ≡ y)) → j ≡ y
          cases (inl v) = absurd (T_not (g n j) u v)
          cases (inr e) = e.1

      go : (n ≡ x) ⊎ ¬ (n ≡ x) → count_pairs n l f ≤ suc (count_pairs n l g)
          → count_pairs n l f + count l (f n) ≤ suc (count_pairs n l g + count l (g n))
      go (inl e) ih =
          let r = count_pairs_le n (λ i j a b. other i j (omega arith) b (λ d. absurd (omega arith))) in
          omega (arith, count_le-suc l (f n) (g n) (λ i j a b t u v w. is_y i a t u ∙ sym (is_y j b v w)))
      go (inr d) ih = omega (arith, count_le-count l (f n) (g n) (λ j b. other n j (omega arith) b d))
