-- Tests over the numbers below n: all, any, how many, and the least number that passes. Assumes nothing.
use Rattle.std.specs.Prelude.{Bool, true, false, not, ◌&&◌, ◌||◌, ℕ, zero, suc, ◌+◌, ◌<◌, T}

-- Each number below n passes f.
abbrev pub Each : ℕ → (ℕ → Bool) → Type 0
Each n f = (i : ℕ) → i < n → T (f i)

-- Some number below n passes f.
abbrev pub Some : ℕ → (ℕ → Bool) → Type 0
Some n f = (i : ℕ) × (i < n) × T (f i)

-- The test of `Each`. It goes upward and binds its value first, so that it computes one test a number.
unfoldable pub all : ℕ → (ℕ → Bool) → Bool
all zero f = true
all (suc n) f = let r = f n in all n f && r

-- The test of `Some`.
unfoldable pub any : ℕ → (ℕ → Bool) → Bool
any zero f = false
any (suc n) f = let r = f n in any n f || r

-- 1 for true, 0 for false.
abbrev pub bit : Bool → ℕ
bit true = 1
bit false = 0

-- How many numbers below n pass f.
unfoldable pub count : ℕ → (ℕ → Bool) → ℕ
count zero f = zero
count (suc n) f = count n f + bit (f n)

-- How many pairs of a number below n and one below l pass f.
unfoldable pub count_pairs : ℕ → ℕ → (ℕ → ℕ → Bool) → ℕ
count_pairs zero l f = zero
count_pairs (suc n) l f = count_pairs n l f + count l (f n)

-- m is the least number that passes f.
pub record Least (f : ℕ → Bool) (m : ℕ) : Type 0 where
  pub passes : T (f m)
  pub none_below : (i : ℕ) → i < m → T (not (f i))
