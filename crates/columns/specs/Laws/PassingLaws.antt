-- The numbers below n that pass a test, where another test is the same or has one number more.
-- Document 02, (ii): "in action order". Assumes nothing.
use Rattle.std.specs.Prelude.{Bool, true, false, cond, [], ◌∷◌, ◌++◌, ◌⊎◌, ◌≡◌, refl, ℕ, zero, suc, ◌≤◌, ◌<◌, length}
use Rattle.std.proofs.Common.{append-nil, inl, inr, ◌∙◌, arith, length-append}
use Rattle.lts.specs.Tests.{bit, count}
use Rattle.lts.proofs.TestsLaws.{lt-suc_cases}
use Rattle.text.specs.All.{All}
use Rattle.text.specs.Laws.AllLaws.{all_append, all_of_all}
use Rattle.columns.specs.LowNames.{passing}

pub passing_same : (n : ℕ) (f g : ℕ → Bool) → ((i : ℕ) → i < n → f i ≡ g i) → passing n f ≡ passing n g
unfolding passing
passing_same zero f g h = refl
passing_same (suc n) f g h = rw (passing_same n f g (λ i l. h i (omega arith)), h n (omega arith))

pub passing-nil : (n : ℕ) (f : ℕ → Bool) → ((i : ℕ) → i < n → f i ≡ false) → passing n f ≡ []
unfolding passing
passing-nil zero f h = refl
passing-nil (suc n) f h = rw (passing-nil n f (λ i l. h i (omega arith)), h n (omega arith))

-- one more number passes, and none above it
pub passing_next : (n : ℕ) (f g : ℕ → Bool) (a : ℕ) → a < n → g a ≡ true → ((i : ℕ) → i < a → f i ≡ g i)
    → ((i : ℕ) → a ≤ i → f i ≡ false) → ((i : ℕ) → a < i → g i ≡ false) → passing n g ≡ passing n f ++ (a ∷ [])
unfolding passing
passing_next zero f g a l t low none-f none-g = absurd (omega arith)
passing_next (suc n) f g a l t low none-f none-g = go (passing_next n f g a) (lt-suc_cases l)
  where
    go : (a < n → g a ≡ true → ((i : ℕ) → i < a → f i ≡ g i) → ((i : ℕ) → a ≤ i → f i ≡ false)
        → ((i : ℕ) → a < i → g i ≡ false) → passing n g ≡ passing n f ++ (a ∷ [])) → (a ≡ n) ⊎ (a < n)
        → passing (suc n) g ≡ passing (suc n) f ++ (a ∷ [])
    go ih (inl e) =
        let last : g n ≡ true = rw e at t in
        rw (last, none-f n (omega arith), append-nil, passing_same n f g (λ i k. low i (omega arith)), e)
    go ih (inr k) = rw (none-f n (omega arith), none-g n k, append-nil (passing n g), append-nil (passing n f))
        (ih k t low none-f none-g)

-- ---- how many pass, and that they are below n

pub passing-length : (n : ℕ) (f : ℕ → Bool) → length (passing n f) ≡ count n f
unfolding passing count
passing-length zero f = refl
passing-length (suc n) f =
    length-append (passing n f) (cond (f n) (n ∷ []) []) ∙ omega (arith, passing-length n f, last (f n))
  where
    last : (b : Bool) → length (cond b (n ∷ []) []) ≡ bit b
    last true = refl
    last false = refl

pub passing_lt : (n : ℕ) (f : ℕ → Bool) → All (λ (i : ℕ). i < n) (passing n f)
unfolding passing
passing_lt zero f = tt
passing_lt (suc n) f =
    all_append (λ (i : ℕ). i < suc n) (passing n f) (cond (f n) (n ∷ []) [])
    (all_of_all (λ (i : ℕ). i < n) (λ (i : ℕ). i < suc n) (λ i l. omega arith) (passing n f) (passing_lt n f))
    (last (f n))
  where
    last : (b : Bool) → All (λ (i : ℕ). i < suc n) (cond b (n ∷ []) [])
    last true = (omega arith, tt)
    last false = tt
