-- Bit i of w is w / 2 ^ i % 2. The bits of bit_or, of a power of two and below the least bit of a word.
-- Assumes nothing.
use Rattle.std.specs.Prelude.{◌≡◌, refl, ◌⊎◌, ℕ, zero, suc, ◌+◌, ◌-◌, ◌*◌, ◌/◌, ◌%◌, ◌^◌, ◌≤◌, ◌<◌, max}
use Rattle.std.proofs.Common.{sym, ap, ap₂, ◌∙◌, subst, inl, inr, one-mul, pow-suc, div-one, div-add-mod'}
use Rattle.std.proofs.Common.{le_of_suc-le-suc, lt_of_lt_of_le, arith, pow_pos, pow_mono, pow-add, shl_exact}
use Rattle.std.proofs.Math.Nat.{max-eq_left, max-eq_right, max-le, zero-max, pow-succ', div-eq_of_lt}
use Rattle.std.proofs.Math.Nat.{div-div-eq-div-mul}
use Rattle.std.proofs.Math.Arith.{digits_mod, lt-one}
use Rattle.std.proofs.Math.Pow.{pow-lt}
use Rattle.std.proofs.lemmas.Nat.{shl-shr, or_shr, or_comm}
use Rattle.std.specs.Int.Bits.{bit_or, or_step, shifted_even}
use Rattle.std.specs.Int.Count.{count_trailing_zeros, under}
use Rattle.lts.proofs.TestsLaws.{lt_or_le}
use Rattle.sets.specs.Inner.Sets.{word_bits}

rem_two_lt : (n : ℕ) → n % 2 < 2
rem_two_lt n = omega arith

pub bit_cases : (n : ℕ) → (n % 2 ≡ 0) ⊎ (n % 2 ≡ 1)
bit_cases n = go (n % 2) (rem_two_lt n)
  where
    go : (r : ℕ) → r < 2 → (r ≡ 0) ⊎ (r ≡ 1)
    go zero l = inl refl
    go (suc zero) l = inr refl
    go (suc (suc r)) l = absurd (omega arith)

-- ---- the bits of bit_or

max_lt_two : (x y : ℕ) → x < 2 → y < 2 → max x y < 2
max_lt_two x y h k =
    let m : max x y ≤ 1 = max-le (le_of_suc-le-suc h) (le_of_suc-le-suc k) in
    omega arith

or_odd : (a b : ℕ) → bit_or a b % 2 ≡ max (a % 2) (b % 2)
or_odd a b =
    ap (λ (x : ℕ). x % 2) (or_step a b)
    ∙ digits_mod (bit_or (a / 2) (b / 2)) (max_lt_two (a % 2) (b % 2) (rem_two_lt a) (rem_two_lt b))

bit_or_lem : (a b i : ℕ) → bit_or a b / 2 ^ i % 2 ≡ max (a / 2 ^ i % 2) (b / 2 ^ i % 2)
bit_or_lem a b i = ap (λ (x : ℕ). x % 2) (or_shr a b i) ∙ or_odd (a / 2 ^ i) (b / 2 ^ i)

pub bit_or_left : (a b i : ℕ) → a / 2 ^ i % 2 ≡ 1 → bit_or a b / 2 ^ i % 2 ≡ 1
bit_or_left a b i e =
    let l : b / 2 ^ i % 2 ≤ a / 2 ^ i % 2 = omega arith in
    bit_or_lem a b i ∙ max-eq_left l ∙ e

pub bit_or_right : (a b i : ℕ) → b / 2 ^ i % 2 ≡ 1 → bit_or a b / 2 ^ i % 2 ≡ 1
bit_or_right a b i e = ap (λ (x : ℕ). x / 2 ^ i % 2) (or_comm a b) ∙ bit_or_left b a i e

pub bit_or_cases : (a b i : ℕ) → bit_or a b / 2 ^ i % 2 ≡ 1 → (a / 2 ^ i % 2 ≡ 1) ⊎ (b / 2 ^ i % 2 ≡ 1)
bit_or_cases a b i e = go (bit_cases (a / 2 ^ i))
  where
    go : (a / 2 ^ i % 2 ≡ 0) ⊎ (a / 2 ^ i % 2 ≡ 1) → (a / 2 ^ i % 2 ≡ 1) ⊎ (b / 2 ^ i % 2 ≡ 1)
    go (inr d) = inl d
    go (inl d) =
        inr (sym (ap (λ (x : ℕ). max x (b / 2 ^ i % 2)) d ∙ zero-max (b / 2 ^ i % 2)) ∙ sym (bit_or_lem a b i) ∙ e)

-- Bit i of the half is the next bit.
pub bit_half : (n i : ℕ) → n / 2 / 2 ^ i ≡ n / 2 ^ suc i
bit_half n i = div-div-eq-div-mul n 2 (2 ^ i) ∙ ap (λ (x : ℕ). n / x) (sym (pow-succ' 2 i))

half_lt_pow : (n k : ℕ) → n < 2 ^ suc k → n / 2 < 2 ^ k
half_lt_pow n k h =
    let l : n < 2 ^ k * 2 = subst (λ (x : ℕ). n < x) (pow-suc 2 k) h in
    omega arith

-- Each of the k bits of a is one of b: a adds nothing to b.
pub or_of_bits : (k a b : ℕ) → a < 2 ^ k → ((i : ℕ) → i < k → a / 2 ^ i % 2 ≡ 1 → b / 2 ^ i % 2 ≡ 1) → bit_or a b ≡ b
or_of_bits zero a b l h = ap (λ (x : ℕ). bit_or x b) (lt-one l)
or_of_bits (suc k) a b l h =
    let ih : bit_or (a / 2) (b / 2) ≡ b / 2 = or_of_bits k (a / 2) (b / 2) (half_lt_pow a k l) next in
    or_step a b ∙ ap₂ (λ (x y : ℕ). x * 2 + y) ih (low (bit_cases a)) ∙ div-add-mod' b 2
  where
    next : (i : ℕ) → i < k → a / 2 / 2 ^ i % 2 ≡ 1 → b / 2 / 2 ^ i % 2 ≡ 1
    next i m e =
        ap (λ (x : ℕ). x % 2) (bit_half b i)
        ∙ h (suc i) (omega (arith, m)) (sym (ap (λ (x : ℕ). x % 2) (bit_half a i)) ∙ e)

    low : (a % 2 ≡ 0) ⊎ (a % 2 ≡ 1) → max (a % 2) (b % 2) ≡ b % 2
    low (inl e) = ap (λ (x : ℕ). max x (b % 2)) e ∙ zero-max (b % 2)
    low (inr e) =
        let d : b % 2 ≡ 1 = sym (ap (λ (x : ℕ). x % 2) (div-one b))
        ∙ h 0 (omega arith) (ap (λ (x : ℕ). x % 2) (div-one a) ∙ e) in
        max-eq_right (omega arith)

pub bits_of_or : (a b i : ℕ) → bit_or a b ≡ b → a / 2 ^ i % 2 ≡ 1 → b / 2 ^ i % 2 ≡ 1
bits_of_or a b i e d = ap (λ (x : ℕ). x / 2 ^ i % 2) (sym e) ∙ bit_or_left a b i d

-- ---- powers of two

pub bit_pow : (s : ℕ) → 2 ^ s / 2 ^ s % 2 ≡ 1
bit_pow s = ap (λ (x : ℕ). x % 2) (ap (λ (x : ℕ). x / 2 ^ s) (sym (one-mul (2 ^ s))) ∙ shl-shr 1 s)

-- What 1 << s is, for an s below 64.
pub one_shl : (s : ℕ) → s < word_bits → 1 * 2 ^ s % 2 ^ word_bits ≡ 2 ^ s
one_shl s h = shl_exact 1 s word_bits (omega arith) (omega arith) ∙ one-mul (2 ^ s)

-- A power of two has one bit.
pub bit_pow_unique : (s i : ℕ) → 2 ^ s / 2 ^ i % 2 ≡ 1 → i ≡ s
bit_pow_unique s i e = go (lt_or_le i s) (lt_or_le s i)
  where
    -- the bits below s
    low : i < s → 2 ^ s / 2 ^ i % 2 ≡ 0
    low l =
        let d : s ≡ suc (s - suc i) + i = omega arith in
        ap (λ (x : ℕ). x % 2) (ap (λ (x : ℕ). 2 ^ x / 2 ^ i) d
        ∙ ap (λ (x : ℕ). x / 2 ^ i) (pow-add 2 (suc (s - suc i)) i) ∙ shl-shr (2 ^ suc (s - suc i)) i
        ∙ sym (one-mul (2 ^ suc (s - suc i))))
        ∙ shifted_even 1 (s - suc i)

    -- the bits above s
    high : s < i → 2 ^ s / 2 ^ i % 2 ≡ 0
    high l = ap (λ (x : ℕ). x % 2) (div-eq_of_lt (pow-lt l))

    go : (i < s) ⊎ (s ≤ i) → (s < i) ⊎ (i ≤ s) → i ≡ s
    go (inl l) d = absurd (omega (arith, low l))
    go (inr l) (inl k) = absurd (omega (arith, high k))
    go (inr l) (inr k) = omega arith

-- A word below 2 ^ k has its bits at places below k.
pub bit_place_lt : {w : ℕ} (k i : ℕ) → w < 2 ^ k → w / 2 ^ i % 2 ≡ 1 → i < k
bit_place_lt {w} k i fits o = cases (lt_or_le i k)
  where
    cases : (i < k) ⊎ (k ≤ i) → i < k
    cases (inl l) = l
    cases (inr l) = absurd (omega (arith, o, div-eq_of_lt (lt_of_lt_of_le fits (pow_mono l))))

-- ---- the least bit

pub bit-zero : (i : ℕ) → ¬ (0 / 2 ^ i % 2 ≡ 1)
bit-zero i e = absurd (omega (arith, div-eq_of_lt (pow_pos i)))

pub bit_first : (n : ℕ) → n / 2 ^ 0 % 2 ≡ n % 2
bit_first n = ap (λ (x : ℕ). x % 2) (div-one n)

pub trailing-bit : (d n : ℕ) → 0 < n → n < 2 ^ d → n / 2 ^ count_trailing_zeros d n % 2 ≡ 1
unfolding count_trailing_zeros
trailing-bit zero n l k = absurd (omega arith)
trailing-bit (suc d) n l k = go (n % 2) refl (λ e. trailing-bit d (n / 2) (omega (arith, e)) (half_lt_pow n d k))
  where
    go : (r : ℕ) → n % 2 ≡ r → (n % 2 ≡ 0 → n / 2 / 2 ^ count_trailing_zeros d (n / 2) % 2 ≡ 1)
        → n / 2 ^ under r (count_trailing_zeros d (n / 2)) % 2 ≡ 1
    go zero e ih = ap (λ (x : ℕ). x % 2) (sym (bit_half n (count_trailing_zeros d (n / 2)))) ∙ ih e
    go (suc r) e ih =
        let o : n % 2 ≡ 1 = omega arith in
        bit_first n ∙ o

pub trailing_none : (d n i : ℕ) → i < count_trailing_zeros d n → ¬ (n / 2 ^ i % 2 ≡ 1)
unfolding count_trailing_zeros
trailing_none zero n i l e = absurd (omega arith)
trailing_none (suc d) n i l e = go (n % 2) i refl l e (λ j. trailing_none d (n / 2) j)
  where
    go : (r i : ℕ) → n % 2 ≡ r → i < under r (count_trailing_zeros d (n / 2)) → n / 2 ^ i % 2 ≡ 1
        → ((j : ℕ) → j < count_trailing_zeros d (n / 2) → ¬ (n / 2 / 2 ^ j % 2 ≡ 1)) → ⊥
    go zero zero z h o ih = omega (arith, bit_first n)
    go zero (suc j) z h o ih = ih j (le_of_suc-le-suc h) (ap (λ (x : ℕ). x % 2) (bit_half n j) ∙ o)
    go (suc r) i z h o ih = absurd (omega arith)
