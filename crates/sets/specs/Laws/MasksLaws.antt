-- The bits of bit_and and of a complement, the highest bit, words without bits, and a word without its least bit.
-- Assumes nothing.
use Rattle.std.specs.Prelude.{◌≡◌, ◌⊎◌, ℕ, zero, suc, ◌+◌, ◌-◌, ◌*◌, ◌/◌, ◌%◌, ◌^◌, ◌≤◌, ◌<◌, min}
use Rattle.std.proofs.Common.{sym, ap, ap₂, ◌∙◌, inl, inr, lt_of_le_of_lt, pow-suc, div-one, eq-zero-or-pos, arith}
use Rattle.std.proofs.Common.{shr-shr}
use Rattle.std.proofs.Math.Nat.{min-le_left, min-le_right}
use Rattle.std.proofs.Math.Arith.{digits_mod}
use Rattle.std.proofs.Math.Pow.{high}
use Rattle.std.specs.Int.Bits.{bit_and, bit_or, and_step, or_add_and, or_zero_r}
use Rattle.std.proofs.lemmas.Nat.{and_shr, and_le_l, and_le_r}
use Rattle.lts.proofs.TestsLaws.{lt_or_le}
use Rattle.sets.specs.Inner.Sets.{word_bits, FirstBit}
use Rattle.sets.specs.Laws.BitsLaws.{bit_half, bit_first, bit-zero, or_of_bits}

and_odd : (a b : ℕ) → bit_and a b % 2 ≡ min (a % 2) (b % 2)
and_odd a b =
    let l : a % 2 < 2 = omega arith in
    ap (λ (x : ℕ). x % 2) (and_step a b)
    ∙ digits_mod (bit_and (a / 2) (b / 2)) (lt_of_le_of_lt (min-le_left (a % 2) (b % 2)) l)

bit-and : (a b i : ℕ) → bit_and a b / 2 ^ i % 2 ≡ min (a / 2 ^ i % 2) (b / 2 ^ i % 2)
bit-and a b i = ap (λ (x : ℕ). x % 2) (and_shr a b i) ∙ and_odd (a / 2 ^ i) (b / 2 ^ i)

pub bit-and_intro : (a b i : ℕ) → a / 2 ^ i % 2 ≡ 1 → b / 2 ^ i % 2 ≡ 1 → bit_and a b / 2 ^ i % 2 ≡ 1
bit-and_intro a b i d e = bit-and a b i ∙ ap₂ min d e

pub bit-and_left : (a b i : ℕ) → bit_and a b / 2 ^ i % 2 ≡ 1 → a / 2 ^ i % 2 ≡ 1
bit-and_left a b i e = omega (arith, bit-and a b i, e, min-le_left (a / 2 ^ i % 2) (b / 2 ^ i % 2))

pub bit-and_right : (a b i : ℕ) → bit_and a b / 2 ^ i % 2 ≡ 1 → b / 2 ^ i % 2 ≡ 1
bit-and_right a b i e = omega (arith, bit-and a b i, e, min-le_right (a / 2 ^ i % 2) (b / 2 ^ i % 2))

complement_odd : (n p w : ℕ) → n ≡ p * 2 → w < n → (n - 1 - w) % 2 + w % 2 ≡ 1
complement_odd n p w e l = omega arith

-- Of bit i of a word and of its complement, one is set.
pub bit_complement : (k w i : ℕ) → w < 2 ^ k → i < k → (2 ^ k - 1 - w) / 2 ^ i % 2 + w / 2 ^ i % 2 ≡ 1
bit_complement zero w i l m = absurd (omega arith)
bit_complement (suc k) w zero l m =
    ap₂ (λ (x y : ℕ). x + y) (bit_first (2 ^ suc k - 1 - w)) (bit_first w)
    ∙ complement_odd (2 ^ suc k) (2 ^ k) w (pow-suc 2 k) l
bit_complement (suc k) w (suc i) l m =
    let p : 2 ^ suc k ≡ 2 ^ k * 2 = pow-suc 2 k in
    let half : (2 ^ suc k - 1 - w) / 2 ≡ 2 ^ k - 1 - w / 2 = omega arith in
    let ih = bit_complement k (w / 2) i (omega arith) (omega arith) in
    ap₂ (λ (x y : ℕ). x % 2 + y % 2)
    (sym (bit_half (2 ^ suc k - 1 - w) i) ∙ ap (λ (x : ℕ). x / 2 ^ i) half) (sym (bit_half w i))
    ∙ ih

-- The highest bit.
pub bit_top : (w j : ℕ) → 2 ^ j ≤ w → w < 2 ^ suc j → w / 2 ^ j % 2 ≡ 1
bit_top w j l m =
    let p : 2 ^ suc j ≡ 2 ^ j * 2 = pow-suc 2 j in
    let rest : w - 2 ^ j < 2 ^ j = omega arith in
    let e : w ≡ 1 * 2 ^ j + (w - 2 ^ j) = omega arith in
    ap (λ (x : ℕ). x % 2) (ap (λ (x : ℕ). x / 2 ^ j) e ∙ high 1 j rest)

pub or_zero_left : (a b : ℕ) → bit_or a b ≡ 0 → a ≡ 0
or_zero_left a b e = omega (arith, e, or_add_and a b, and_le_l a b, and_le_r a b)

pub or_zero_right : (a b : ℕ) → bit_or a b ≡ 0 → b ≡ 0
or_zero_right a b e = omega (arith, e, or_add_and a b, and_le_l a b, and_le_r a b)

pub zero_of_bits : (w : ℕ) → w < 2 ^ word_bits → ((i : ℕ) → i < word_bits → ¬ (w / 2 ^ i % 2 ≡ 1)) → w ≡ 0
zero_of_bits w fits f =
    sym (or_zero_r w) ∙ or_of_bits word_bits w 0 fits (λ i l b. absurd (f i l b))

-- ---- the least bit taken away

-- One less is one less above zeros.
pred_shr : (i w : ℕ) → 0 < w → ((y : ℕ) → y < i → ¬ (w / 2 ^ y % 2 ≡ 1)) → (w - 1) / 2 ^ i ≡ w / 2 ^ i - 1
pred_shr zero w l f = div-one (w - 1) ∙ ap (λ (x : ℕ). x - 1) (sym (div-one w))
pred_shr (suc i) w l f =
    let first : ¬ (w / 2 ^ 0 % 2 ≡ 1) = f 0 (omega arith) in
    let even : ¬ (w % 2 ≡ 1) = λ e. first (bit_first w ∙ e) in
    let half : (w - 1) / 2 ≡ w / 2 - 1 = omega (arith, l, even) in
    let some : 0 < w / 2 = omega (arith, l, even) in
    sym (bit_half (w - 1) i) ∙ ap (λ (x : ℕ). x / 2 ^ i) half
    ∙ pred_shr i (w / 2) some
    (λ y k e. f (suc y) (omega (arith, k)) (sym (ap (λ (x : ℕ). x % 2) (bit_half w y)) ∙ e))
    ∙ ap (λ (x : ℕ). x - 1) (bit_half w i)

module _ {w i : ℕ} (n : FirstBit w i) (l : i < word_bits) where
  odd : w / 2 ^ i % 2 ≡ 1
  odd = n.set l

  pred : (w - 1) / 2 ^ i ≡ w / 2 ^ i - 1
  pred = pred_shr i w (some (eq-zero-or-pos w)) n.none_before
    where
      some : (w ≡ 0) ⊎ (0 < w) → 0 < w
      some (inl e) = absurd (bit-zero i (ap (λ (x : ℕ). x / 2 ^ i % 2) (sym e) ∙ odd))
      some (inr p) = p

  -- The least bit is gone,
  pub dropped_bit : ¬ (bit_and w (w - 1) / 2 ^ i % 2 ≡ 1)
  dropped_bit e = absurd (omega (arith, odd, pred, bit-and_right w (w - 1) i e))

  -- and the others stay.
  pub dropped_other : (j : ℕ) → ¬ (j ≡ i) → w / 2 ^ j % 2 ≡ 1 → bit_and w (w - 1) / 2 ^ j % 2 ≡ 1
  dropped_other j d b = bit-and_intro w (w - 1) j b (go (lt_or_le i j))
    where
      halves : (w - 1) / 2 ^ i / 2 ≡ w / 2 ^ i / 2
      halves = omega (arith, odd, pred)

      shr : (v k : ℕ) → i + suc k ≡ j → v / 2 ^ i / 2 / 2 ^ k ≡ v / 2 ^ j
      shr v k e = bit_half (v / 2 ^ i) k ∙ shr-shr v i (suc k) ∙ ap (λ (x : ℕ). v / 2 ^ x) e

      go : (i < j) ⊎ (j ≤ i) → (w - 1) / 2 ^ j % 2 ≡ 1
      go (inl m) =
          let e : i + suc (j - suc i) ≡ j = omega (arith, m) in
          ap (λ (x : ℕ). x % 2) (sym (shr (w - 1) (j - suc i) e) ∙ ap (λ (x : ℕ). x / 2 ^ (j - suc i)) halves
          ∙ shr w (j - suc i) e)
          ∙ b
      go (inr m) = absurd (n.none_before j (omega (arith, m, d)) b)
