-- What the operations on words make of the members of sets.
-- Assumes nothing.
use Rattle.std.specs.Prelude.{◌≡◌, refl, ◌⊎◌, ℕ, zero, suc, ◌+◌, ◌-◌, ◌*◌, ◌/◌, ◌%◌, ◌^◌, ◌≤◌, ◌<◌}
use Rattle.std.proofs.Common.{sym, ap, ◌∙◌, inl, inr, arith}
use Rattle.std.specs.Int.Bits.{bit_and, bit_or}
use Rattle.text.specs.Limits.{state_limit}
use Rattle.lts.proofs.TestsLaws.{eq_or_not, lt_or_le}
use Rattle.sets.specs.declared.set.Set.{Set}
use Rattle.sets.specs.Inner.Sets.{word_bits}
use Rattle.sets.specs.Inner.SetValues.{word_of, In, SetOf}
use Rattle.sets.specs.Laws.BitsLaws.{bit-zero, bit_or_left, bit_or_right, bit_or_cases, bit_pow, bit_pow_unique}
use Rattle.sets.specs.Laws.MasksLaws.{bit-and_intro, bit-and_left, bit-and_right, bit_complement}
use Rattle.sets.specs.Laws.SetValuesLaws.{in_of_bit, bit_of_in, in_of_word, words_lt, set_of-map, set_of_union}

pub set_of_none : SetOf (λ x. ⊥) (0, 0)
set_of_none = record {
  all = λ x b. absurd b;
  only = λ x m. bit-zero (x % word_bits) (bit_of_in (zeros (x / word_bits)) m);
}
  where
    zeros : (h : ℕ) → 0 ≡ word_of (0, 0) h
    zeros zero = refl
    zeros (suc h) = refl

-- Word h has bit i alone, and no other word has a bit.
set_of-bit : {s : Set} (h i : ℕ) {x : ℕ} → x ≡ word_bits * h + i → h < 2 → i < word_bits → word_of s h ≡ 2 ^ i
    → ((z : ℕ) → z < 2 → ¬ (z ≡ h) → word_of s z ≡ 0) → SetOf (λ y. y ≡ x) s
set_of-bit {s} h i {x} c l m e f = record {
  all = λ y d. in_of_word h (d ∙ c) l m (ap (λ (v : ℕ). v / 2 ^ i % 2) e ∙ bit_pow i);
  only = λ y n. one y n (eq_or_not (y / word_bits) h);
}
  where
    one : (y : ℕ) → In s y → (y / word_bits ≡ h) ⊎ ¬ (y / word_bits ≡ h) → y ≡ x
    one y n (inl d) =
        let b = bit_pow_unique i (y % word_bits) (bit_of_in (sym e ∙ ap (word_of s) (sym d)) n) in
        omega (arith, b, c, d)
    one y n (inr d) =
        let e = f (y / word_bits) (omega (arith, n.member_lt)) d in
        absurd (bit-zero (y % word_bits) (bit_of_in (sym e) n))

pub set_of-low : (x : ℕ) → x < word_bits → SetOf (λ y. y ≡ x) (2 ^ x, 0)
set_of-low x l = set_of-bit 0 x (omega arith) (omega arith) l refl other
  where
    other : (z : ℕ) → z < 2 → ¬ (z ≡ 0) → word_of (2 ^ x, 0) z ≡ 0
    other zero k d = absurd (d refl)
    other (suc z) k d = refl

pub set_of-high : (x : ℕ) → word_bits ≤ x → x < state_limit → SetOf (λ y. y ≡ x) (0, 2 ^ (x - word_bits))
set_of-high x l m = set_of-bit 1 (x - word_bits) (omega arith) (omega arith) (omega arith) refl other
  where
    other : (z : ℕ) → z < 2 → ¬ (z ≡ 1) → word_of (0, 2 ^ (x - word_bits)) z ≡ 0
    other zero k d = refl
    other (suc zero) k d = absurd (d refl)
    other (suc (suc z)) k d = absurd (omega (arith, k))

-- The word of x.
abbrev at : Set → ℕ → ℕ
at s x = word_of s (x / word_bits)

module _ (a b : Set) where
  pub set_of_both : SetOf (λ x. In a x × In b x) (bit_and a.0 b.0, bit_and a.1 b.1)
  set_of_both = record {
    all = λ x m. in_of_bit (word (x / word_bits)) m.0.member_lt
        (bit-and_intro (at a x) (at b x) (x % word_bits) m.0.bit_is m.1.bit_is);
    only = λ x m. (
      record {
        member_lt = m.member_lt;
        bit_is = bit-and_left (at a x) (at b x) (x % word_bits) (bit_of_in (word (x / word_bits)) m);
      },
      record {
        member_lt = m.member_lt;
        bit_is = bit-and_right (at a x) (at b x) (x % word_bits) (bit_of_in (word (x / word_bits)) m);
      },
    );
  }
    where
      word : (h : ℕ) → bit_and (word_of a h) (word_of b h) ≡ word_of (bit_and a.0 b.0, bit_and a.1 b.1) h
      word zero = refl
      word (suc h) = refl

  pub set_of_either : SetOf (λ x. In a x ⊎ In b x) (bit_or a.0 b.0, bit_or a.1 b.1)
  set_of_either = record {
    all = all;
    only = λ x m. only x m.member_lt
        (bit_or_cases (at a x) (at b x) (x % word_bits) (bit_of_in (word (x / word_bits)) m));
  }
    where
      word : (h : ℕ) → bit_or (word_of a h) (word_of b h) ≡ word_of (bit_or a.0 b.0, bit_or a.1 b.1) h
      word zero = refl
      word (suc h) = refl

      all : (x : ℕ) → In a x ⊎ In b x → In (bit_or a.0 b.0, bit_or a.1 b.1) x
      all x (inl m) =
          in_of_bit (word (x / word_bits)) m.member_lt (bit_or_left (at a x) (at b x) (x % word_bits) m.bit_is)
      all x (inr m) =
          in_of_bit (word (x / word_bits)) m.member_lt (bit_or_right (at a x) (at b x) (x % word_bits) m.bit_is)

      only : (x : ℕ) → x < state_limit → (at a x / 2 ^ (x % word_bits) % 2 ≡ 1) ⊎ (at b x / 2 ^ (x % word_bits) % 2 ≡ 1)
          → In a x ⊎ In b x
      only x l (inl e) = inl (record { member_lt = l; bit_is = e })
      only x l (inr e) = inr (record { member_lt = l; bit_is = e })

  pub set_of_without : b.0 < 2 ^ word_bits → b.1 < 2 ^ word_bits
      → SetOf (λ x. In a x × ¬ (In b x))
      (bit_and a.0 (2 ^ word_bits - 1 - b.0), bit_and a.1 (2 ^ word_bits - 1 - b.1))
  set_of_without k l = record {
    all = λ x m. in_of_bit (word (x / word_bits)) m.0.member_lt
        (bit-and_intro (at a x) (other x) (x % word_bits) m.0.bit_is (set x m));
    only = λ x m.
        let e = bit_of_in (word (x / word_bits)) m in
        let c = bit-and_right (at a x) (other x) (x % word_bits) e in (
          record { member_lt = m.member_lt; bit_is = bit-and_left (at a x) (other x) (x % word_bits) e },
          λ n. absurd (omega (arith, n.bit_is, c, complement x)),
        );
  }
    where
      other : ℕ → ℕ
      other x = 2 ^ word_bits - 1 - at b x

      word : (h : ℕ) → bit_and (word_of a h) (2 ^ word_bits - 1 - word_of b h)
          ≡ word_of (bit_and a.0 (2 ^ word_bits - 1 - b.0), bit_and a.1 (2 ^ word_bits - 1 - b.1)) h
      word zero = refl
      word (suc h) = refl

      complement : (x : ℕ) → other x / 2 ^ (x % word_bits) % 2 + at b x / 2 ^ (x % word_bits) % 2 ≡ 1
      complement x = bit_complement word_bits (at b x) (x % word_bits) (words_lt k l (x / word_bits)) (omega arith)

      set : (x : ℕ) → In a x × ¬ (In b x) → other x / 2 ^ (x % word_bits) % 2 ≡ 1
      set x m =
          let l = m.0.member_lt in
          let c : ¬ (at b x / 2 ^ (x % word_bits) % 2 ≡ 1) = λ e. m.1 (record { member_lt = l; bit_is = e }) in
          omega (arith, c, complement x)

-- The numbers below x, then x itself.
pub set_of_next : {a b r : Set} {x : ℕ} → SetOf (λ y. y < x) a → SetOf (λ y. y ≡ x) b → SetOf (λ y. In a y ⊎ In b y) r
    → SetOf (λ y. y < x + 1) r
set_of_next {a} {b} {r} {x} m n u = set_of-map to back (set_of_union m n u)
  where
    to : (y : ℕ) → (y < x) ⊎ (y ≡ x) → y < x + 1
    to y (inl l) = omega arith
    to y (inr e) = omega arith

    back : (y : ℕ) → y < x + 1 → (y < x) ⊎ (y ≡ x)
    back y l = go (lt_or_le y x)
      where
        go : (y < x) ⊎ (x ≤ y) → (y < x) ⊎ (y ≡ x)
        go (inl k) = inl k
        go (inr k) = inr (omega arith)
