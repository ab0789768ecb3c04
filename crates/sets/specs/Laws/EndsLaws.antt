-- The least member of a set is the first bit of its first word that has one, the greatest the last bit of its last. One
-- less has all bits above the first, and not the first: a word keeps the others of its own.
-- Assumes nothing.
use Rattle.std.specs.Prelude.{◌≡◌, refl, ◌⊎◌, ℕ, zero, suc, ◌+◌, ◌-◌, ◌*◌, ◌/◌, ◌%◌, ◌^◌, ◌≤◌, ◌<◌}
use Rattle.std.proofs.Common.{sym, ap, ap₂, ◌∙◌, subst, inl, inr, eq-zero-or-pos, arith}
use Rattle.std.specs.Int.Bits.{bit_and, bit_or}
use Rattle.std.specs.Int.Count.{count_trailing_zeros, trailing_of_zero, count_leading_zeros}
use Rattle.std.proofs.lemmas.Nat.{trailing_le, leading_top, and_le_r}
use Rattle.text.specs.Limits.{state_limit}
use Rattle.lts.proofs.TestsLaws.{eq_of_not_lt, eq_or_not, lt_or_le}
use Rattle.sets.specs.declared.set.Set.{Set}
use Rattle.sets.specs.Inner.Sets.{word_bits, FirstBit}
use Rattle.sets.specs.Inner.SetValues.{word_of, In, SetOf, LeastOf, GreatestOf, TakenOut, NoneLeft}
use Rattle.sets.specs.Laws.BitsLaws.{bit-zero, bit_place_lt, trailing-bit, trailing_none}
use Rattle.sets.specs.Laws.MasksLaws.{bit-and_left, bit_top, zero_of_bits, dropped_bit, dropped_other}
use Rattle.sets.specs.Laws.SetValuesLaws.{in_of_bit, bit_of_in, in_of_word, word_of_in, none_of_or}

-- ---- the least member

pub first_bit_trailing : (w : ℕ) → w < 2 ^ word_bits → FirstBit w (count_trailing_zeros word_bits w)
first_bit_trailing w fits = record {
  first_le = trailing_le word_bits w;
  none_before = λ y m. trailing_none word_bits w y m;
  set = λ l. go l (eq-zero-or-pos w);
}
  where
    go : count_trailing_zeros word_bits w < word_bits → (w ≡ 0) ⊎ (0 < w) → w / 2 ^ count_trailing_zeros word_bits w %
        2 ≡ 1
    go l (inl e) = absurd (omega (arith, l, ap (count_trailing_zeros word_bits) e ∙ trailing_of_zero word_bits))
    go l (inr p) = trailing-bit word_bits w p fits

-- A word with a bit has its first one below 64.
pub first_bit_lt : {w x : ℕ} → w < 2 ^ word_bits → ¬ (w ≡ 0) → FirstBit w x → x < word_bits
first_bit_lt {w} {x} fits some n = go (lt_or_le x word_bits)
  where
    go : (x < word_bits) ⊎ (word_bits ≤ x) → x < word_bits
    go (inl l) = l
    go (inr l) = absurd (some (zero_of_bits w fits (λ i k. n.none_before i (omega (arith, l, k)))))

pub least-low : {s : Set} {x : ℕ} → FirstBit s.0 x → x < word_bits → LeastOf s x
least-low n l = record {
  least_le = omega (arith, l);
  none_before = λ y k m. n.none_before y k (word_of_in 0 (omega arith) (omega (arith, k, l)) m);
  member = λ k. in_of_word 0 (omega arith) (omega arith) l (n.set l);
}

pub least-high : {s : Set} {x : ℕ} → s.0 ≡ 0 → FirstBit s.1 x → LeastOf s (word_bits + x)
least-high {s} {x} e n = record {
  least_le = omega (arith, n.first_le);
  none_before = λ y k m. none y k m (lt_or_le y word_bits);
  member = λ k. in_of_word 1 (omega arith) (omega arith) (omega (arith, k)) (n.set (omega (arith, k)));
}
  where
    none : (y : ℕ) → y < word_bits + x → In s y → (y < word_bits) ⊎ (word_bits ≤ y) → ⊥
    none y k m (inl l) =
        bit-zero y (ap (λ (v : ℕ). v / 2 ^ y % 2) (sym e) ∙ word_of_in 0 (omega arith) l m)
    none y k m (inr l) =
        n.none_before (y - word_bits) (omega (arith, k, l))
        (word_of_in 1 (omega (arith, l)) (omega (arith, l, m.member_lt)) m)

least_unique : {s : Set} {x y : ℕ} → LeastOf s x → LeastOf s y → x ≡ y
least_unique {s} {x} {y} m n =
    eq_of_not_lt x y (λ l. n.none_before x l (m.member (omega (arith, l, n.least_le))))
    (λ l. m.none_before y l (n.member (omega (arith, l, m.least_le))))

-- ---- the least member taken out

-- Word h loses its first bit, and the others stay.
dropped : {s r : Set} (h : ℕ) {i p : ℕ} → p ≡ word_bits * h + i → i < word_bits → FirstBit (word_of s h) i
    → word_of r h ≡ bit_and (word_of s h) (word_of s h - 1)
    → ((z : ℕ) → z < 2 → ¬ (z ≡ h) → word_of r z ≡ word_of s z) → SetOf (λ x. In s x × ¬ (x ≡ p)) r
dropped {s} {r} h {i} {p} c l n e f = record {
  all = λ x m. all x m.0 m.1 (eq_or_not (x / word_bits) h);
  only = λ x m. only x m (eq_or_not (x / word_bits) h);
}
  where
    w : ℕ
    w = word_of s h

    here : (x : ℕ) → x / word_bits ≡ h → bit_and w (w - 1) ≡ word_of r (x / word_bits)
    here x d = sym e ∙ ap (word_of r) (sym d)

    all : (x : ℕ) → In s x → ¬ (x ≡ p) → (x / word_bits ≡ h) ⊎ ¬ (x / word_bits ≡ h) → In r x
    all x m g (inl d) =
        let other : ¬ (x % word_bits ≡ i) = λ z. g (omega (arith, z, c, d)) in
        in_of_bit (here x d) m.member_lt
        (dropped_other n l (x % word_bits) other (bit_of_in (ap (word_of s) (sym d)) m))
    all x m g (inr d) = in_of_bit (sym (f (x / word_bits) (omega (arith, m.member_lt)) d)) m.member_lt m.bit_is

    only : (x : ℕ) → In r x → (x / word_bits ≡ h) ⊎ ¬ (x / word_bits ≡ h) → In s x × ¬ (x ≡ p)
    only x m (inl d) =
        let b = bit_of_in (here x d) m in (
          in_of_bit (ap (word_of s) (sym d)) m.member_lt (bit-and_left w (w - 1) (x % word_bits) b),
          λ g.
              let z : i ≡ x % word_bits = omega (arith, g, c, l) in
              dropped_bit n l (ap (λ (y : ℕ). bit_and w (w - 1) / 2 ^ y % 2) z ∙ b),
        )
    only x m (inr d) = (
      in_of_bit (f (x / word_bits) (omega (arith, m.member_lt)) d) m.member_lt m.bit_is,
      λ g. d (omega (arith, g, c, l)),
    )

module _ {s : Set} (p : ℕ) (m : LeastOf s p) where
  pub dropped_low : s.0 < 2 ^ word_bits → ¬ (s.0 ≡ 0)
      → SetOf (λ x. In s x × ¬ (x ≡ p)) (bit_and s.0 (s.0 - 1), s.1)
  dropped_low fits some =
      let n = first_bit_trailing s.0 fits in
      let l = first_bit_lt fits some n in
      let e = least_unique m (least-low n l) in
      dropped 0 (omega (arith, e)) l n refl other
    where
      other : (z : ℕ) → z < 2 → ¬ (z ≡ 0) → word_of (bit_and s.0 (s.0 - 1), s.1) z ≡ word_of s z
      other zero k d = absurd (d refl)
      other (suc z) k d = refl

  pub dropped_second : s.0 ≡ 0 → s.1 < 2 ^ word_bits → ¬ (s.1 ≡ 0)
      → SetOf (λ x. In s x × ¬ (x ≡ p)) (s.0, bit_and s.1 (s.1 - 1))
  dropped_second first fits some =
      let n = first_bit_trailing s.1 fits in
      let l = first_bit_lt fits some n in
      let e = least_unique m (least-high first n) in
      dropped 1 (omega (arith, e)) l n refl other
    where
      other : (z : ℕ) → z < 2 → ¬ (z ≡ 1) → word_of (s.0, bit_and s.1 (s.1 - 1)) z ≡ word_of s z
      other zero k d = refl
      other (suc zero) k d = absurd (d refl)
      other (suc (suc z)) k d = absurd (omega (arith, k))

  -- The same with the 0 of the first word written out.
  pub dropped_high : s.0 ≡ 0 → s.1 < 2 ^ word_bits → ¬ (s.1 ≡ 0)
      → SetOf (λ x. In s x × ¬ (x ≡ p)) (0, bit_and s.1 (s.1 - 1))
  dropped_high first fits some =
      subst (λ (w : ℕ). SetOf (λ x. In s x × ¬ (x ≡ p)) (w, bit_and s.1 (s.1 - 1))) first
      (dropped_second first fits some)

  pub dropped_none : s.0 ≡ 0 → s.1 ≡ 0 → SetOf (λ x. In s x × ¬ (x ≡ p)) s
  dropped_none first second = record {
    all = λ x i. i.0;
    only = λ x i. absurd (none_of_or (ap₂ bit_or first second) x i);
  }

pub taken_low : {s : Set} → s.0 < 2 ^ word_bits → ¬ (s.0 ≡ 0)
    → TakenOut s (count_trailing_zeros word_bits s.0) (bit_and s.0 (s.0 - 1), s.1)
taken_low {s} fits some =
    let n = first_bit_trailing s.0 fits in
    let l = first_bit_lt fits some n in
    let m = least-low n l in
    record {
      taken = m.member (omega (arith, l));
      least = m;
      left = dropped_low _ m fits some;
      fewer = omega (arith, and_le_r s.0 (s.0 - 1), some);
    }

pub taken_high : {s : Set} → s.0 ≡ 0 → s.1 < 2 ^ word_bits → ¬ (s.1 ≡ 0)
    → TakenOut s (word_bits + count_trailing_zeros word_bits s.1) (s.0, bit_and s.1 (s.1 - 1))
taken_high {s} first fits some =
    let n = first_bit_trailing s.1 fits in
    let l = first_bit_lt fits some n in
    let m = least-high first n in
    record {
      taken = m.member (omega (arith, l));
      least = m;
      left = dropped_second _ m first fits some;
      fewer = omega (arith, and_le_r s.1 (s.1 - 1), some);
    }

pub none_left : {s : Set} → s.0 ≡ 0 → s.1 ≡ 0 → NoneLeft s s
none_left first second = record { none = none_of_or (ap₂ bit_or first second); same = refl }

-- ---- the greatest member

pub leading_lt : (w : ℕ) → w < 2 ^ word_bits → ¬ (w ≡ 0) → count_leading_zeros word_bits w < word_bits
leading_lt w fits some =
    let t = leading_top word_bits w (omega (arith, some)) fits in
    omega (arith, t.1)

-- The last bit of the second word,
pub greatest-high : {s : Set} → s.1 < 2 ^ word_bits → ¬ (s.1 ≡ 0) → GreatestOf s
    (127 - count_leading_zeros word_bits s.1)
greatest-high {s} fits some =
    let t = leading_top word_bits s.1 (omega (arith, some)) fits in
    let e : 127 - count_leading_zeros word_bits s.1 ≡ word_bits + t.0 = omega (arith, t.1) in
    subst (GreatestOf s) (sym e) (top t.0 (omega (arith, t.1)) t.2 t.3)
  where
    top : (j : ℕ) → j < word_bits → 2 ^ j ≤ s.1 → s.1 < 2 ^ suc j → GreatestOf s (word_bits + j)
    top j l m n = record {
      greatest_le = omega (arith, l);
      none_after = λ y b. (omega (arith, l), after y b (lt_or_le y word_bits));
      member = λ k. in_of_word 1 (omega arith) (omega arith) l (bit_top s.1 j m n);
    }
      where
        after : (y : ℕ) → In s y → (y < word_bits) ⊎ (word_bits ≤ y) → y ≤ word_bits + j
        after y b (inl k) = omega (arith, k)
        after y b (inr k) =
            let c = word_of_in 1 {i = y - word_bits} (omega (arith, k)) (omega (arith, k, b.member_lt)) b in
            let z = bit_place_lt (suc j) (y - word_bits) n c in
            omega (arith, z, k)

-- or of the first, where the second has none,
pub greatest-low : {s : Set} → s.1 ≡ 0 → s.0 < 2 ^ word_bits → ¬ (s.0 ≡ 0)
    → GreatestOf s (63 - count_leading_zeros word_bits s.0)
greatest-low {s} d fits some =
    let t = leading_top word_bits s.0 (omega (arith, some)) fits in
    let e : 63 - count_leading_zeros word_bits s.0 ≡ t.0 = omega (arith, t.1) in
    subst (GreatestOf s) (sym e) (top t.0 (omega (arith, t.1)) t.2 t.3)
  where
    top : (j : ℕ) → j < word_bits → 2 ^ j ≤ s.0 → s.0 < 2 ^ suc j → GreatestOf s j
    top j l m n = record {
      greatest_le = omega (arith, l);
      none_after = λ y b. (omega (arith, l), after y b (lt_or_le y word_bits));
      member = λ k. in_of_word 0 (omega arith) (omega arith) l (bit_top s.0 j m n);
    }
      where
        after : (y : ℕ) → In s y → (y < word_bits) ⊎ (word_bits ≤ y) → y ≤ j
        after y b (inl k) =
            let z = bit_place_lt (suc j) y n (word_of_in 0 (omega arith) k b) in
            omega (arith, z)
        after y b (inr k) =
            let c = word_of_in 1 {i = y - word_bits} (omega (arith, k)) (omega (arith, k, b.member_lt)) b in
            absurd (bit-zero (y - word_bits) (ap (λ (v : ℕ). v / 2 ^ (y - word_bits) % 2) (sym d) ∙ c))

-- or none.
pub greatest_none : {s : Set} → s.1 ≡ 0 → s.0 ≡ 0 → GreatestOf s state_limit
greatest_none {s} d e = record {
  greatest_le = omega arith;
  none_after = λ y m. absurd (none_of_or (ap₂ bit_or e d) y m);
  member = λ k. absurd (omega (arith, k));
}
