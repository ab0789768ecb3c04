-- The round that separated class c from another one, y. Where y is under c, it is the round when the part of c that y
-- is under was divided off; where it is not, it is the meet of the round that separated y from c's origin and the round
-- when c was divided off. Assumes nothing.
use Rattle.std.specs.Prelude.{List, ◌⊎◌, ◌≡◌, refl, ℕ, zero, suc, ◌≤◌, ◌<◌, get_or}
use Rattle.std.proofs.Common.{inl, inr, sym, ap, ◌∙◌, eq-zero-or-pos, arith}
use Rattle.std.proofs.Math.Nat.{min-eq_left, min-eq_right}
use Rattle.lts.proofs.TestsLaws.{eq_or_not, lt_or_le}
use Rattle.tree.specs.Inner.Tree.{Under, same, off, Tree, Apart, meet}

-- ---- the meet

pub meet-zero : {o : ℕ} (w : ℕ) → o ≡ 0 → meet o w ≡ w
meet-zero w e = ap (λ (x : ℕ). meet x w) e

pub meet_left : (o w : ℕ) → 0 < o → o ≤ w → meet o w ≡ o
meet_left zero w p l = absurd (omega arith)
meet_left (suc o) w p l = min-eq_left l

pub meet_right : (o w : ℕ) → w ≤ o → meet o w ≡ w
meet_right zero w l = refl
meet_right (suc o) w l = min-eq_right l

-- ---- classes under a class

-- A class under e is under e's origin.
pub under_origin : {origin : List ℕ} {e y : ℕ} → 0 < e → Under origin e y → Under origin (get_or origin e 0) y
under_origin {origin} {e} {y} p (same d) =
    let q : 0 < y = omega (arith, p, d) in
    off q (same (ap (λ (x : ℕ). get_or origin x 0) d))
under_origin p (off q u) = off q (under_origin p u)

-- A class under c and not c itself is under a class that was divided off c.
pub part_of-under : {origin : List ℕ} {c y : ℕ} → Under origin c y → ¬ (y ≡ c)
    → (e : ℕ) × (0 < e) × (get_or origin e 0 ≡ c) × Under origin e y
part_of-under (same d) f = absurd (f d)
part_of-under {origin} {c} {y} (off p u) f = go (eq_or_not (get_or origin y 0) c) (part_of-under u)
  where
    go : (get_or origin y 0 ≡ c) ⊎ ¬ (get_or origin y 0 ≡ c)
        → (¬ (get_or origin y 0 ≡ c) → (e : ℕ) × (0 < e) × (get_or origin e 0 ≡ c) × Under origin e (get_or origin y 0))
        → (e : ℕ) × (0 < e) × (get_or origin e 0 ≡ c) × Under origin e y
    go (inl d) _ = (y, p, d, same refl)
    go (inr d) r = let s = r d in (s.0, s.1, s.2, off p s.3)

module _ {classes : ℕ} {origin when : List ℕ} (T : Tree classes origin when) where
  pub under_le : {e y : ℕ} → y < classes → Under origin e y → e ≤ y
  under_le l (same d) = omega (arith, d)
  under_le {e} {y} l (off p u) =
      let o = T.origin_lt y p l in
      omega (arith, o, under_le (omega (arith, o, l)) u)

  -- What holds of a class where it holds of all before it holds of all classes.
  pub by_rise : (P : ℕ → Type 0) → ((y : ℕ) → y < classes → ((x : ℕ) → x < y → P x) → P y) → (y : ℕ) → y < classes → P y
  by_rise P step y l = step y l (below y (omega (arith, l)))
    where
      below : (m : ℕ) → m ≤ classes → (x : ℕ) → x < m → P x
      below zero k x h = absurd (omega arith)
      below (suc m) k x h = step x (omega arith) (λ z j. below m (omega arith) z (omega arith))

  -- All classes are under class 0.
  pub under_zero : (y : ℕ) → y < classes → Under origin 0 y
  under_zero = by_rise (Under origin 0) (λ y l r. go y l r (eq-zero-or-pos y))
    where
      go : (y : ℕ) → y < classes → ((x : ℕ) → x < y → Under origin 0 x) → (y ≡ 0) ⊎ (0 < y) → Under origin 0 y
      go y l r (inl e) = same e
      go y l r (inr p) = off p (r (get_or origin y 0) (T.origin_lt y p l))

-- ---- the round that separated two classes

module _ {classes : ℕ} {origin when : List ℕ} {apart : ℕ → ℕ → ℕ} (T : Tree classes origin when)
    (A : Apart classes origin when apart) where
  -- Class e was divided off: its origin was separated then from all that is under e.
  pub apart_of_part : {e y : ℕ} → 0 < e → y < classes → Under origin e y → apart (get_or origin e 0) y ≡ get_or when e 0
  apart_of_part {e} {y} p l (same d) =
      let o = T.origin_lt e p (omega (arith, d, l)) in
      A.both_ways (get_or origin e 0) y (omega (arith, o, d, l)) l
      ∙ ap (λ (x : ℕ). apart x (get_or origin e 0)) d
      ∙ A.off e p (omega (arith, d, l))
  apart_of_part {e} {y} p l (off q u) =
      let o = T.origin_lt y q l in
      let le = under_le T (omega (arith, o, l)) u in
      let b = T.origin_lt e p (omega (arith, o, le, l)) in
      A.with_origin (get_or origin e 0) y (omega (arith, o, le, b)) l (λ d. omega (arith, d, le, b))
      ∙ apart_of_part p (omega (arith, o, l)) u

  -- A class was separated from each one before it in a round, at the latest when it was divided off itself.
  apart_bounds : (d : ℕ) → d < classes → (c : ℕ) → c < d → (0 < apart c d) × (apart c d ≤ get_or when d 0)
  apart_bounds =
      by_rise T (λ d. (c : ℕ) → c < d → (0 < apart c d) × (apart c d ≤ get_or when d 0))
      (λ d l r c k. go d l r c k (eq_or_not c (get_or origin d 0)) (lt_or_le c (get_or origin d 0)))
    where
      go : (d : ℕ) → d < classes
          → ((x : ℕ) → x < d → (c : ℕ) → c < x → (0 < apart c x) × (apart c x ≤ get_or when x 0))
          → (c : ℕ) → c < d → (c ≡ get_or origin d 0) ⊎ ¬ (c ≡ get_or origin d 0)
          → (c < get_or origin d 0) ⊎ (get_or origin d 0 ≤ c) → (0 < apart c d) × (apart c d ≤ get_or when d 0)
      go d l r c k (inl e) _ =
          let v : apart c d ≡ get_or when d 0 = A.both_ways c d (omega arith) l ∙ ap (apart d) e
          ∙ A.off d (omega arith) l in
          (omega (arith, v, T.when_pos d (omega arith) l), omega (arith, v))
      go d l r c k (inr f) (inl b) =
          let o = T.origin_lt d (omega arith) l in
          let v = A.with_origin c d k l f in
          let h = r (get_or origin d 0) o c b in
          let w = T.when_le (get_or origin d 0) d (omega (arith, b)) (omega (arith, o)) l in
          (omega (arith, v, h.0), omega (arith, v, h.1, w))
      go d l r c k (inr f) (inr b) =
          let o = T.origin_lt d (omega arith) l in
          let v = A.with_origin c d k l f ∙ A.both_ways c (get_or origin d 0) (omega arith) (omega (arith, o, l)) in
          let h = r c k (get_or origin d 0) (omega (arith, b, f)) in
          let w = T.when_le c d (omega (arith, b, f)) (omega (arith, k)) l in
          (omega (arith, v, h.0), omega (arith, v, h.1, w))

  -- Two classes below c were separated in a round, at the latest when c was divided off.
  apart_below : {c d e : ℕ} → c < classes → d < c → e < c → ¬ (d ≡ e) → (0 < apart d e) × (apart d e ≤ get_or when c 0)
  apart_below {c} {d} {e} l k m f = go (lt_or_le d e)
    where
      go : (d < e) ⊎ (e ≤ d) → (0 < apart d e) × (apart d e ≤ get_or when c 0)
      go (inl b) =
          let h = apart_bounds e (omega arith) d b in
          (h.0, omega (arith, h.1, T.when_le e c (omega arith) (omega arith) l))
      go (inr b) =
          let h = apart_bounds d (omega arith) e (omega (arith, b, f)) in
          let v = A.both_ways d e (omega arith) (omega arith) in
          (omega (arith, v, h.0), omega (arith, v, h.1, T.when_le d c (omega (arith, b, f)) (omega arith) l))

  -- Class c and one that is not under it.
  module _ {c : ℕ} (p : 0 < c) (l : c < classes) where
    abbrev o : ℕ
    o = get_or origin c 0

    abbrev w : ℕ
    w = get_or when c 0

    below_c : o < c
    below_c = T.origin_lt c p l

    apart_before : {y : ℕ} → y < c → apart c y ≡ meet (apart o y) w
    apart_before {y} k = go (eq_or_not y o)
      where
        go : (y ≡ o) ⊎ ¬ (y ≡ o) → apart c y ≡ meet (apart o y) w
        go (inl e) =
            ap (apart c) e ∙ A.off c p l
            ∙ sym (meet-zero w (ap (apart o) e ∙ A.same o (omega (arith, below_c, l))))
        go (inr f) =
            let b = apart_below l below_c k (λ e. f (sym e)) in
            A.both_ways c y l (omega arith) ∙ A.with_origin y c k l f
            ∙ A.both_ways y o (omega arith) (omega (arith, below_c, l)) ∙ sym (meet_left (apart o y) w b.0 b.1)

    apart_after_holds : {y : ℕ} → c < y → y < classes → ¬ (c ≡ get_or origin y 0)
        → apart c (get_or origin y 0) ≡ meet (apart o (get_or origin y 0)) w → apart c y ≡ meet (apart o y) w
    apart_after_holds {y} k m f r = A.with_origin c y k m f ∙ go (eq_or_not o (get_or origin y 0))
      where
        go : (o ≡ get_or origin y 0) ⊎ ¬ (o ≡ get_or origin y 0) → apart c (get_or origin y 0) ≡ meet (apart o y) w
        go (inl e) =
            let v : apart o y ≡ get_or when y 0 = A.both_ways o y (omega (arith, below_c, l)) m ∙ ap (apart y) e
            ∙ A.off y (omega arith) m in
            ap (apart c) (sym e) ∙ A.off c p l
            ∙ sym (meet_right (apart o y) w (omega (arith, v, T.when_le c y p (omega arith) m)))
        go (inr g) = r ∙ ap (λ (x : ℕ). meet x w) (sym (A.with_origin o y (omega (arith, below_c, k)) m g))

    pub apart_of_other : (y : ℕ) → y < classes → ¬ (Under origin c y)
        → apart c y ≡ meet (apart (get_or origin c 0) y) (get_or when c 0)
    apart_of_other =
        by_rise T (λ y. ¬ (Under origin c y) → apart c y ≡ meet (apart o y) w)
        (λ y m r f. go y m r f (lt_or_le y c))
      where
        go : (y : ℕ) → y < classes
            → ((x : ℕ) → x < y → ¬ (Under origin c x) → apart c x ≡ meet (apart o x) w) → ¬ (Under origin c y)
            → (y < c) ⊎ (c ≤ y) → apart c y ≡ meet (apart o y) w
        go y m r f (inl k) = apart_before k
        go y m r f (inr k) =
            let other : ¬ (y ≡ c) = λ e. f (same e) in
            let pos : 0 < y = omega (arith, p, k) in
            apart_after_holds (omega (arith, k, other)) m (λ e. f (off pos (same (sym e))))
            (r (get_or origin y 0) (T.origin_lt y pos m) (λ u. f (off pos u)))
