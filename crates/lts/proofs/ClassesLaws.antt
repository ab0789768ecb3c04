-- Each round that separates a pair adds a class: the larger of the two states that are lowest afterwards is a new
-- representative. So some round before the n-th separates no pair. Document 01, "Rank". Assumes nothing.
use Rattle.std.specs.Prelude.{◌≡◌, ◌⊎◌, Bool, not, ◌&&◌, ℕ, zero, suc, ◌≤◌, ◌<◌, T}
use Rattle.std.proofs.Common.{inl, inr, not-suc-le-zero, arith, T_not}
use Rattle.std.proofs.Math.Dec.{not_T}
use Rattle.lts.specs.Tests.{any}
use Rattle.lts.proofs.TestsLaws.{T_cases, and_intro, and_left, and_right, lt_or_le, eq_of_not_lt, le_of_not_lt}
use Rattle.lts.proofs.TestsLaws.{all→Each, Each→all, any→Some, not_any→Each, count_le, count_lt-count, count_pos}
use Rattle.lts.proofs.TestsLaws.{least_of_passes}
use Rattle.lts.specs.Alike.{Moves, Alike}
use Rattle.lts.proofs.AlikeLaws.{alike_suc, alike_refl, alike_sym, alike_trans}
use Rattle.lts.specs.Game.{Game, alike?, Settled, Separates}
use Rattle.lts.proofs.GameLaws.{alike?→Alike, Alike→alike?, ¬Alike→not_alike?, not_alike?→¬Alike}
use Rattle.lts.specs.Classes.{Class, lowest?, classes}

-- ---- the class of a state

module _ (Move : Moves) where
  pub class_le : (k p c : ℕ) → Class Move k p c → c ≤ p
  class_le k p c x = le_of_not_lt c p (λ l. x.lowest p l (alike_refl Move k p))

  -- k-alike states have one class.
  pub class_unique : (k p q c d : ℕ) → Alike Move k p q → Class Move k p c → Class Move k q d → c ≡ d
  class_unique k p q c d h x y = eq_of_not_lt c d
      (λ l. y.lowest c l (alike_trans Move k c p q x.alike h))
      (λ l. x.lowest d l (alike_trans Move k d q p y.alike (alike_sym Move k p q h)))

  -- States of one class are k-alike.
  pub alike_of_class : (k p q c : ℕ) → Class Move k p c → Class Move k q c → Alike Move k p q
  alike_of_class k p q c x y = alike_trans Move k p c q (alike_sym Move k c p x.alike) y.alike

-- ---- the classes, counted

module _ (Move : Moves) (n : ℕ) (round : (ℕ → ℕ → Bool) → ℕ → ℕ → Bool) (G : Game Move n round) where
  pub lowest?→¬Alike : (k i : ℕ) → T (lowest? round k i) → (q : ℕ) → q < i → ¬ (Alike Move k q i)
  lowest?→¬Alike k i t q l = not_alike?→¬Alike Move n round G k q i (all→Each i (λ q. not (alike? round k q i)) t q l)

  ¬Alike→lowest? : (k i : ℕ) → ((q : ℕ) → q < i → ¬ (Alike Move k q i)) → T (lowest? round k i)
  ¬Alike→lowest? k i f =
      Each→all i (λ q. not (alike? round k q i)) (λ q l. ¬Alike→not_alike? Move n round G k q i (f q l))

  -- A representative stays one.
  lowest_suc : (k i : ℕ) → T (lowest? round k i) → T (lowest? round (suc k) i)
  lowest_suc k i t = ¬Alike→lowest? (suc k) i (λ q l h. lowest?→¬Alike k i t q l (alike_suc Move k q i h))

  pub class_exists : (k p : ℕ) → (c : ℕ) × Class Move k p c
  class_exists k p =
      let s = least_of_passes (λ q. alike? round k q p) p (Alike→alike? Move n round G k p p (alike_refl Move k p)) in (
        s.0,
        record {
          alike = alike?→Alike Move n round G k s.0 p s.2.passes;
          lowest = λ q l. not_alike?→¬Alike Move n round G k q p (s.2.none_below q l);
        },
      )

  class_lowest : (k p c : ℕ) → Class Move k p c → T (lowest? round k c)
  class_lowest k p c x = ¬Alike→lowest? k c (λ q l h. x.lowest q l (alike_trans Move k q c p h x.alike))

  -- A state with a lower one k-alike to it represents nothing.
  not_lowest : (k i j : ℕ) → i < j → Alike Move k i j → T (not (lowest? round k j))
  not_lowest k i j l h = not_T (lowest? round k j) (λ t. lowest?→¬Alike k j t i l h)

  -- Each round that separates a pair adds a class.
  pub classes_lt : (k : ℕ) → Separates Move n k → classes round n k < classes round n (suc k)
  classes_lt k s = go (class_exists (suc k) s.one) (class_exists (suc k) s.other)
    where
      -- y, lowest after the round, was not before it: x below it was k-alike to it
      new : (x y z : ℕ) → z < n → Class Move (suc k) z y → x < y → Alike Move k x y
          → classes round n k < classes round n (suc k)
      new x y z l m g h =
          let c : y ≤ z = class_le Move (suc k) z y m in
          count_lt-count n (lowest? round k) (lowest? round (suc k)) (λ i _. lowest_suc k i) y (omega arith)
          (not_lowest k x y g h) (class_lowest (suc k) z y m)

      near : (x y : ℕ) → Alike Move (suc k) x s.one → Alike Move (suc k) y s.other → Alike Move k x y
      near x y f g = alike_trans Move k x s.one y (alike_suc Move k x s.one f)
          (alike_trans Move k s.one s.other y s.alike
          (alike_sym Move k y s.other (alike_suc Move k y s.other g)))

      go : (c : ℕ) × Class Move (suc k) s.one c → (c : ℕ) × Class Move (suc k) s.other c
          → classes round n k < classes round n (suc k)
      go (x, f) (y, g) = cases (lt_or_le x y) (lt_or_le y x)
        where
          cases : (x < y) ⊎ (y ≤ x) → (y < x) ⊎ (x ≤ y) → classes round n k < classes round n (suc k)
          cases (inl l) d = new x y s.other s.other_lt g l (near x y f.alike g.alike)
          cases (inr l) (inl d) =
              new y x s.one s.one_lt f d (alike_sym Move k x y (near x y f.alike g.alike))
          cases (inr l) (inr d) = absurd (s.not_alike (alike_trans Move (suc k) s.one y s.other
              (rw e at (alike_sym Move (suc k) x s.one f.alike)) g.alike))
            where
              e : x ≡ y
              e = omega arith

  classes_pos : 0 < n → 0 < classes round n 0
  classes_pos pos = count_pos n (lowest? round 0) 0 pos
      (Each→all 0 (λ q. not (alike? round 0 q 0)) (λ i l. absurd (not-suc-le-zero l)))

  -- After k separating rounds there are more than k classes.
  pub classes_gt : 0 < n → (k : ℕ) → ((j : ℕ) → j < k → Separates Move n j) → k < classes round n k
  classes_gt pos zero h = classes_pos pos
  classes_gt pos (suc k) h =
      omega (arith, classes_gt pos k (λ j l. h j (omega arith)), classes_lt k (h k (omega arith)))

  -- There are fewer separating rounds than states.
  pub rounds_lt : 0 < n → (k : ℕ) → ((j : ℕ) → j < k → Separates Move n j) → k < n
  rounds_lt pos k h = omega (arith, classes_gt pos k h, count_le n (lowest? round k))

  -- ---- whether a round separates a pair

  -- The round after the k-th separates p and q.
  abbrev separates_pair? : ℕ → ℕ → ℕ → Bool
  separates_pair? k p q = alike? round k p q && not (alike? round (suc k) p q)

  abbrev separates? : ℕ → Bool
  separates? k = any n (λ p. any n (λ q. separates_pair? k p q))

  separates?→Separates : (k : ℕ) → T (separates? k) → Separates Move n k
  separates?→Separates k t =
      let x = any→Some n (λ p. any n (λ q. separates_pair? k p q)) t in
      let p = x.0 in
      let y = any→Some n (λ q. separates_pair? k p q) x.2 in
      let q = y.0 in
      let u : T (alike? round k p q) = and_left (alike? round k p q) (not (alike? round (suc k) p q)) y.2 in
      let v = and_right (alike? round k p q) (not (alike? round (suc k) p q)) y.2 in
      record {
        one = p;
        other = q;
        one_lt = x.1;
        other_lt = y.1;
        alike = alike?→Alike Move n round G k p q u;
        not_alike = not_alike?→¬Alike Move n round G (suc k) p q v;
      }

  not_separates?→Settled : (k : ℕ) → T (not (separates? k)) → Settled Move n k
  not_separates?→Settled k t p q lp lq h = go (T_cases (alike? round (suc k) p q))
    where
      row : T (not (any n (λ q. separates_pair? k p q)))
      row = not_any→Each n (λ p. any n (λ q. separates_pair? k p q)) t p lp

      none : T (not (separates_pair? k p q))
      none = not_any→Each n (λ q. separates_pair? k p q) row q lq

      go : T (alike? round (suc k) p q) ⊎ T (not (alike? round (suc k) p q)) → Alike Move (suc k) p q
      go (inl u) = alike?→Alike Move n round G (suc k) p q u
      go (inr u) = absurd (T_not (separates_pair? k p q) none
          (and_intro (alike? round k p q) (not (alike? round (suc k) p q)) (Alike→alike? Move n round G k p q h) u))

  pub separates_or_settled : (k : ℕ) → Separates Move n k ⊎ Settled Move n k
  separates_or_settled k = go (T_cases (separates? k))
    where
      go : T (separates? k) ⊎ T (not (separates? k)) → Separates Move n k ⊎ Settled Move n k
      go (inl t) = inl (separates?→Separates k t)
      go (inr t) = inr (not_separates?→Settled k t)

  -- One of the first k rounds separated no pair, or there are more than k classes.
  settled_or_classes : 0 < n → (k : ℕ) → ((j : ℕ) × (j < k) × Settled Move n j) ⊎ (k < classes round n k)
  settled_or_classes pos zero = inr (classes_pos pos)
  settled_or_classes pos (suc k) = go (settled_or_classes pos k) (separates_or_settled k)
    where
      go : ((j : ℕ) × (j < k) × Settled Move n j) ⊎ (k < classes round n k) → Separates Move n k ⊎ Settled Move n k
          → ((j : ℕ) × (j < suc k) × Settled Move n j) ⊎ (suc k < classes round n (suc k))
      go (inl s) d = inl (s.0, omega arith, s.2)
      go (inr c) (inl t) = inr (omega (arith, classes_lt k t))
      go (inr c) (inr t) = inl (k, omega arith, t)

  -- Some round before the n-th separates no further pair.
  pub settled_exists : 0 < n → (k : ℕ) × (k < n) × Settled Move n k
  settled_exists pos = go (settled_or_classes pos n)
    where
      go : ((j : ℕ) × (j < n) × Settled Move n j) ⊎ (n < classes round n n) → (j : ℕ) × (j < n) × Settled Move n j
      go (inl s) = s
      go (inr c) = absurd (omega (arith, count_le n (lowest? round n)))
