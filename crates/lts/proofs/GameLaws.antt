-- The test of k-alike says what k-alike says; a round that separates no further pair makes k-alike a bisimulation, and
-- bounds every rank. Document 01, "Alike" and "Rank". Assumes nothing.
use Rattle.std.specs.Prelude.{◌⊎◌, Bool, not, ◌&&◌, ltb}
use Rattle.std.proofs.Common.{inl, inr, arith, T_not, ltb→lt, lt→ltb}
use Prim.Native.Nat.{ℕ, zero, suc, ◌≤◌, ◌<◌}
use Rattle.std.proofs.Math.Dec.{T, not_T}
use Rattle.lts.proofs.TestsLaws.{T_cases, and_intro, and_left, and_right, le_of_not_lt}
use Rattle.lts.specs.Alike.{Moves, Answers, Alike, Bisimulation, Bisimilar, Separated, Rank, bisimilar, separated}
use Rattle.lts.proofs.AlikeLaws.{answers_map, alike_le, answers_below}
use Rattle.lts.specs.Game.{Opening, by_first, by_second, Game, alike?, Settled, Separates}

-- An opening is not answered.
pub opening_not_answers : (Move : Moves) (R : ℕ → ℕ → Bool) (p q : ℕ) → Opening Move R p q
    → ¬ (Answers Move (λ x y. T (R x y)) p q)
opening_not_answers Move R p q (by_first a p' m f) h =
    let r = h.there a p' m in
    T_not (R p' r.0) (f r.0 r.1) r.2
opening_not_answers Move R p q (by_second a q' m f) h =
    let r = h.back a q' m in
    T_not (R r.0 q') (f r.0 r.1) r.2

-- The pair that the round after the k-th separates has the rank k+1.
pub separated_of_separates : (Move : Moves) (n k : ℕ) (s : Separates Move n k)
    → Separated Move s.one s.other (suc k)
separated_of_separates Move n k s = record {
  not_alike = s.not_alike;
  alike_before = λ j l. alike_le Move s.one s.other j k (omega arith) s.alike;
}

module _ (Move : Moves) (n : ℕ) (round : (ℕ → ℕ → Bool) → ℕ → ℕ → Bool) (G : Game Move n round) where
  -- ---- the test of k-alike

  pub alike?→Alike : (k p q : ℕ) → T (alike? round k p q) → Alike Move k p q
  unfolding Alike alike?
  alike?→Alike zero p q t = tt
  alike?→Alike (suc k) p q t = answers_map Move (λ x y. alike?→Alike k x y) (G.passes (alike? round k) p q t)

  pub Alike→alike? : (k p q : ℕ) → Alike Move k p q → T (alike? round k p q)
  unfolding Alike alike?
  Alike→alike? zero p q h = tt
  Alike→alike? (suc k) p q h =
      go (answers_map Move (λ x y. Alike→alike? k x y) h) (T_cases (round (alike? round k) p q))
    where
      go : Answers Move (λ x y. T (alike? round k x y)) p q
          → T (round (alike? round k) p q) ⊎ T (not (round (alike? round k) p q)) → T (round (alike? round k) p q)
      go a (inl t) = t
      go a (inr t) = absurd (opening_not_answers Move (alike? round k) p q (G.fails (alike? round k) p q t) a)

  pub not_alike?→¬Alike : (k p q : ℕ) → T (not (alike? round k p q)) → ¬ (Alike Move k p q)
  not_alike?→¬Alike k p q t h = T_not (alike? round k p q) t (Alike→alike? k p q h)

  pub ¬Alike→not_alike? : (k p q : ℕ) → ¬ (Alike Move k p q) → T (not (alike? round k p q))
  ¬Alike→not_alike? k p q h = not_T (alike? round k p q) (λ t. h (alike?→Alike k p q t))

  pub alike_cases : (k p q : ℕ) → Alike Move k p q ⊎ ¬ (Alike Move k p q)
  alike_cases k p q = go (T_cases (alike? round k p q))
    where
      go : T (alike? round k p q) ⊎ T (not (alike? round k p q)) → Alike Move k p q ⊎ ¬ (Alike Move k p q)
      go (inl t) = inl (alike?→Alike k p q t)
      go (inr t) = inr (not_alike?→¬Alike k p q t)

  -- ---- a round that separates no further pair

  -- Where the next round separates no pair of states, k-alike between states is a bisimulation.
  pub settled_bisimulation : (k : ℕ) → Settled Move n k
      → Bisimulation Move (λ x y. (x < n) × (y < n) × Alike Move k x y)
  unfolding Alike
  settled_bisimulation k s p q (lp, lq, h) =
      answers_below Move n G.target_lt lp lq (λ x y lx ly r. (lx, ly, r)) (s p q lp lq h)

  -- The same relation as a test.
  abbrev both? : ℕ → ℕ → ℕ → Bool
  both? k x y = ltb x n && (ltb y n && alike? round k x y)

  both?→Alike : (k x y : ℕ) → T (both? k x y) → (x < n) × (y < n) × Alike Move k x y
  both?→Alike k x y t =
      let u = and_right (ltb x n) (ltb y n && alike? round k x y) t in (
        ltb→lt x n (and_left (ltb x n) (ltb y n && alike? round k x y) t),
        ltb→lt y n (and_left (ltb y n) (alike? round k x y) u),
        alike?→Alike k x y (and_right (ltb y n) (alike? round k x y) u),
      )

  Alike→both? : (k x y : ℕ) → (x < n) × (y < n) × Alike Move k x y → T (both? k x y)
  Alike→both? k x y (lx, ly, h) = and_intro (ltb x n) (ltb y n && alike? round k x y) (lt→ltb x n lx)
      (and_intro (ltb y n) (alike? round k x y) (lt→ltb y n ly) (Alike→alike? k x y h))

  pub bisimilar_of_settled : (k p q : ℕ) → Settled Move n k → p < n → q < n → Alike Move k p q → Bisimilar Move p q
  bisimilar_of_settled k p q s lp lq h = record {
    rel = both? k;
    bisimulation = λ x y t.
        answers_map Move (Alike→both? k) (settled_bisimulation k s x y (both?→Alike k x y t));
    pairs = Alike→both? k p q (lp, lq, h);
  }

  -- No rank exceeds the last round that separated a pair.
  pub rank_le_settled : (k p q r : ℕ) → Settled Move n k → p < n → q < n → Rank Move p q r → r ≤ k
  rank_le_settled k p q r s lp lq (bisimilar b) = omega arith
  rank_le_settled k p q r s lp lq (separated d x) =
      le_of_not_lt r k (λ l. d (bisimilar_of_settled k p q s lp lq (x.alike_before k l)))
