-- k-alike falls with k and is an equivalence, every bisimulation lies inside it, bisimilar is an equivalence too, and a
-- pair has one rank. Document 01, "Alike" and "Rank"; definition 14 of source 000. Assumes nothing.
use Rattle.std.specs.Prelude.{◌≡◌, refl, Bool, ◌&&◌, T, eqb}
use Rattle.std.proofs.Common.{subst, eqb→eq}
use Prim.Native.Nat.{ℕ, zero, suc, ◌≤◌, ◌<◌}
use native.Mathlib.Omega.{arith}
use Rattle.std.proofs.Math.Decide.{le_ind}
use Rattle.std.proofs.Math.Dec.{eqb_refl}
use Rattle.lts.specs.Tests.{any}
use Rattle.lts.proofs.TestsLaws.{and_intro, and_left, and_right, any→Some, Some→any, eq_of_not_lt}
use Rattle.lts.specs.Alike.{Moves, Relation, Answers, Alike, Bisimulation, Bisimilar, BisimilarBy, Separated}
use Rattle.lts.specs.Alike.{Rank, bisimilar, separated}

module _ (Move : Moves) where
  -- What answers inside R answers inside a relation that holds R.
  pub answers_map : {R S : Relation} {p q : ℕ} → ((x y : ℕ) → R x y → S x y) → Answers Move R p q → Answers Move S p q
  answers_map f h = record {
    there = λ a p' m. let r = h.there a p' m in (r.0, r.1, f p' r.0 r.2);
    back = λ a q' m. let r = h.back a q' m in (r.0, r.1, f r.0 q' r.2);
  }

  -- ---- k-alike

  pub alike_suc : (k p q : ℕ) → Alike Move (suc k) p q → Alike Move k p q
  unfolding Alike
  alike_suc zero p q h = tt
  alike_suc (suc k) p q h = answers_map (λ x y. alike_suc k x y) h

  pub alike_le : (p q j k : ℕ) → j ≤ k → Alike Move k p q → Alike Move j p q
  alike_le p q j k l =
      le_ind (λ (m : ℕ). Alike Move m p q → Alike Move j p q) (λ h. h) (λ m _ f h. f (alike_suc m p q h)) k l

  pub alike_refl : (k p : ℕ) → Alike Move k p p
  unfolding Alike
  alike_refl zero p = tt
  alike_refl (suc k) p = record {
    there = λ a p' m. (p', m, alike_refl k p');
    back = λ a p' m. (p', m, alike_refl k p');
  }

  pub alike_sym : (k p q : ℕ) → Alike Move k p q → Alike Move k q p
  unfolding Alike
  alike_sym zero p q h = tt
  alike_sym (suc k) p q h = record {
    there = λ a q' m. let r = h.back a q' m in (r.0, r.1, alike_sym k r.0 q' r.2);
    back = λ a p' m. let r = h.there a p' m in (r.0, r.1, alike_sym k p' r.0 r.2);
  }

  pub alike_trans : (k p q r : ℕ) → Alike Move k p q → Alike Move k q r → Alike Move k p r
  unfolding Alike
  alike_trans zero p q r h g = tt
  alike_trans (suc k) p q r h g = record {
    there = λ a p' m.
        let u = h.there a p' m in
        let v = g.there a u.0 u.1 in
        (v.0, v.1, alike_trans k p' u.0 v.0 u.2 v.2);
    back = λ a r' m.
        let v = g.back a r' m in
        let u = h.back a v.0 v.1 in
        (u.0, u.1, alike_trans k u.0 v.0 r' u.2 v.2);
  }

  -- ---- bisimulations

  -- Any bisimulation whatever lies inside each k-alike.
  pub bisimulation→Alike : (R : Relation) → Bisimulation Move R → (k p q : ℕ) → R p q → Alike Move k p q
  unfolding Alike
  bisimulation→Alike R b zero p q r = tt
  bisimulation→Alike R b (suc k) p q r = answers_map (λ x y. bisimulation→Alike R b k x y) (b p q r)

  pub bisimilar→Alike : (k p q : ℕ) → Bisimilar Move p q → Alike Move k p q
  bisimilar→Alike k p q h = bisimulation→Alike (λ x y. T (h.rel x y)) h.bisimulation k p q h.pairs

  pub bisimilar→BisimilarBy : (p q : ℕ) → Bisimilar Move p q → BisimilarBy Move p q
  bisimilar→BisimilarBy p q h = record {
    rel = λ x y. T (h.rel x y);
    bisimulation = h.bisimulation;
    pairs = h.pairs;
  }

  -- The answer to a move leads to bisimilar states again.
  pub bisimilar_answer : (p q a p' : ℕ) → Bisimilar Move p q → Move p a p'
      → (q' : ℕ) × Move q a q' × Bisimilar Move p' q'
  bisimilar_answer p q a p' b m =
      let r = (b.bisimulation p q b.pairs).there a p' m in
      (r.0, r.1, record { rel = b.rel; bisimulation = b.bisimulation; pairs = r.2 })

  pub bisimilar_refl : (p : ℕ) → Bisimilar Move p p
  bisimilar_refl p = record { rel = eqb; bisimulation = λ x y t. go x y (eqb→eq x y t); pairs = eqb_refl p }
    where
      go : (x y : ℕ) → x ≡ y → Answers Move (λ x y. T (eqb x y)) x y
      go x y e = subst (λ (z : ℕ). Answers Move (λ x y. T (eqb x y)) x z) e (record {
        there = λ a p' m. (p', m, eqb_refl p');
        back = λ a p' m. (p', m, eqb_refl p');
      })

  pub bisimilar_sym : (p q : ℕ) → Bisimilar Move p q → Bisimilar Move q p
  bisimilar_sym p q b = record {
    rel = λ x y. b.rel y x;
    bisimulation = λ x y t.
        let h = b.bisimulation y x t in
        record { there = h.back; back = h.there };
    pairs = b.pairs;
  }

  -- ---- ranks

  pub separated_unique : (p q j k : ℕ) → Separated Move p q j → Separated Move p q k → j ≡ k
  separated_unique p q j k x y =
      eq_of_not_lt j k (λ l. x.not_alike (y.alike_before j l)) (λ l. y.not_alike (x.alike_before k l))

  pub separated_sym : (p q k : ℕ) → Separated Move p q k → Separated Move q p k
  separated_sym p q k x = record {
    not_alike = λ h. x.not_alike (alike_sym k q p h);
    alike_before = λ j l. alike_sym j p q (x.alike_before j l);
  }

  -- Round 0 separates nothing.
  pub separated_pos : (p q k : ℕ) → Separated Move p q k → 0 < k
  unfolding Alike
  separated_pos p q zero x = absurd (x.not_alike tt)
  separated_pos p q (suc k) x = omega arith

  pub rank_of_separated : (p q k : ℕ) → Separated Move p q k → Rank Move p q k
  rank_of_separated p q k x = separated (λ b. x.not_alike (bisimilar→Alike k p q b)) x

  pub rank_unique : (p q r s : ℕ) → Rank Move p q r → Rank Move p q s → r ≡ s
  rank_unique p q r s (bisimilar b) (bisimilar c) = refl
  rank_unique p q r s (bisimilar b) (separated n x) = absurd (n b)
  rank_unique p q r s (separated n x) (bisimilar b) = absurd (n b)
  rank_unique p q r s (separated n x) (separated m y) = separated_unique p q r s x y

  pub rank_refl : (p : ℕ) → Rank Move p p 0
  rank_refl p = bisimilar (bisimilar_refl p)

  pub rank_sym : (p q r : ℕ) → Rank Move p q r → Rank Move q p r
  rank_sym p q r (bisimilar b) = bisimilar (bisimilar_sym p q b)
  rank_sym p q r (separated d x) = separated (λ b. d (bisimilar_sym q p b)) (separated_sym p q r x)

  pub separated_of_rank : (p q r : ℕ) → 0 < r → Rank Move p q r → Separated Move p q r
  separated_of_rank p q r l (bisimilar b) = absurd (omega arith)
  separated_of_rank p q r l (separated n x) = x

  pub bisimilar_of_rank : (p q r : ℕ) → r ≡ 0 → Rank Move p q r → Bisimilar Move p q
  bisimilar_of_rank p q r e (bisimilar b) = b
  bisimilar_of_rank p q r e (separated {k = k} n x) = absurd (omega (arith, separated_pos p q k x))

-- ---- where the moves of n states stay among them

module _ (Move : Moves) (n : ℕ) (target_lt : (p a q : ℕ) → p < n → Move p a q → q < n) where
  -- Answers of two states inside R are answers inside R cut down to the states.
  pub answers_below : {R S : Relation} {p q : ℕ} → p < n → q < n → ((x y : ℕ) → x < n → y < n → R x y → S x y)
      → Answers Move R p q → Answers Move S p q
  answers_below {p = p} {q = q} lp lq f h = record {
    there = λ a p' m.
        let r = h.there a p' m in
        (r.0, r.1, f p' r.0 (target_lt p a p' lp m) (target_lt q a r.0 lq r.1) r.2);
    back = λ a q' m.
        let r = h.back a q' m in
        (r.0, r.1, f r.0 q' (target_lt p a r.0 lp r.1) (target_lt q a q' lq m) r.2);
  }

  -- A bisimulation cut down to the states stays one.
  pub bisimulation_below : (R : Relation) → Bisimulation Move R → Bisimulation Move (λ x y. (x < n) × (y < n) × R x y)
  bisimulation_below R b p q (lp, lq, r) = answers_below lp lq (λ x y lx ly h. (lx, ly, h)) (b p q r)

  pub bisimilar_trans : (p q r : ℕ) → q < n → Bisimilar Move p q → Bisimilar Move q r → Bisimilar Move p r
  bisimilar_trans p q r lq b c = record {
    rel = joined;
    bisimulation = λ x z t.
        let s = any→Some n (λ y. b.rel x y && c.rel y z) t in
        let y = s.0 in
        answers x y z s.1 (and_left (b.rel x y) (c.rel y z) s.2) (and_right (b.rel x y) (c.rel y z) s.2);
    pairs = join p q r lq b.pairs c.pairs;
  }
    where
      joined : ℕ → ℕ → Bool
      joined x z = any n (λ y. b.rel x y && c.rel y z)

      join : (x y z : ℕ) → y < n → T (b.rel x y) → T (c.rel y z) → T (joined x z)
      join x y z l t u = Some→any n (λ y. b.rel x y && c.rel y z) y l (and_intro (b.rel x y) (c.rel y z) t u)

      answers : (x y z : ℕ) → y < n → T (b.rel x y) → T (c.rel y z) → Answers Move (λ x z. T (joined x z)) x z
      answers x y z l t u = record {
        there = λ a x' m.
            let g = (b.bisimulation x y t).there a x' m in
            let h = (c.bisimulation y z u).there a g.0 g.1 in
            (h.0, h.1, join x' g.0 h.0 (target_lt y a g.0 l g.1) g.2 h.2);
        back = λ a z' m.
            let h = (c.bisimulation y z u).back a z' m in
            let g = (b.bisimulation x y t).back a h.0 h.1 in
            (g.0, g.1, join g.0 h.0 z' (target_lt y a h.0 l h.1) g.2 h.2);
      }
