-- The rank of two states exists, is what the tests compute, and does not exceed states minus 1; and any bisimulation
-- pairs two states exactly when a Bool-valued one does. Document 01, "Rank"; definition 14 of source 000.
-- Assumes nothing.
use Rattle.std.specs.Prelude.{◌≡◌, ◌⊎◌, ◌↔◌, Bool}
use Rattle.std.proofs.Math.Path.{refl, subst}
use Rattle.std.proofs.Common.{sym, true≢false, not-suc-le-zero}
use Rattle.std.proofs.Math.Logic.{inl, inr}
use Rattle.std.proofs.Math.Bool.{true, false}
use Prim.Native.Nat.{ℕ, zero, suc, ◌-◌, ◌≤◌, ◌<◌}
use native.Mathlib.Omega.{arith}
use Rattle.std.proofs.Math.Dec.{T}
use Rattle.lts.proofs.TestsLaws.{lt-suc_cases}
use Rattle.lts.specs.Alike.{Moves, Alike, Bisimilar, BisimilarBy, Separated, Rank, bisimilar}
use Rattle.lts.proofs.AlikeLaws.{alike_le, bisimulation→Alike, bisimilar→BisimilarBy, rank_of_separated}
use Rattle.lts.proofs.AlikeLaws.{rank_unique}
use Rattle.lts.specs.Game.{Game, alike?, next_rank, rank_below, rank}
use Rattle.lts.proofs.GameLaws.{alike?→Alike, Alike→alike?, bisimilar_of_settled, rank_le_settled}
use Rattle.lts.proofs.ClassesLaws.{settled_exists}

module _ (Move : Moves) (n : ℕ) (round : (ℕ → ℕ → Bool) → ℕ → ℕ → Bool) (G : Game Move n round) where
  -- States that are (n-1)-alike are bisimilar.
  pub bisimilar_of_alike : (p q : ℕ) → p < n → q < n → Alike Move (n - 1) p q → Bisimilar Move p q
  bisimilar_of_alike p q lp lq h =
      let s = settled_exists Move n round G (omega arith) in
      bisimilar_of_settled Move n round G s.0 p q s.2 lp lq (alike_le Move p q s.0 (n - 1) (omega arith) h)

  -- Nothing is lost by Bool-valued relations.
  pub bisimilar↔Bisimilar_by : (p q : ℕ) → p < n → q < n → Bisimilar Move p q ↔ BisimilarBy Move p q
  bisimilar↔Bisimilar_by p q lp lq = (
    bisimilar→BisimilarBy Move p q,
    λ b. bisimilar_of_alike p q lp lq (bisimulation→Alike Move b.rel b.bisimulation (n - 1) p q b.pairs),
  )

  pub rank_lt : (p q r : ℕ) → p < n → q < n → Rank Move p q r → r < n
  rank_lt p q r lp lq x =
      let s = settled_exists Move n round G (omega arith) in
      omega (arith, s.1, rank_le_settled Move n round G s.0 p q r s.2 lp lq x)

  -- "No rank exceeds states minus 1" (document 01).
  pub rank_le : (p q r : ℕ) → p < n → q < n → Rank Move p q r → r ≤ n - 1
  rank_le p q r lp lq x = omega (arith, rank_lt p q r lp lq x)

  -- ---- the computed rank

  -- What r says of p and q after the rounds before k.
  FoundBelow : ℕ → ℕ → ℕ → ℕ → Type 0
  FoundBelow p q k r = ((r ≡ 0) × ((j : ℕ) → j < k → Alike Move j p q)) ⊎ ((0 < r) × Separated Move p q r)

  found_next : (p q k r : ℕ) → FoundBelow p q k r → (b : Bool) → alike? round k p q ≡ b
      → FoundBelow p q (suc k) (next_rank k r b)
  unfolding FoundBelow alike?
  found_next p q k zero (inl f) true e = inl (refl, λ j l. go j (lt-suc_cases l))
    where
      go : (j : ℕ) → (j ≡ k) ⊎ (j < k) → Alike Move j p q
      go j (inl i) = rw i (alike?→Alike Move n round G k p q (rw e tt))
      go j (inr l) = f.1 j l
  found_next p q zero zero (inl f) false e = absurd (true≢false e)
  found_next p q (suc k) zero (inl f) false e = inr (omega arith, record { not_alike = λ h. go h; alike_before = f.1 })
    where
      go : Alike Move (suc k) p q → ⊥
      go h = subst T e (Alike→alike? Move n round G (suc k) p q h)
  found_next p q k zero (inr f) b e = absurd (omega arith)
  found_next p q k (suc m) (inl f) b e = absurd (omega arith)
  found_next p q k (suc m) (inr f) b e = inr f

  found_below : (p q k : ℕ) → FoundBelow p q k (rank_below round k p q)
  unfolding FoundBelow rank_below
  found_below p q zero = inl (refl, λ j l. absurd (not-suc-le-zero l))
  found_below p q (suc k) = found_next p q k (rank_below round k p q) (found_below p q k) (alike? round k p q) refl

  -- The computed rank is the rank.
  pub rank→Rank : (p q : ℕ) → p < n → q < n → Rank Move p q (rank round n p q)
  unfolding FoundBelow
  rank→Rank p q lp lq = go (rank round n p q) (found_below p q n)
    where
      go : (r : ℕ) → FoundBelow p q n r → Rank Move p q r
      go r (inl f) =
          let b = bisimilar_of_alike p q lp lq (f.1 (n - 1) (omega arith)) in
          subst (Rank Move p q) (sym f.0) (bisimilar b)
      go r (inr f) = rank_of_separated Move p q r f.1

  -- The one rank of p and q is the one computed.
  pub Rank→rank : (p q r : ℕ) → p < n → q < n → Rank Move p q r → rank round n p q ≡ r
  Rank→rank p q r lp lq x = rank_unique Move p q (rank round n p q) r (rank→Rank p q lp lq) x

  pub rank_exists : (p q : ℕ) → p < n → q < n → (r : ℕ) × (r < n) × Rank Move p q r
  rank_exists p q lp lq =
      let x = rank→Rank p q lp lq in
      (rank round n p q, rank_lt p q (rank round n p q) lp lq x, x)
