-- A range grows by one number at its end, as a loop goes through it.
-- Assumes nothing.
use Rattle.std.proofs.Common.{⊎_elim, sym, subst, eq-or-lt_of_le, arith}
use Rattle.std.specs.Prelude.{ℕ, ◌+◌, ◌≤◌, ◌<◌}
use Rattle.model.specs.Inner.EachFrom.{EachFrom}

module _ (P : ℕ → Type 0) {from : ℕ} where
  pub each_from_nil : EachFrom P from from
  each_from_nil = record { at = λ k h l. absurd (omega arith) }

  pub each_from_snoc : {i : ℕ} → EachFrom P from i → P i → EachFrom P from (i + 1)
  each_from_snoc {i} b p = record {
    at = λ k h l. ⊎_elim (λ e. subst P (sym e) p) (λ m. b.at k h m) (eq-or-lt_of_le (le k l));
  }
    where
      le : (k : ℕ) → k < i + 1 → k ≤ i
      le k l = omega arith

  pub each_from_le : {i to : ℕ} → to ≤ i → EachFrom P from i → EachFrom P from to
  each_from_le h b = record { at = λ k f l. b.at k f (omega arith) }
