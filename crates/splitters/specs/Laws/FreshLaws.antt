-- Sets of a list noted one by one: those of the new classes, and those that the new ones were divided off.
-- Assumes nothing.
use Rattle.std.specs.Prelude.{List, ◌⊎◌, ◌≡◌, ℕ, ◌+◌, ◌≤◌, ◌<◌}
use Rattle.std.proofs.Common.{inl, inr, sym, subst, arith}
use Rattle.lts.specs.Alike.{Relation}
use Rattle.lts.proofs.TestsLaws.{eq_or_not}
use Rattle.sets.specs.Inner.Sets.{Member}
use Rattle.sets.specs.Inner.SetValues.{SetOf, SetPut}
use Rattle.sets.specs.declared.set.Set.{Set}
use Rattle.splitters.specs.Inner.Splitters.{SetsOf, SetsKept}

module _ {Is : Relation} {first : ℕ} where
  pub sets_of_none : {sets : List ℕ} → SetsOf Is first first sets
  sets_of_none = record {
    all = λ k p l h. absurd (omega (arith, l, h));
    only = λ k p l h. absurd (omega (arith, l, h));
  }

  pub sets_of_suc : {j : ℕ} {sets sets' : List ℕ} {s : Set} → SetsOf Is first j sets → SetOf (Is j) s
      → SetPut j s sets sets' → SetsOf Is first (j + 1) sets'
  sets_of_suc {j} {sets} {sets'} f m a = record {
    all = λ k p l h i. all k p l h i (eq_or_not k j);
    only = λ k p l h i. only k p l h i (eq_or_not k j);
  }
    where
      all : (k p : ℕ) → first ≤ k → k < j + 1 → Is k p → (k ≡ j) ⊎ ¬ (k ≡ j) → Member sets' k p
      all k p l h i (inl e) = subst (λ (x : ℕ). Member sets' x p) (sym e)
          (a.put.only p (m.all p (subst (λ (x : ℕ). Is x p) e i)))
      all k p l h i (inr d) = a.kept k p d (f.all k p l (omega (arith, h, d)) i)

      only : (k p : ℕ) → first ≤ k → k < j + 1 → Member sets' k p → (k ≡ j) ⊎ ¬ (k ≡ j) → Is k p
      only k p l h i (inl e) = subst (λ (x : ℕ). Is x p) (sym e)
          (m.only p (a.put.all p (subst (λ (x : ℕ). Member sets' x p) e i)))
      only k p l h i (inr d) = f.only k p l (omega (arith, h, d)) (a.only k p d i)

  pub sets_of_le : {j to : ℕ} {sets : List ℕ} → to ≤ j → SetsOf Is first j sets → SetsOf Is first to sets
  sets_of_le l f = record {
    all = λ k p a h. f.all k p a (omega (arith, l, h));
    only = λ k p a h. f.only k p a (omega (arith, l, h));
  }

-- ---- the sets before them

pub sets_kept_refl : {to : ℕ} (sets : List ℕ) → SetsKept to sets sets
sets_kept_refl sets = record { kept = λ j p l m. m; only = λ j p l m. m }

pub sets_kept_put : {to k : ℕ} {s : Set} {t u w : List ℕ} → to ≤ k → SetsKept to t u → SetPut k s u w
    → SetsKept to t w
sets_kept_put l f a = record {
  kept = λ j p h m. a.kept j p (λ e. omega (arith, e, l, h)) (f.kept j p h m);
  only = λ j p h m. f.only j p h (a.only j p (λ e. omega (arith, e, l, h)) m);
}
