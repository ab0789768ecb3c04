-- One place of a list, or one set of the pool, changes, and the others stay. Assumes nothing.
use Rattle.std.specs.Prelude.{List, ◌⊎◌, ◌≡◌, ℕ, ◌+◌, ◌≤◌, ◌<◌, length, get_or, set}
use Rattle.std.proofs.Common.{inl, inr, sym, ap, ◌∙◌, subst, arith, get_or-set_same, get_or-set_other}
use Rattle.sets.specs.Inner.Sets.{Member, Joined}
use Rattle.sets.specs.Inner.SetValues.{SetOf}
use Rattle.sets.specs.declared.set.Set.{Set}
use Rattle.held.specs.Inner.Slots.{FreeFrom, OthersKept}

-- ---- one place

-- Place i of a list has got x, and all other places have what they had.
pub record PutAt (i x : ℕ) (list list' : List ℕ) : Type 0 where
  pub put : get_or list' i 0 ≡ x
  pub kept : (j : ℕ) → ¬ (j ≡ i) → get_or list' j 0 ≡ get_or list j 0

pub put_of-set : {i at x : ℕ} {list list' : List ℕ} → at ≡ i → at < length list → list' ≡ set list at x
    → PutAt i x list list'
put_of-set {i} {at} {x} {list} {list'} e l s = record {
  put = ap (λ (j : ℕ). get_or list' j 0) (sym e) ∙ ap (λ (y : List ℕ). get_or y at 0) s ∙ get_or-set_same list at x 0 l;
  kept = λ j d. ap (λ (y : List ℕ). get_or y j 0) s ∙ get_or-set_other list at j x 0 (λ f. d (f ∙ e));
}

pub free_from_le : {i j : ℕ} {slots : List ℕ} → i ≤ j → FreeFrom i slots → FreeFrom j slots
free_from_le l f = record { free = λ k m. f.free k (omega (arith, l, m)) }

pub free_from_put : {i x : ℕ} {slots slots' : List ℕ} → PutAt i x slots slots' → FreeFrom i slots
    → FreeFrom (i + 1) slots'
free_from_put S f =
    record { free = λ j l. S.kept j (λ e. omega (arith, e, l)) ∙ f.free j (omega (arith, l)) }

-- ---- one set

pub set_of_number : {j k : ℕ} {s : Set} {pool : List ℕ} → j ≡ k → SetOf (Member pool j) s → SetOf (Member pool k) s
set_of_number {s = s} {pool} = subst (λ (i : ℕ). SetOf (Member pool i) s)

pub joined_number : {j k : ℕ} {P : ℕ → Type 0} {pool pool' : List ℕ} → j ≡ k → Joined j P pool pool'
    → Joined k P pool pool'
joined_number {P = P} {pool} {pool'} = subst (λ (i : ℕ). Joined i P pool pool')

pub kept_of-joined : {k : ℕ} {P : ℕ → Type 0} {pool pool' : List ℕ} → Joined k P pool pool' → OthersKept k pool pool'
kept_of-joined {k} {P} {pool} J = record {
  there = λ j x d. J.kept j x;
  back = λ j x d m. old j x d (J.only j x m);
}
  where
    old : (j x : ℕ) → ¬ (j ≡ k) → Member pool j x ⊎ ((j ≡ k) × P x) → Member pool j x
    old j x d (inl m) = m
    old j x d (inr e) = absurd (d e.0)
