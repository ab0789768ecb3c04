-- A set that is not without members has one: a search among all numbers finds it. Assumes nothing.
use Rattle.std.specs.Prelude.{◌⊎◌, ◌≡◌, ℕ, zero, suc, ◌<◌}
use Rattle.std.proofs.Common.{inl, inr, subst, arith}
use Rattle.lts.proofs.TestsLaws.{lt-suc_cases}
use Rattle.text.specs.Limits.{state_limit}
use Rattle.sets.specs.declared.set.Set.{Set}
use Rattle.sets.specs.Inner.SetValues.{In}
use Rattle.sets.specs.Laws.SetValuesLaws.{in_or_not}

pub some_of_not_none : (s : Set) → ¬ ((x : ℕ) → ¬ (In s x)) → (x : ℕ) × In s x
some_of_not_none s f = last (search_to state_limit)
  where
    search_to : (m : ℕ) → ((x : ℕ) × In s x) ⊎ ((x : ℕ) → x < m → ¬ (In s x))
    search_to zero = inr (λ x l. absurd (omega (arith, l)))
    search_to (suc m) = go (search_to m) (in_or_not s m)
      where
        go : ((x : ℕ) × In s x) ⊎ ((x : ℕ) → x < m → ¬ (In s x)) → In s m ⊎ ¬ (In s m)
            → ((x : ℕ) × In s x) ⊎ ((x : ℕ) → x < suc m → ¬ (In s x))
        go (inl h) _ = inl h
        go (inr h) (inl i) = inl (m, i)
        go (inr h) (inr d) = inr (λ x l. below x (lt-suc_cases l))
          where
            below : (x : ℕ) → (x ≡ m) ⊎ (x < m) → ¬ (In s x)
            below x (inl e) i = d (subst (In s) e i)
            below x (inr l) i = h x l i

    last : ((x : ℕ) × In s x) ⊎ ((x : ℕ) → x < state_limit → ¬ (In s x)) → (x : ℕ) × In s x
    last (inl h) = h
    last (inr h) = absurd (f (λ x i. h x i.member_lt i))
