-- A member comes into the set of a slot: into a free set, or into its own, which no other slot has. Assumes nothing.
use Rattle.std.specs.Prelude.{List, ◌⊎◌, ◌≡◌, refl, ℕ, ◌+◌, ◌<◌, get_or}
use Rattle.std.proofs.Common.{inl, inr, sym, ap, ◌∙◌, subst, arith}
use Rattle.lts.proofs.TestsLaws.{eq_or_not}
use Rattle.text.specs.Limits.{state_limit}
use Rattle.sets.specs.Inner.Sets.{Member, Joined}
use Rattle.held.specs.Held.{pool_sets, row_set, slot_place}
use Rattle.held.specs.Inner.Slots.{Separate, MemberAdded}
use Rattle.held.specs.Laws.PoolLaws.{PutAt, kept_of-joined}
use Rattle.held.specs.Laws.OccupiedLaws.{occupied_kept}
use Rattle.held.specs.Laws.SlotsLaws.{pooled_put}

-- ---- into a free set

module _ {used p x : ℕ} {slots slots' pool pool' pool'' : List ℕ} (row : ℕ) (D : Separate used slots pool)
    (l : used < pool_sets) (S : PutAt (slot_place row p) used slots slots')
    (J : Joined used (λ y. y ≡ x) pool pool') (M : Joined (row_set row) (λ q. q ≡ p) pool' pool'') where
  pub member_added_new : get_or slots (slot_place row p) 0 ≡ 0 → MemberAdded row p x slots pool slots' pool''
  member_added_new z = record {
    added = subst (λ (j : ℕ). Member pool'' j x) (sym S.put) (M.kept used x (J.joined x refl));
    there = λ i y m. there i y m (eq_or_not i (slot_place row p));
    back = λ i y m. back i y m (eq_or_not i (slot_place row p));
  }
    where
      there : (i y : ℕ) → Member pool (get_or slots i 0) y → (i ≡ slot_place row p) ⊎ ¬ (i ≡ slot_place row p)
          → Member pool'' (get_or slots' i 0) y
      there i y m (inl e) = absurd (D.pooled.none y
          (subst (λ (j : ℕ). Member pool j y) (ap (λ (j : ℕ). get_or slots j 0) e ∙ z) m))
      there i y m (inr d) = subst (λ (j : ℕ). Member pool'' j y) (sym (S.kept i d))
          (M.kept (get_or slots i 0) y (J.kept (get_or slots i 0) y m))

      new : (y : ℕ) → Member pool used y ⊎ ((used ≡ used) × (y ≡ x)) → y ≡ x
      new y (inl m) = absurd (D.free used y (omega arith) l m)
      new y (inr e) = e.1

      back : (i y : ℕ) → Member pool'' (get_or slots' i 0) y → (i ≡ slot_place row p) ⊎ ¬ (i ≡ slot_place row p)
          → Member pool (get_or slots i 0) y ⊎ ((i ≡ slot_place row p) × (y ≡ x))
      back i y m (inl e) =
          let h = subst (λ (j : ℕ). Member pool'' j y) (ap (λ (j : ℕ). get_or slots' j 0) e ∙ S.put) m in
          inr (e, new y (J.only used y ((kept_of-joined M).back used y (λ f. omega (arith, f, l)) h)))
      back i y m (inr d) =
          let h = subst (λ (j : ℕ). Member pool'' j y) (S.kept i d) m in
          let k = D.pooled.slot_lt i in
          inl ((kept_of-joined J).back (get_or slots i 0) y (λ f. omega (arith, f, k))
          ((kept_of-joined M).back (get_or slots i 0) y (λ f. omega (arith, f, k, l)) h))

  pub separate_new : p < state_limit → Separate (used + 1) slots' pool''
  separate_new lp = record {
    pooled = pooled_put row D.pooled l (omega arith) (omega arith) (omega arith) lp S (kept_of-joined J)
        (J.joined x refl) M;
    own = λ i j k e. own i j k e (eq_or_not i (slot_place row p)) (eq_or_not j (slot_place row p));
    free = λ k y m n h. D.free k y (omega (arith, m)) n ((kept_of-joined J).back k y (λ e. omega (arith, e, m))
        ((kept_of-joined M).back k y (λ e. omega (arith, e, n)) h));
  }
    where
      new : (i : ℕ) → i ≡ slot_place row p → get_or slots' i 0 ≡ used
      new i e = ap (λ (j : ℕ). get_or slots' j 0) e ∙ S.put

      own : (i j : ℕ) → 0 < get_or slots' i 0 → get_or slots' i 0 ≡ get_or slots' j 0
          → (i ≡ slot_place row p) ⊎ ¬ (i ≡ slot_place row p) → (j ≡ slot_place row p) ⊎ ¬ (j ≡ slot_place row p) → i
          ≡ j
      own i j k e (inl f) (inl g) = f ∙ sym g
      own i j k e (inl f) (inr g) = absurd (omega (arith, e, new i f, S.kept j g, D.pooled.slot_lt j))
      own i j k e (inr f) (inl g) = absurd (omega (arith, e, new j g, S.kept i f, D.pooled.slot_lt i))
      own i j k e (inr f) (inr g) =
          D.own i j (omega (arith, k, S.kept i f)) (sym (S.kept i f) ∙ e ∙ S.kept j g)

-- ---- into the set that is there

module _ {used slot x : ℕ} {slots pool pool' : List ℕ} (D : Separate used slots pool) (z : 0 < slot)
    (J : Joined slot (λ y. y ≡ x) pool pool') where
  pub member_added_more : {row p : ℕ} → slot ≡ get_or slots (slot_place row p) 0
      → MemberAdded row p x slots pool slots pool'
  member_added_more {row} {p} at = record {
    added = subst (λ (j : ℕ). Member pool' j x) at (J.joined x refl);
    there = λ i. J.kept (get_or slots i 0);
    back = λ i y m. back i y (J.only (get_or slots i 0) y m);
  }
    where
      back : (i y : ℕ) → Member pool (get_or slots i 0) y ⊎ ((get_or slots i 0 ≡ slot) × (y ≡ x))
          → Member pool (get_or slots i 0) y ⊎ ((i ≡ slot_place row p) × (y ≡ x))
      back i y (inl m) = inl m
      back i y (inr (e, f)) = inr (D.own i (slot_place row p) (omega (arith, e, z)) (e ∙ at), f)

  pub separate_more : slot < used → Separate used slots pool'
  separate_more l = record {
    pooled = record {
      some = D.pooled.some;
      used_le = D.pooled.used_le;
      slot_lt = D.pooled.slot_lt;
      none = λ y m. D.pooled.none y ((kept_of-joined J).back 0 y (λ e. omega (arith, e, z)) m);
      occupied = occupied_kept D.pooled.occupied (omega (arith, l, D.pooled.used_le)) (kept_of-joined J)
          (λ i. J.kept (get_or slots i 0));
    };
    own = D.own;
    free = λ k y m n h. D.free k y m n ((kept_of-joined J).back k y (λ e. omega (arith, e, l, m)) h);
  }
