-- A slot gets a set of the pool, and the sets of all other slots stay; so a row is filled. Assumes nothing.
use Rattle.std.specs.Prelude.{List, ◌⊎◌, ◌≡◌, ℕ, ◌+◌, ◌≤◌, ◌<◌, get_or}
use Rattle.std.proofs.Common.{inl, inr, sym, ap, subst, arith}
use Rattle.lts.proofs.TestsLaws.{eq_or_not}
use Rattle.text.specs.Limits.{state_limit}
use Rattle.sets.specs.Inner.Sets.{Member, Joined}
use Rattle.sets.specs.Inner.SetValues.{In, SetOf}
use Rattle.sets.specs.declared.set.Set.{Set}
use Rattle.held.specs.Held.{pool_sets, row_set, slot_place, HeldAt}
use Rattle.held.specs.Inner.Slots.{Pooled, FreeFrom, OthersKept, Shared, RowsKept, RowHeld, SetHeld}
use Rattle.held.specs.Laws.PoolLaws.{PutAt, kept_of-joined}
use Rattle.held.specs.Laws.OccupiedLaws.{occupied_kept, occupied_put}

-- ---- a set is given

-- The slot of p gets a set that has a member, one in use or the first free one, and p comes into the set of its row.
pub pooled_put : {used next number p x : ℕ} {slots slots' pool pool' pool'' : List ℕ} (row : ℕ) → Pooled used slots pool
    → used < pool_sets → used ≤ next → next ≤ used + 1 → number < next → p < state_limit
    → PutAt (slot_place row p) number slots slots' → OthersKept used pool pool' → Member pool' number x
    → Joined (row_set row) (λ q. q ≡ p) pool' pool'' → Pooled next slots' pool''
pooled_put {used} {next} {number} {p} {slots = slots} {slots'} row P l from to n lp S K own J = record {
  some = omega (arith, n);
  used_le = omega (arith, l, to);
  slot_lt = λ j. slot_lt j (eq_or_not j (slot_place row p));
  none = λ x m. P.none x (K.back 0 x (λ e. omega (arith, e, P.some))
      ((kept_of-joined J).back 0 x (λ e. omega (arith, e)) m));
  occupied = occupied_put (occupied_kept P.occupied l K
      (λ i x. K.there (get_or slots i 0) x (λ e. omega (arith, e, P.slot_lt i)))) row lp S J own;
}
  where
    slot_lt : (j : ℕ) → (j ≡ slot_place row p) ⊎ ¬ (j ≡ slot_place row p) → get_or slots' j 0 < next
    slot_lt j (inl e) = omega (arith, ap (λ (y : ℕ). get_or slots' y 0) e, S.put, n)
    slot_lt j (inr d) = omega (arith, S.kept j d, P.slot_lt j, from)

module _ {used row p : ℕ} {s : Set} {slots pool : List ℕ} (P : Pooled used slots pool) where
  -- No members need no set.
  pub set_held_none : ((x : ℕ) → ¬ (In s x)) → FreeFrom (slot_place row p) slots → SetHeld row p s slots pool slots pool
  set_held_none f free = record {
    all = λ x i. absurd (f x i);
    only = λ x m. absurd (P.none x
        (subst (λ (j : ℕ). Member pool j x) (free.free (slot_place row p) (omega arith)) m));
    there = λ i x d m. m;
    back = λ i x d m. m;
  }

  pub set_held_put : {number : ℕ} {slots' pool' pool'' : List ℕ} → used < pool_sets
      → PutAt (slot_place row p) number slots slots' → Shared used number s pool pool'
      → OthersKept (row_set row) pool' pool'' → SetHeld row p s slots pool slots' pool''
  set_held_put {number} {pool'' = pool''} l S Q K = record {
    all = λ x i. subst (λ (j : ℕ). Member pool'' j x) (sym S.put) (K.there number x own (Q.members.only x i));
    only = λ x m. Q.members.all x (K.back number x own (subst (λ (j : ℕ). Member pool'' j x) S.put m));
    there = λ i x d m. subst (λ (j : ℕ). Member pool'' j x) (sym (S.kept i d))
        (K.there (get_or slots i 0) x (other i) (Q.kept.there (get_or slots i 0) x (old i) m));
    back = λ i x d m. Q.kept.back (get_or slots i 0) x (old i)
        (K.back (get_or slots i 0) x (other i) (subst (λ (j : ℕ). Member pool'' j x) (S.kept i d) m));
  }
    where
      own : ¬ (number ≡ row_set row)
      own e = omega (arith, e, l, Q.number_le)

      old : (i : ℕ) → ¬ (get_or slots i 0 ≡ used)
      old i e = omega (arith, e, P.slot_lt i)

      other : (i : ℕ) → ¬ (get_or slots i 0 ≡ row_set row)
      other i e = omega (arith, e, l, P.slot_lt i)

-- ---- a row

pub row_held-zero : {row : ℕ} {sets slots pool : List ℕ} → RowHeld sets row 0 slots pool
row_held-zero = record { all = λ p x l m. absurd (omega arith); only = λ p x l m. absurd (omega arith) }

pub row_held_at : {row i j : ℕ} {sets slots pool : List ℕ} → i ≡ j → RowHeld sets row i slots pool
    → RowHeld sets row j slots pool
row_held_at {row} {sets = sets} {slots} {pool} e = subst (λ (k : ℕ). RowHeld sets row k slots pool) e

pub rows_kept_refl : (row : ℕ) (slots pool : List ℕ) → RowsKept row slots pool slots pool
rows_kept_refl row slots pool = record { there = λ r p x l d k m. m; back = λ r p x l d k m. m }

module _ {row p : ℕ} {s : Set} {slots slots' pool pool' : List ℕ} (h : SetHeld row p s slots pool slots' pool') where
  pub row_held_suc : {sets : List ℕ} → SetOf (Member sets p) s → RowHeld sets row p slots pool
      → RowHeld sets row (p + 1) slots' pool'
  row_held_suc {sets} o r = record {
    all = λ q x l m. all q x l m (eq_or_not q p);
    only = λ q x l m. only q x l m (eq_or_not q p);
  }
    where
      all : (q x : ℕ) → q < p + 1 → Member sets q x → (q ≡ p) ⊎ ¬ (q ≡ p) → HeldAt slots' pool' row q x
      all q x l m (inl e) = subst (λ (y : ℕ). HeldAt slots' pool' row y x) (sym e)
          (h.all x (o.all x (subst (λ (y : ℕ). Member sets y x) e m)))
      all q x l m (inr d) = h.there (slot_place row q) x (λ e. d (omega (arith, e))) (r.all q x (omega arith) m)

      only : (q x : ℕ) → q < p + 1 → HeldAt slots' pool' row q x → (q ≡ p) ⊎ ¬ (q ≡ p) → Member sets q x
      only q x l m (inl e) = subst (λ (y : ℕ). Member sets y x) (sym e)
          (o.only x (h.only x (subst (λ (y : ℕ). HeldAt slots' pool' row y x) e m)))
      only q x l m (inr d) =
          r.only q x (omega arith) (h.back (slot_place row q) x (λ e. d (omega (arith, e))) m)

  pub rows_kept_suc : {slots₀ pool₀ : List ℕ} → p < state_limit → RowsKept row slots₀ pool₀ slots pool
      → RowsKept row slots₀ pool₀ slots' pool'
  rows_kept_suc lp k = record {
    there = λ r q x l d m y.
        h.there (slot_place r q) x (λ e. d (omega (arith, e, lp, m))) (k.there r q x l d m y);
    back = λ r q x l d m y.
        k.back r q x l d m (h.back (slot_place r q) x (λ e. d (omega (arith, e, lp, m))) y);
  }
