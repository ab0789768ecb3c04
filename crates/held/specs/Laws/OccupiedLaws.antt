-- The sets of rows stay right while the pool is filled: a slot that gets a set is put down in the set of its row.
-- Assumes nothing.
use Rattle.std.specs.Prelude.{List, ◌⊎◌, ◌≡◌, refl, ℕ, ◌<◌, get_or}
use Rattle.std.proofs.Common.{inl, inr, sym, ap, ◌∙◌, subst, arith}
use Rattle.lts.proofs.TestsLaws.{eq_or_not}
use Rattle.text.specs.Limits.{state_limit}
use Rattle.sets.specs.Inner.Sets.{Member, Joined}
use Rattle.held.specs.Held.{pool_sets, row_set, slot_place, HeldAt, Occupied}
use Rattle.held.specs.Inner.Slots.{OthersKept}
use Rattle.held.specs.Laws.PoolLaws.{PutAt}

-- A state whose set in a row has a member is in the set of the row.
pub occupied_held : {slots pool : List ℕ} (row p x : ℕ) → Occupied slots pool → ((y : ℕ) → ¬ (Member pool 0 y))
    → p < state_limit → HeldAt slots pool row p x → Member pool (row_set row) p
occupied_held {pool = pool} row p x O none l h =
    O.marked row p l (λ e. none x (subst (λ (j : ℕ). Member pool j x) e h))

module _ {slots pool pool' : List ℕ} (O : Occupied slots pool) where
  -- A set changes that is no row's, and the sets of slots keep their members.
  pub occupied_kept : {k : ℕ} → k < pool_sets → OthersKept k pool pool'
      → ((i x : ℕ) → Member pool (get_or slots i 0) x → Member pool' (get_or slots i 0) x) → Occupied slots pool'
  occupied_kept {k} l K there = record {
    marked = λ row p lp d. K.there (row_set row) p (other row) (O.marked row p lp d);
    some = λ row p m.
        let h = O.some row p (K.back (row_set row) p (other row) m) in
        (h.0, there (slot_place row p) h.0 h.1);
  }
    where
      other : (row : ℕ) → ¬ (row_set row ≡ k)
      other row e = omega (arith, e, l)

  -- The slot of p gets set k, which has a member, and p comes into the set of the row.
  pub occupied_put : {p k x : ℕ} {slots' : List ℕ} (row : ℕ) → p < state_limit → PutAt (slot_place row p) k slots slots'
      → Joined (row_set row) (λ q. q ≡ p) pool pool' → Member pool k x → Occupied slots' pool'
  occupied_put {p} {k} {x} {slots'} row lp S J own = record {
    marked = λ r q lq d. marked r q lq d (eq_or_not (slot_place r q) (slot_place row p));
    some = λ r q m. some r q (eq_or_not (slot_place r q) (slot_place row p)) m.member_lt (J.only (row_set r) q m);
  }
    where
      marked : (r q : ℕ) → q < state_limit → ¬ (get_or slots' (slot_place r q) 0 ≡ 0)
          → (slot_place r q ≡ slot_place row p) ⊎ ¬ (slot_place r q ≡ slot_place row p) → Member pool' (row_set r) q
      marked r q lq d (inl e) =
          let at : row_set row ≡ row_set r = omega (arith, e, lq, lp) in
          let is : p ≡ q = omega (arith, e, lq, lp) in
          subst (λ (j : ℕ). Member pool' j q) at (subst (Member pool' (row_set row)) is (J.joined p refl))
      marked r q lq d (inr n) =
          J.kept (row_set r) q (O.marked r q lq (λ z. d (S.kept (slot_place r q) n ∙ z)))

      some : (r q : ℕ) → (slot_place r q ≡ slot_place row p) ⊎ ¬ (slot_place r q ≡ slot_place row p) → q < state_limit
          → Member pool (row_set r) q ⊎ ((row_set r ≡ row_set row) × (q ≡ p)) → (y : ℕ) × HeldAt slots' pool' r q y
      some r q (inl e) lq m = (
        x,
        subst (λ (j : ℕ). Member pool' j x) (sym (ap (λ (i : ℕ). get_or slots' i 0) e ∙ S.put)) (J.kept k x own),
      )
      some r q (inr n) lq (inl m) =
          let h = O.some r q m in (
            h.0,
            subst (λ (j : ℕ). Member pool' j h.0) (sym (S.kept (slot_place r q) n))
                (J.kept (get_or slots (slot_place r q) 0) h.0 h.1),
          )
      some r q (inr n) lq (inr m) = absurd (n (omega (arith, m.0, m.1)))
