-- Sets that are lent as those of moves are so: what of this is not a plain fact is found again by a search.
-- Assumes nothing.
use Rattle.std.specs.Prelude.{List, ◌⊎◌, ◌≡◌, ℕ, ◌≤◌, ◌<◌, get_or}
use Rattle.std.proofs.Common.{inl, inr, arith}
use Rattle.std.proofs.Math.Logic.{∥∥₁_elim}
use Rattle.std.proofs.Props.{props}
use Rattle.lts.proofs.TestsLaws.{lt_or_le}
use Rattle.lts.specs.Weak.{silent_label}
use Rattle.text.specs.Limits.{action_limit}
use Rattle.sets.specs.Inner.Sets.{Member}
use Rattle.sets.specs.Laws.SearchLaws.{some_of_not_none}
use Rattle.sets.specs.Laws.SetValuesLaws.{set_of_at}
use Rattle.held.specs.Held.{row_set, slot_place}
use Rattle.held.specs.Held.{HeldAt, HeldList}
use Rattle.held.specs.declared.list.HeldMoves.{HeldMoves}

module _ {n : ℕ} {labels : List ℕ} {count : ℕ} {slots pool : List ℕ} (h : ∥ HeldList n labels count slots pool ∥₁) where
  label_of : (i : ℕ) → i < count → (get_or labels i 0 < action_limit) ⊎ (action_limit ≤ get_or labels i 0)
      → (get_or labels i 0 < action_limit) ⊎ (get_or labels i 0 ≡ silent_label)
  label_of i l (inl b) = inl b
  label_of i l (inr b) = inr (∥∥₁_elim h (Prim.hlevel props) (λ L. silent b (L.label i l)))
    where
      silent : {a : ℕ} → action_limit ≤ a → (a < action_limit) ⊎ (a ≡ silent_label) → a ≡ silent_label
      silent le (inl l) = absurd (omega (arith, le, l))
      silent le (inr e) = e

  some_of : (row p : ℕ) → Member pool (row_set row) p → (x : ℕ) × HeldAt slots pool row p x
  some_of row p m =
      let k = get_or slots (slot_place row p) 0 in
      let s = set_of_at pool k in
      let found = some_of_not_none _
      (λ f. ∥∥₁_elim h (Prim.hlevel props) (λ L. let o = L.occupied.some row p m in f o.0 (s.all o.0 o.1))) in
      (found.0, s.only found.0 found.1)

  listed : HeldList n labels count slots pool
  listed = record {
    some_state = ∥∥₁_elim h (Prim.hlevel props) (λ L. L.some_state);
    states_le = ∥∥₁_elim h (Prim.hlevel props) (λ L. L.states_le);
    count_le = ∥∥₁_elim h (Prim.hlevel props) (λ L. L.count_le);
    label = λ i l. label_of i l (lt_or_le (get_or labels i 0) action_limit);
    rising = ∥∥₁_elim h (Prim.hlevel props) (λ L. L.rising);
    slot_lt = ∥∥₁_elim h (Prim.hlevel props) (λ L. L.slot_lt);
    none = ∥∥₁_elim h (Prim.hlevel props) (λ L. L.none);
    occupied = record { marked = ∥∥₁_elim h (Prim.hlevel props) (λ L. L.occupied.marked); some = some_of };
    state_lt = ∥∥₁_elim h (Prim.hlevel props) (λ L. L.state_lt);
    turned = ∥∥₁_elim h (Prim.hlevel props) (λ L. L.turned);
  }

pub held_list : (m : HeldMoves) → HeldList m.n m.labels.now m.count m.slots.now m.pool.now
held_list m = listed m.held
