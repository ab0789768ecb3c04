-- Label by label the moves are held: the next label's rows are others, and its number is greater than all before.
-- Assumes nothing.
use Rattle.std.specs.Prelude.{List, ◌⊎◌, ◌≡◌, ℕ, ◌+◌, ◌≤◌, ◌<◌, get_or}
use Rattle.std.proofs.Common.{inl, inr, ⊎_elim, sym, ap, ◌∙◌, subst, arith}
use Rattle.lts.specs.Alike.{Moves}
use Rattle.lts.proofs.TestsLaws.{eq_or_not, lt_or_le}
use Rattle.lts.specs.Weak.{silent_label}
use Rattle.text.specs.Limits.{action_limit}
use Rattle.silent.specs.Labelled.{LabelList, LabelMove}
use Rattle.silent.specs.Laws.LabelledLaws.{label_move_source_lt, label_move_target_lt, label_move_label}
use Rattle.silent.specs.Laws.LabelledLaws.{label_move_between}
use Rattle.held.specs.Held.{LabelIn, target_row, source_row, HeldLabel, Turned, HeldList, HeldAs}
use Rattle.held.specs.Inner.Slots.{Pooled, LabelsKept, HeldTo}
use Rattle.held.specs.Laws.RowsLaws.{target_row-action, target_row_after}
use Rattle.held.specs.Laws.PoolLaws.{PutAt}
use Rattle.held.specs.Laws.LabelRowsLaws.{AmongStates, held_label_kept, label_move_among}

pub held_to-zero : {Move : Moves} {labels slots pool : List ℕ} → HeldTo Move 0 labels 0 slots pool
held_to-zero = record {
  count_le = omega arith;
  label_lt = λ i l. absurd (omega arith);
  rising = λ i j l k. absurd (omega arith);
  listed = λ p a q l m. absurd (omega arith);
  held = λ i l. absurd (omega arith);
}

module _ {Move : Moves} {to count : ℕ} {labels slots pool : List ℕ} (h : HeldTo Move to labels count slots pool) where
  -- No move has the next label.
  pub held_to_none : ((p q : ℕ) → ¬ (Move p to q)) → HeldTo Move (to + 1) labels count slots pool
  held_to_none f = record {
    count_le = omega (arith, h.count_le);
    label_lt = λ i l. omega (arith, h.label_lt i l);
    rising = h.rising;
    listed = λ p a q l m. listed p a q l m (eq_or_not a to);
    held = h.held;
  }
    where
      listed : (p a q : ℕ) → a < to + 1 → Move p a q → (a ≡ to) ⊎ ¬ (a ≡ to) → LabelIn labels count a
      listed p a q l m (inl e) = absurd (f p q (subst (λ (b : ℕ). Move p b q) e m))
      listed p a q l m (inr d) = h.listed p a q (omega arith) m

  -- The moves with the label a have been held, and there are none between.
  module _ (A : AmongStates Move) (low : to ≤ action_limit) {a : ℕ} (le : to ≤ a)
      (none : (p b q : ℕ) → to ≤ b → b < a → ¬ (Move p b q)) {labels' slots' pool' : List ℕ}
      (P : PutAt count a labels labels') (H : HeldLabel Move slots' pool' a)
      (K : LabelsKept a slots pool slots' pool') where
    before : (i : ℕ) → i < count → get_or labels' i 0 ≡ get_or labels i 0
    before i l = P.kept i (λ e. omega (arith, e, l))

    held_before : (b : ℕ) → b < to → HeldLabel Move slots pool b → HeldLabel Move slots' pool' b
    held_before b l x =
        let e = target_row-action b (omega arith) in
        let f = target_row_after to a le low in
        held_label_kept A (omega (arith, e, l, low)) (λ g. omega (arith, e, f, g, l)) (λ g. omega (arith, e, f, g, l))
        (λ g. omega (arith, e, f, g, l)) K x

    pub held_to_suc : HeldTo Move (a + 1) labels' (count + 1) slots' pool'
    held_to_suc = record {
      count_le = omega (arith, h.count_le);
      label_lt = λ i l. label_lt i l (eq_or_not i count);
      rising = λ i j l k. rising i j l k (eq_or_not j count);
      listed = λ p b q l m. listed p b q l m (lt_or_le b to) (eq_or_not b a);
      held = λ i l. held i l (eq_or_not i count);
    }
      where
        label_lt : (i : ℕ) → i < count + 1 → (i ≡ count) ⊎ ¬ (i ≡ count) → get_or labels' i 0 < a + 1
        label_lt i l (inl e) = omega (arith, ap (λ (j : ℕ). get_or labels' j 0) e, P.put)
        label_lt i l (inr d) = omega (arith, before i (omega arith), h.label_lt i (omega arith))

        rising : (i j : ℕ) → i < j → j < count + 1 → (j ≡ count) ⊎ ¬ (j ≡ count) → get_or labels' i 0 < get_or labels'
            j 0
        rising i j l k (inl e) = omega
            (arith, ap (λ (x : ℕ). get_or labels' x 0) e, P.put, before i (omega arith), h.label_lt i (omega arith))
        rising i j l k (inr d) =
            omega (arith, before i (omega arith), before j (omega arith), h.rising i j l (omega arith))

        listed : (p b q : ℕ) → b < a + 1 → Move p b q → (b < to) ⊎ (to ≤ b) → (b ≡ a) ⊎ ¬ (b ≡ a)
            → LabelIn labels' (count + 1) b
        listed p b q l m (inl k) d =
            let x = h.listed p b q k m in
            (x.0, omega (arith, x.1), before x.0 x.1 ∙ x.2)
        listed p b q l m (inr k) (inl e) = (count, omega arith, P.put ∙ sym e)
        listed p b q l m (inr k) (inr d) = absurd (none p b q k (omega arith) m)

        held : (i : ℕ) → i < count + 1 → (i ≡ count) ⊎ ¬ (i ≡ count) → HeldLabel Move slots' pool' (get_or labels' i 0)
        held i l (inl e) = subst (HeldLabel Move slots' pool') (sym (ap (λ (j : ℕ). get_or labels' j 0) e ∙ P.put)) H
        held i l (inr d) = subst (HeldLabel Move slots' pool') (sym (before i (omega arith)))
            (held_before (get_or labels i 0) (h.label_lt i (omega arith)) (h.held i (omega arith)))

-- ---- the silent label, the last

pub turned_of_held : {Move : Moves} {slots pool : List ℕ} {a : ℕ} → HeldLabel Move slots pool a
    → Turned slots pool (target_row a) (source_row a)
turned_of_held h = record {
  there = λ p q l x. h.source p q (h.target_only p q l x);
  again = λ p q l x. h.target p q (h.source_only p q l x);
}

module _ {n count : ℕ} {from sources targets labels labels' slots slots' pool pool' : List ℕ}
    (L : LabelList n from sources targets)
    (h : HeldTo (LabelMove n from sources targets) action_limit labels count slots pool)
    (P : PutAt count silent_label labels labels')
    (H : HeldLabel (LabelMove n from sources targets) slots' pool' silent_label)
    (K : LabelsKept silent_label slots pool slots' pool') where
  all_held : HeldTo (LabelMove n from sources targets) (silent_label + 1) labels' (count + 1) slots' pool'
  all_held = held_to_suc h (label_move_among L) (omega arith) (omega arith) (label_move_between L) P H K

  pub held_as_of_silent : HeldAs (LabelMove n from sources targets) labels' (count + 1) slots' pool'
  held_as_of_silent = record {
    sound = λ p a q m.
        let x = subst (HeldLabel (LabelMove n from sources targets) slots' pool') m.label_is
        (all_held.held m.number m.number_lt) in
        x.target_only p q m.source_lt m.held;
    complete = λ p a q m.
        let l : a < silent_label + 1 = ⊎_elim (λ k. omega (arith, k)) (λ k. omega (arith, k)) (label_move_label L m) in
        let x = all_held.listed p a q l m in
        record {
          source_lt = (label_move_among L).source_lt p a q m;
          number = x.0;
          number_lt = x.1;
          label_is = x.2;
          held = (subst (HeldLabel (LabelMove n from sources targets) slots' pool') x.2 (all_held.held x.0 x.1)
              ).target p q m;
        };
  }

  pub held_list_of_silent : {used : ℕ} → Pooled used slots' pool' → HeldList n labels' (count + 1) slots' pool'
  held_list_of_silent pooled = record {
    some_state = L.some_state;
    states_le = L.states_le;
    count_le = omega (arith, h.count_le);
    label = λ i l. label i l (eq_or_not i count);
    rising = all_held.rising;
    slot_lt = λ i. omega (arith, pooled.slot_lt i, pooled.used_le);
    none = pooled.none;
    occupied = pooled.occupied;
    state_lt = λ i p q l k x.
        let m = (all_held.held i l).target_only p q k x in
        (label_move_source_lt L m, label_move_target_lt L m);
    turned = λ i l. turned_of_held (all_held.held i l);
  }
    where
      label : (i : ℕ) → i < count + 1 → (i ≡ count) ⊎ ¬ (i ≡ count)
          → (get_or labels' i 0 < action_limit) ⊎ (get_or labels' i 0 ≡ silent_label)
      label i l (inl e) = inr (ap (λ (j : ℕ). get_or labels' j 0) e ∙ P.put)
      label i l (inr d) = inl (omega (arith, P.kept i d, h.label_lt i (omega arith)))
