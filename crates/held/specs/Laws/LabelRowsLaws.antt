-- Two rows hold the moves of a label, as sets of targets and of sources, and stay so while other rows change.
-- Assumes nothing.
use Rattle.std.specs.Prelude.{List, ◌≡◌, ℕ, ◌+◌, ◌<◌}
use Rattle.std.proofs.Common.{sym, subst, arith}
use Rattle.lts.specs.Alike.{Moves}
use Rattle.text.specs.Limits.{state_limit}
use Rattle.silent.specs.Labelled.{LabelList, LabelMove}
use Rattle.silent.specs.Inner.Targets.{Targets}
use Rattle.silent.specs.Laws.LabelledLaws.{label_move_source_lt, label_move_target_lt}
use Rattle.silent.specs.Laws.TurnedLaws.{label_list_turned, label_move_turned}
use Rattle.held.specs.Held.{slot_rows, target_row, source_row, HeldAt, HeldLabel}
use Rattle.held.specs.Inner.Slots.{RowsKept, LabelsKept, RowHeld}

-- The moves are among the states that there can be.
pub record AmongStates (Move : Moves) : Type 0 where
  pub source_lt : (p a q : ℕ) → Move p a q → p < state_limit
  pub target_lt : (p a q : ℕ) → Move p a q → q < state_limit

module _ {n : ℕ} {from sources targets : List ℕ} (L : LabelList n from sources targets) where
  pub label_move_among : AmongStates (LabelMove n from sources targets)
  label_move_among = record {
    source_lt = λ p a q m. omega (arith, label_move_source_lt L m, L.states_le);
    target_lt = λ p a q m. omega (arith, label_move_target_lt L m, L.states_le);
  }

  -- The one row has the targets of the moves, and the next one those of the moves turned round.
  pub held_label_of_rows : {a row : ℕ} {sets sets' slots slots' pool pool' : List ℕ} → row ≡ target_row a
      → row + 1 < slot_rows → Targets (LabelMove n from sources targets) a sets
      → Targets (LabelMove n from targets sources) a sets' → RowHeld sets row state_limit slots pool
      → RowsKept (row + 1) slots pool slots' pool' → RowHeld sets' (row + 1) state_limit slots' pool'
      → HeldLabel (LabelMove n from sources targets) slots' pool' a
  held_label_of_rows {a} {row} {slots' = slots'} {pool' = pool'} e l T B R K S = record {
    target = λ p q m.
        let k = label_move_among.source_lt p a q m in
        subst (λ (r : ℕ). HeldAt slots' pool' r p q) e (K.there row p q (omega arith) (λ f. omega (arith, f)) k
        (R.all p q k (T.reached p q m)));
    target_only = λ p q k h.
        T.only p q k (R.only p q k (K.back row p q (omega arith) (λ f. omega (arith, f)) k
        (subst (λ (r : ℕ). HeldAt slots' pool' r p q) (sym e) h)));
    source = λ p q m. subst (λ (r : ℕ). HeldAt slots' pool' (r + 1) q p) e
        (S.all q p (label_move_among.target_lt p a q m) (B.reached q p (label_move_turned L m)));
    source_only = λ p q k h.
        label_move_turned (label_list_turned L) (B.only q p k (S.only q p k
        (subst (λ (r : ℕ). HeldAt slots' pool' (r + 1) q p) (sym e) h)));
  }

pub labels_kept_of_rows : {a row : ℕ} {slots slots' slots'' pool pool' pool'' : List ℕ} → row ≡ target_row a
    → RowsKept row slots pool slots' pool' → RowsKept (row + 1) slots' pool' slots'' pool''
    → LabelsKept a slots pool slots'' pool''
labels_kept_of_rows e K J = record {
  there = λ r p x l d f k h. J.there r p x l (λ i. f (omega (arith, i, e))) k
      (K.there r p x l (λ i. d (omega (arith, i, e))) k h);
  back = λ r p x l d f k h. K.back r p x l (λ i. d (omega (arith, i, e))) k
      (J.back r p x l (λ i. f (omega (arith, i, e))) k h);
}

-- Another label's rows are kept.
pub held_label_kept : {Move : Moves} {a b : ℕ} {slots slots' pool pool' : List ℕ} → AmongStates Move
    → source_row b < slot_rows → ¬ (target_row b ≡ target_row a) → ¬ (target_row b ≡ source_row a)
    → ¬ (source_row b ≡ target_row a) → LabelsKept a slots pool slots' pool' → HeldLabel Move slots pool b
    → HeldLabel Move slots' pool' b
held_label_kept {a = a} {b} A l d f g K h = record {
  target = λ p q m. K.there (target_row b) p q (omega arith) d f (A.source_lt p b q m) (h.target p q m);
  target_only = λ p q k x. h.target_only p q k (K.back (target_row b) p q (omega arith) d f k x);
  source = λ p q m. K.there (source_row b) q p l g (λ e. d (omega (arith, e))) (A.target_lt p b q m) (h.source p q m);
  source_only = λ p q k x. h.source_only p q k (K.back (source_row b) q p l g (λ e. d (omega (arith, e))) k x);
}
