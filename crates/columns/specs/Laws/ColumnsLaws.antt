-- The columns of a state: no number has more than three digits.
-- Document 02, (ii): "Columns 1 to 3 hold the state, 5 to 7 the distance or `-`, 9 to 11 the class". Assumes nothing.
use Rattle.std.specs.Prelude.{List, ◌≡◌, refl, ℕ, ◌+◌, ◌≤◌, ◌<◌, length, get_or}
use Rattle.std.proofs.Common.{⊎_elim, arith}
use Rattle.lts.proofs.TestsLaws.{eq_or_not}
use Rattle.text.specs.Laws.DigitsLaws.{digits-length_le}
use Rattle.text.specs.Limits.{distances_length, unreachable}
use Rattle.text.specs.Model.{Model}
use Rattle.model.specs.Inner.Stored.{Stored}
use Rattle.model.specs.Laws.System.StepTestLaws.{distance_lt}
use Rattle.distances.specs.Distances.{DistanceList}
use Rattle.distances.specs.Laws.DistancesLaws.{list_distance}
use Rattle.writer.specs.Wrote.{Wrote}
use Rattle.columns.specs.Rows.{flush_right}
use Rattle.columns.specs.StateRows.{distance_text, number_width}
use Rattle.columns.specs.Inner.Columns.{DistanceFits}
use Rattle.columns.specs.Inner.Entries.{distance_of}
use Rattle.columns.specs.Inner.LineCount.{ShortColumns}
use Rattle.columns.specs.Laws.DistanceOfLaws.{distance_of_unreachable, distance_of_reachable}
use Rattle.columns.specs.Laws.RowsLaws.{flush_right-length}

pub list_fits : {s : List ℕ} {m : Model} {distances : List ℕ} {p : ℕ} → Stored s m
    → (distances_length ≤ length distances) × DistanceList m distances → p < m.head.states → DistanceFits distances p
list_fits st d l = record {
  state_lt = omega (arith, st.states_le);
  length_le = d.0;
  distance_lt = λ n.
      omega (arith, distance_lt st (list_distance st d.1 (omega (arith, l, st.states_le)) refl n), st.states_le);
}

distance_text-length_le : {distances : List ℕ} {p : ℕ} → DistanceFits distances p
    → length (distance_text (distance_of distances p)) ≤ number_width
unfolding distance_text
distance_text-length_le {distances} {p} f = ⊎_elim
    (λ e. rw (distance_of_unreachable distances p e) (omega arith))
    (λ n.
    rw (distance_of_reachable distances p n)
    (digits-length_le number_width (get_or distances p 0) (omega (arith, f.distance_lt n)) (omega arith) (omega arith)))
    (eq_or_not (get_or distances p 0) unreachable)

pub columns_short : {distances : List ℕ} {p class : ℕ} → DistanceFits distances p → class ≤ p
    → ShortColumns p (distance_of distances p) class
columns_short {distances} {p} {class} f l = record {
  state_le = digits-length_le number_width p (omega (arith, f.state_lt)) (omega arith) (omega arith);
  distance_le = distance_text-length_le f;
  class_le = digits-length_le number_width class (omega (arith, f.state_lt)) (omega arith) (omega arith);
}

-- where a column of three ends
pub column_place : (text : List ℕ) {entry exit : List ℕ} {at next : ℕ}
    → Wrote entry at (flush_right number_width text) exit next → length text ≤ number_width → next ≡ at + number_width
column_place text w l = omega (arith, w.place, flush_right-length number_width text l)
