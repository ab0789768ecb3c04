-- The lines of the states: what their fields say, and one more of them, in either form.
-- Document 01, "The page"; document 02, (ii). Assumes nothing.
use Rattle.std.specs.Prelude.{List, [], ◌∷◌, ◌++◌, ◌⊎◌, ◌≡◌, refl, ℕ, suc, ◌+◌, ◌≤◌, ◌<◌, get_or}
use Rattle.std.proofs.Common.{inl, inr, sym, subst, add-one, length-append}
use Rattle.std.proofs.Math.Option.{Option, none, some}
use Rattle.std.proofs.Math.Path.{ap}
use native.Mathlib.Omega.{arith}
use Rattle.std.proofs.Math.ListN.{length}
use Rattle.lts.specs.Alike.{Rank, bisimilar}
use Rattle.lts.proofs.AlikeLaws.{rank_unique, bisimilar_refl}
use Rattle.lts.proofs.TestsLaws.{eq_or_not, le_of_not_lt}
use Rattle.text.specs.Limits.{pair_place, unreachable}
use Rattle.text.specs.Model.{Model}
use Rattle.text.specs.Laws.DigitsLaws.{digits-length_le}
use Rattle.writer.specs.Wrote.{Wrote}
use Rattle.text.specs.Numbers.{digits}
use Rattle.model.specs.Inner.Stored.{Stored}
use Rattle.model.specs.Laws.System.StepTestLaws.{distance_lt}
use Rattle.distances.specs.Laws.DistancesLaws.{list_distance, list_unreachable}
use Rattle.lines.specs.Page.{DistanceField, unreached, reached, ClassOf, StateLines, no_state, next_state}
use Rattle.lines.specs.declared.lines.Form.{Form}
use Rattle.lines.specs.declared.lines.Form.TheVariants.{Page, Roll}
use Rattle.lines.specs.PageLines.{PageLine, state_line, distance_text}
use Rattle.lines.specs.Roll.{form_bytes}
use Rattle.verdicts.specs.Inner.ModelLists.{ModelLists}
use Rattle.lines.specs.Inner.Entries.{distance_of, LowestZero}
use Rattle.lines.specs.Inner.LinesWritten.{LinesWritten}
use Rattle.lines.specs.Inner.Room.{state_room, states_room}
use Rattle.columns.specs.Inner.LineCount.{ShortColumns, NamesFit}
use Rattle.columns.specs.Laws.RowsLaws.{state_rows_bytes_length}
use Rattle.columns.specs.StateRows.{number_width}
use Rattle.lines.specs.Laws.PageLinesLaws.{line_bytes-length, state-length}
use Rattle.columns.specs.Laws.DistanceOfLaws.{distance_of_unreachable, distance_of_reachable}
use Rattle.lines.specs.Laws.FormLaws.{form_bytes_page, form_bytes_roll}
use Rattle.lines.specs.Laws.LinesWrittenLaws.{written_lines, written_append}
use Rattle.model.specs.System.{IsState, view}
use Rattle.lts.specs.Weak.{WeakMove}

-- ---- the columns

-- numbers of states, and distances, have at most 3 digits
module _ {s : List ℕ} {m : Model} (st : Stored s m) where
  digits_short : (n : ℕ) → n < m.head.states → length (digits n) ≤ number_width
  digits_short n l = digits-length_le 3 n (omega (arith, st.states_le)) (omega arith) (omega arith)

  distance_text_short : (p : ℕ) (d : Option ℕ) → DistanceField m p d → length (distance_text d) ≤ number_width
  unfolding distance_text
  distance_text_short p none (unreached n) = omega arith
  distance_text_short p (some d) (reached x) = digits_short d (distance_lt st x)

  pub short_columns : (p : ℕ) (d : Option ℕ) (class : ℕ) → p < m.head.states → DistanceField m p d
      → class < m.head.states → ShortColumns p d class
  short_columns p d class l x k = record {
    state_le = digits_short p l;
    distance_le = distance_text_short p d x;
    class_le = digits_short class k;
  }

module _ {s : List ℕ} {m : Model} {roles distances table : List ℕ} (L : ModelLists m s roles distances table) where
  -- ---- the distance

  pub distance_field : (p : ℕ) → p < m.head.states → DistanceField m p (distance_of distances p)
  distance_field p l = go (eq_or_not (get_or distances p 0) unreachable)
    where
      go : (get_or distances p 0 ≡ unreachable) ⊎ (¬ (get_or distances p 0 ≡ unreachable))
          → DistanceField m p (distance_of distances p)
      go (inl e) = rw (distance_of_unreachable distances p e)
          (unreached (list_unreachable L.stored L.distances_are e))
      go (inr n) = rw (distance_of_reachable distances p n)
          (reached (list_distance L.stored L.distances_are (omega (arith, L.stored.states_le)) refl n))

  -- ---- the class

  pub diagonal_zero : (p : ℕ) → p < m.head.states → get_or table (pair_place p p) 0 ≡ 0
  diagonal_zero p l = rank_unique (WeakMove (view m)) p p (get_or table (pair_place p p) 0) 0 (L.ranks.ranks p p l l)
      (bisimilar (bisimilar_refl (WeakMove (view m)) p))

  pub class_of_zero : (p q : ℕ) → p < m.head.states → LowestZero table p q → ClassOf m p q
  class_of_zero p q l z = record {
    class_among = omega (arith, l, z.le);
    rank_zero = subst (Rank (WeakMove (view m)) p q) z.zero (L.ranks.ranks p q l (omega (arith, z.le)));
    lowest = λ i k _ x. z.lowest i k (rank_unique (WeakMove (view m)) p i (get_or table (pair_place p i) 0) 0
        (L.ranks.ranks p i l (omega (arith, z.le))) x);
  }

  -- ---- the line

  module _ (p : ℕ) (d : Option ℕ) (class : ℕ) (l : p < m.head.states) (x : DistanceField m p d) (k : class ≤ p) where
    columns : ShortColumns p d class
    columns = short_columns L.stored p d class l x (omega (arith, l, k))

    -- `C,state,distance,class` and its end, or the lines of its columns and names
    pub state_length_le : (form : Form) → NamesFit m
        → length (form_bytes form m (state_line p d class ∷ [])) ≤ state_room form m p
    unfolding state_room
    state_length_le Page names = omega (
      arith,
      ap length (form_bytes_page m (state_line p d class) refl),
      line_bytes-length (state_line p d class),
      state-length p d class,
      columns.state_le,
      columns.distance_le,
      columns.class_le,
    )
    state_length_le Roll names = omega (
      arith,
      ap length (form_bytes_roll m p d class refl),
      state_rows_bytes_length m names p d class columns,
    )

-- ---- the class of a state is the lowest number of rank 0 to it, be it a state or not

module _ {m : Model} {p class : ℕ} where
  pub class_of_lowest : ClassOf m p class → (q : ℕ) → q < class → ¬ (Rank (WeakMove (view m)) p q 0)
  class_of_lowest x q l = x.lowest q l (omega (arith, l, x.class_among))

  pub class_of_of_lowest : IsState m p → Rank (WeakMove (view m)) p class 0
      → ((q : ℕ) → q < class → ¬ (Rank (WeakMove (view m)) p q 0)) → ClassOf m p class
  class_of_of_lowest l r lowest =
      let le : class ≤ p = le_of_not_lt class p (λ k. lowest p k (bisimilar (bisimilar_refl (WeakMove (view m)) p))) in
      record { class_among = omega (arith, l, le); rank_zero = r; lowest = λ q k _. lowest q k }

-- ---- the lines

-- as many lines as states
pub state_lines-length : {m : Model} {n : ℕ} {lines : List PageLine} → StateLines m n lines → length lines ≡ n
state_lines-length no_state = refl
state_lines-length (next_state {n = n} {lines = lines} {distance = d} {class = c} x f k) =
    omega (arith, state_lines-length x, length-append lines (state_line n d c ∷ []))

-- one line more
pub state_lines_next : {form : Form} {m : Model} {i class at mid next : ℕ} {distance : Option ℕ}
    {entry middle exit : List ℕ} → LinesWritten form m (StateLines m i) (states_room form m i) entry at middle mid
    → DistanceField m i distance → ClassOf m i class
    → length (form_bytes form m (state_line i distance class ∷ [])) ≤ state_room form m i
    → Wrote middle mid (form_bytes form m (state_line i distance class ∷ [])) exit next
    → LinesWritten form m (StateLines m (i + 1)) (states_room form m (i + 1)) entry at exit next
unfolding states_room
state_lines_next {m = m} {i} {class} {distance = distance} x f k l w = rw add-one (written_append
    (λ xs ys (p : StateLines m i xs) (q : ys ≡ state_line i distance class ∷ []).
    subst (λ (zs : List PageLine). StateLines m (suc i) (xs ++ zs)) (sym q) (next_state p f k)) x
    (written_lines (state_line i distance class ∷ []) refl l w))

-- all of them
pub state_lines_all : {form : Form} {m : Model} {i at next : ℕ} {entry exit : List ℕ} → i ≡ m.head.states
    → LinesWritten form m (StateLines m i) (states_room form m i) entry at exit next
    → LinesWritten form m (StateLines m m.head.states) (states_room form m m.head.states) entry at exit next
state_lines_all {form} {m} {at = at} {next} {entry} {exit} e x =
    subst (λ (n : ℕ). LinesWritten form m (StateLines m n) (states_room form m n) entry at exit next) e x
