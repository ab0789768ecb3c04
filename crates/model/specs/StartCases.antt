-- Texts with `I` lines that are refused, each by evaluation with its fault at its line.
-- Document 02, (iii).
use Rattle.std.specs.Prelude.{List, [], ◌∷◌, ◌++◌, ◌≡◌, refl, ℕ, ◌+◌}
use Rattle.text.specs.declared.Fault.TheVariants.{Absent, Shape, Digits, Range, StartOrder}
use Rattle.text.specs.Bytes.{kind_of}
use Rattle.text.specs.Numbers.{digits_value, number_shape?, number_of, in_bounds?, bounded, number_in}
use Rattle.text.specs.Split.{cons_first, split, same?}
use Rattle.text.specs.Model.{some_high?, last_start, above_last?}
use Rattle.text.specs.Lines.{checked, fields_from, fields_of, cons_number, numbers_of, head_bounds, start_bounds}
use Rattle.text.specs.Lines.{step_bounds}
use Rattle.text.specs.Lines.{row_letter, row_count, row_bounds, value_or0, states_of, row_from, row_of, head_from}
use Rattle.text.specs.Lines.{head_of}
use Rattle.text.specs.Lines.{level_of, all_of, name_byte?, name?, name_from, action_fields, used?, action_from}
use Rattle.text.specs.Lines.{action_of}
use Rattle.text.specs.Lines.{above_starts?, start_from, start_of, step_from, step_of}
use Rattle.model.specs.Reading.{faulty, on_line, or_fault, read_steps}
use Rattle.model.specs.Reading.{start_line?, start_lines, read_starts, behind_actions, read_actions, read_model}
use Rattle.model.specs.Reading.{read_text}
use Rattle.model.specs.CornerCases.{low, high, first, second, end}

-- M,4,2,2,1: the first line of a model of four states that starts in 1
abbrev head_of_four : List ℕ
head_of_four = 77 ∷ 44 ∷ 52 ∷ 44 ∷ 50 ∷ 44 ∷ 50 ∷ 44 ∷ 49 ∷ 10 ∷ []

-- M,4,2,2,1 / A,L,a / A,H,b: the lines before the `I` lines
abbrev before_starts : List ℕ
before_starts = head_of_four ++ low ++ high

-- I,p, for a p of one digit
abbrev start_line : ℕ → List ℕ
start_line p = 73 ∷ 44 ∷ (48 + p) ∷ 10 ∷ []

-- each text and its reading
record RefusedStarts : Type 0 where
  -- I,2 twice: "An `I` line not above the one before it"; I,1 and I,0: "the first not above line 1's start"
  start_given_twice : read_text (before_starts ++ start_line 2 ++ start_line 2 ++ first) ≡ faulty StartOrder 5
  starts_falling : read_text (before_starts ++ start_line 3 ++ start_line 2 ++ first) ≡ faulty StartOrder 5
  start_of_head : read_text (before_starts ++ start_line 1 ++ first) ≡ faulty StartOrder 4
  start_below_head : read_text (before_starts ++ start_line 0 ++ first) ≡ faulty StartOrder 4
  -- I,4 / I,02 / I,2,3 / I / I,2 where no line end follows
  start_equal_to_states : read_text (before_starts ++ start_line 4 ++ first) ≡ faulty Range 4
  start_leading_zero : read_text (before_starts ++ (73 ∷ 44 ∷ 48 ∷ 50 ∷ 10 ∷ []) ++ first) ≡ faulty Digits 4
  start_and_more : read_text (before_starts ++ (73 ∷ 44 ∷ 50 ∷ 44 ∷ 51 ∷ 10 ∷ []) ++ first) ≡ faulty Shape 4
  start_letter_only : read_text (before_starts ++ (73 ∷ 10 ∷ []) ++ first) ≡ faulty Shape 4
  start_cut : read_text (before_starts ++ (73 ∷ 44 ∷ 50 ∷ [])) ≡ faulty Absent 4
  -- past the last state: 3 or 33
  start_past_states : read_text (before_starts ++ start_line 2 ++ start_line 3 ++ start_line 4 ++ first) ≡ faulty
      Range 6
  start_past_last : read_text (before_starts ++ start_line 2 ++ start_line 3 ++ start_line 3 ++ first) ≡ faulty
      StartOrder 6
  -- before the last `A` line, and behind an `S` line
  start_before_action : read_text (head_of_four ++ low ++ start_line 2 ++ high ++ first) ≡ faulty Shape 3
  start_behind_step : read_text (before_starts ++ first ++ start_line 2 ++ second ++ end) ≡ faulty Shape 5

refused_starts : RefusedStarts
unfolding read_text read_model read_actions behind_actions some_high? start_lines start_line? read_starts read_steps
    or_fault
    on_line step_of step_from start_of start_from above_starts? last_start action_of action_from used? action_fields
    name_from
    name? name_byte? all_of level_of head_of head_from row_of row_from states_of value_or0 row_bounds row_count
    row_letter
    step_bounds start_bounds head_bounds numbers_of cons_number fields_of fields_from checked above_last? same? split
    cons_first
    number_in bounded in_bounds? number_of number_shape? digits_value kind_of
refused_starts = record {
  start_given_twice = refl;
  starts_falling = refl;
  start_of_head = refl;
  start_below_head = refl;
  start_equal_to_states = refl;
  start_leading_zero = refl;
  start_and_more = refl;
  start_letter_only = refl;
  start_cut = refl;
  start_past_states = refl;
  start_past_last = refl;
  start_before_action = refl;
  start_behind_step = refl;
}
