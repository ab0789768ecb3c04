-- Damaged texts, each refused by evaluation with its fault at its line.
-- Document 01, "Refused because of the input" and "Bench models"; document 02, (i).
use Rattle.std.specs.Prelude.{List, [], ◌∷◌, ◌++◌, ◌≡◌, refl, ℕ, replicate}
use Rattle.text.specs.declared.Fault.TheVariants.{Absent, Shape, Digits, Range, Repeated, Order}
use Rattle.text.specs.Bytes.{kind_of}
use Rattle.text.specs.Numbers.{digits_value, number_shape?, number_of, in_bounds?, bounded, number_in}
use Rattle.text.specs.Split.{cons_first, split, same?}
use Rattle.text.specs.Model.{some_high?, above?, above_last?}
use Rattle.text.specs.Lines.{checked, fields_from, fields_of, cons_number, numbers_of, head_bounds, step_bounds}
use Rattle.text.specs.Lines.{row_letter, row_count, row_bounds, value_or0, states_of, row_from, row_of, head_from}
use Rattle.text.specs.Lines.{head_of}
use Rattle.text.specs.Lines.{level_of, all_of, name_byte?, name?, name_from, action_fields, used?, action_from}
use Rattle.text.specs.Lines.{action_of}
use Rattle.text.specs.Lines.{step_from, step_of}
use Rattle.model.specs.Reading.{too_long, faulty, on_line, or_fault, read_nothing, read_end, read_steps}
use Rattle.model.specs.Reading.{start_line?, start_lines, read_starts, behind_actions, read_actions, read_model}
use Rattle.model.specs.Reading.{read_text}

-- the text whose damage is shown: M,2,2,2,0 / A,L,a / A,H,b / S,0,0,0 / S,0,0,1 / E, line by line
abbrev pub head : List ℕ
head = 77 ∷ 44 ∷ 50 ∷ 44 ∷ 50 ∷ 44 ∷ 50 ∷ 44 ∷ 48 ∷ 10 ∷ []

-- A,L,a
abbrev pub low : List ℕ
low = 65 ∷ 44 ∷ 76 ∷ 44 ∷ 97 ∷ 10 ∷ []

-- A,H,b
abbrev pub high : List ℕ
high = 65 ∷ 44 ∷ 72 ∷ 44 ∷ 98 ∷ 10 ∷ []

-- S,0,0,0
abbrev pub first : List ℕ
first = 83 ∷ 44 ∷ 48 ∷ 44 ∷ 48 ∷ 44 ∷ 48 ∷ 10 ∷ []

-- S,0,0,1
abbrev pub second : List ℕ
second = 83 ∷ 44 ∷ 48 ∷ 44 ∷ 48 ∷ 44 ∷ 49 ∷ 10 ∷ []

-- E
abbrev pub end : List ℕ
end = 69 ∷ 10 ∷ []

-- each text and its reading
record Refused : Type 0 where
  -- the empty text
  empty : read_text [] ≡ faulty Absent 1
  -- A,X where no line end follows: "in a line 32 is tested first"
  absent_before_shape : read_text (head ++ (65 ∷ 44 ∷ 88 ∷ [])) ≡ faulty Absent 2
  -- cut after line 5
  cut : read_text (head ++ low ++ high ++ first ++ second) ≡ faulty Absent 6
  -- no line end after `E`
  no_line_end : read_text (head ++ low ++ high ++ first ++ second ++ (69 ∷ [])) ≡ faulty Absent 6
  -- a lone line end, any byte, or a line after `E`
  line_end_after : read_text (head ++ low ++ high ++ first ++ second ++ end ++ (10 ∷ [])) ≡ faulty Absent 7
  byte_after : read_text (head ++ low ++ high ++ first ++ second ++ end ++ (0 ∷ [])) ≡ faulty Absent 7
  line_after : read_text (head ++ low ++ high ++ first ++ second ++ end ++ (120 ∷ 10 ∷ [])) ≡ faulty Absent 7
  -- a step where `E` is due, and `E` where a step is due
  surplus_step : read_text (head ++ low ++ high ++ first ++ second ++ second ++ end) ≡ faulty Shape 6
  missing_step : read_text (head ++ low ++ high ++ first ++ end) ≡ faulty Shape 5
  -- M,99999,2,2,0 / M,100000,2,2,0 / M,02,2,2,0 / M,200,2,2,x: "then 31, then 3"
  five_digits : read_text ((77 ∷ 44 ∷ 57 ∷ 57 ∷ 57 ∷ 57 ∷ 57 ∷ 44 ∷ 50 ∷ 44 ∷ 50 ∷ 44 ∷ 48 ∷ 10 ∷ []) ++ low ++ high)
      ≡ faulty Range 1
  six_digits : read_text ((77 ∷ 44 ∷ 49 ∷ 48 ∷ 48 ∷ 48 ∷ 48 ∷ 48 ∷ 44 ∷ 50 ∷ 44 ∷ 50 ∷ 44 ∷ 48 ∷ 10 ∷ []) ++ low ++
      high)
      ≡ faulty Digits 1
  leading_zero : read_text ((77 ∷ 44 ∷ 48 ∷ 50 ∷ 44 ∷ 50 ∷ 44 ∷ 50 ∷ 44 ∷ 48 ∷ 10 ∷ []) ++ low ++ high)
      ≡ faulty Digits 1
  digits_before_range : read_text ((77 ∷ 44 ∷ 50 ∷ 48 ∷ 48 ∷ 44 ∷ 50 ∷ 44 ∷ 50 ∷ 44 ∷ 120 ∷ 10 ∷ []) ++ low ++ high)
      ≡ faulty Digits 1
  -- M,2,,2,0 / M,+2,2,2,0 / M,2,2, 2,0
  number_empty : read_text ((77 ∷ 44 ∷ 50 ∷ 44 ∷ 44 ∷ 50 ∷ 44 ∷ 48 ∷ 10 ∷ []) ++ low ++ high) ≡ faulty Digits 1
  number_signed : read_text ((77 ∷ 44 ∷ 43 ∷ 50 ∷ 44 ∷ 50 ∷ 44 ∷ 50 ∷ 44 ∷ 48 ∷ 10 ∷ []) ++ low ++ high)
      ≡ faulty Digits 1
  number_after_blank : read_text ((77 ∷ 44 ∷ 50 ∷ 44 ∷ 50 ∷ 44 ∷ 32 ∷ 50 ∷ 44 ∷ 48 ∷ 10 ∷ []) ++ low ++ high)
      ≡ faulty Digits 1
  -- M,0,1,0,0 / M,129,2,2,0 / M,2,2,2,2
  no_states : read_text ((77 ∷ 44 ∷ 48 ∷ 44 ∷ 49 ∷ 44 ∷ 48 ∷ 44 ∷ 48 ∷ 10 ∷ []) ++ low) ≡ faulty Range 1
  states_above_limit : read_text ((77 ∷ 44 ∷ 49 ∷ 50 ∷ 57 ∷ 44 ∷ 50 ∷ 44 ∷ 50 ∷ 44 ∷ 48 ∷ 10 ∷ []) ++ low ++ high)
      ≡ faulty Range 1
  start_not_below_states : read_text ((77 ∷ 44 ∷ 50 ∷ 44 ∷ 50 ∷ 44 ∷ 50 ∷ 44 ∷ 50 ∷ 10 ∷ []) ++ low ++ high)
      ≡ faulty Range 1
  -- M,2,2,2,0 and a carriage return / a blank before M / M,2,2,2
  carriage_return : read_text ((77 ∷ 44 ∷ 50 ∷ 44 ∷ 50 ∷ 44 ∷ 50 ∷ 44 ∷ 48 ∷ 13 ∷ 10 ∷ []) ++ low ++ high)
      ≡ faulty Digits 1
  blank : read_text ((32 ∷ []) ++ head ++ low ++ high) ≡ faulty Shape 1
  four_fields : read_text ((77 ∷ 44 ∷ 50 ∷ 44 ∷ 50 ∷ 44 ∷ 50 ∷ 10 ∷ []) ++ low ++ high) ≡ faulty Shape 1
  -- A,M,a / A,t,a / A,L,A / A,L, / A,L, and thirteen letters
  level_unknown : read_text (head ++ (65 ∷ 44 ∷ 77 ∷ 44 ∷ 97 ∷ 10 ∷ []) ++ high ++ first) ≡ faulty Shape 2
  level_small : read_text (head ++ (65 ∷ 44 ∷ 116 ∷ 44 ∷ 97 ∷ 10 ∷ []) ++ high ++ first) ≡ faulty Shape 2
  name_capital : read_text (head ++ (65 ∷ 44 ∷ 76 ∷ 44 ∷ 65 ∷ 10 ∷ []) ++ high ++ first) ≡ faulty Shape 2
  name_empty : read_text (head ++ (65 ∷ 44 ∷ 76 ∷ 44 ∷ 10 ∷ []) ++ high ++ first) ≡ faulty Shape 2
  name_of_thirteen : read_text (head ++ (65 ∷ 44 ∷ 76 ∷ 44 ∷ []) ++ replicate 13 97 ++ (10 ∷ []) ++ high ++ first)
      ≡ faulty Shape 2
  -- A,L,a and A,H,a
  name_repeated : read_text (head ++ low ++ (65 ∷ 44 ∷ 72 ∷ 44 ∷ 97 ∷ 10 ∷ []) ++ first) ≡ faulty Repeated 3
  -- S,1,x: "then 2, then 31"
  fields_before_digits : read_text (head ++ low ++ high ++ (83 ∷ 44 ∷ 49 ∷ 44 ∷ 120 ∷ 10 ∷ []) ++ second)
      ≡ faulty Shape 4
  -- S,0,0,2
  target_equal_to_states : read_text (head ++ low ++ high ++ (83 ∷ 44 ∷ 48 ∷ 44 ∷ 48 ∷ 44 ∷ 50 ∷ 10 ∷ []) ++ second)
      ≡ faulty Range 4
  -- a step given twice, and steps that fall
  step_given_twice : read_text (head ++ low ++ high ++ first ++ first ++ end) ≡ faulty Order 5
  steps_falling : read_text (head ++ low ++ high ++ second ++ first ++ end) ≡ faulty Order 5
  -- "A text of 16,384 bytes is judged by its lines, one of 16,385 gets 1."
  most_bytes : read_text (replicate 16384 10) ≡ faulty Shape 1
  too_many_bytes : read_text (replicate 16385 10) ≡ too_long

refused : Refused
unfolding read_text read_model read_actions behind_actions some_high? start_lines start_line? read_starts read_steps
    read_end
    read_nothing or_fault on_line step_of step_from action_of action_from used? action_fields name_from name?
    name_byte? all_of
    level_of head_of head_from row_of row_from states_of value_or0 row_bounds row_count row_letter step_bounds
    head_bounds numbers_of
    cons_number fields_of fields_from checked above? above_last? same? split cons_first number_in bounded in_bounds?
    number_of
    number_shape? digits_value kind_of
refused = record {
  empty = refl;
  absent_before_shape = refl;
  cut = refl;
  no_line_end = refl;
  line_end_after = refl;
  byte_after = refl;
  line_after = refl;
  surplus_step = refl;
  missing_step = refl;
  five_digits = refl;
  six_digits = refl;
  leading_zero = refl;
  digits_before_range = refl;
  number_empty = refl;
  number_signed = refl;
  number_after_blank = refl;
  no_states = refl;
  states_above_limit = refl;
  start_not_below_states = refl;
  carriage_return = refl;
  blank = refl;
  four_fields = refl;
  level_unknown = refl;
  level_small = refl;
  name_capital = refl;
  name_empty = refl;
  name_of_thirteen = refl;
  name_repeated = refl;
  fields_before_digits = refl;
  target_equal_to_states = refl;
  step_given_twice = refl;
  steps_falling = refl;
  most_bytes = refl;
  too_many_bytes = refl;
}
