-- The worked example of document 01, "The page", a model with extra starts (document 02, (iii)) and one with a silent
-- action (document 02, (vii)) read and write by evaluation; the empty text is refused.
use Rattle.std.specs.Prelude.{List, [], ◌∷◌, ◌≡◌, refl, ℕ, get_or}
use Rattle.text.specs.declared.Fault.TheVariants.{Absent}
use Rattle.text.specs.declared.StepLine.{StepLine}
use Rattle.text.specs.Bytes.{kind_of}
use Rattle.text.specs.Limits.{action_place}
use Rattle.text.specs.Numbers.{digits_value, number_shape?, number_of, in_bounds?, bounded, number_in, digits_up_to}
use Rattle.text.specs.Numbers.{digits}
use Rattle.text.specs.Split.{cons_first, split, same?}
use Rattle.text.specs.Model.{low, release, high, silent, Model, some_high?, last_start, above?, above_last?}
use Rattle.text.specs.Lines.{checked, fields_from, fields_of, cons_number, numbers_of, head_bounds, start_bounds}
use Rattle.text.specs.Lines.{step_bounds}
use Rattle.text.specs.Lines.{row_letter, row_count, row_bounds, value_or0, states_of, row_from, row_of, head_from}
use Rattle.text.specs.Lines.{head_of}
use Rattle.text.specs.Lines.{level_of, all_of, name_byte?, name?, name_from, action_fields, used?, action_from}
use Rattle.text.specs.Lines.{action_of}
use Rattle.text.specs.Lines.{above_starts?, start_from, start_of, step_from, step_of}
use Rattle.model.specs.Reading.{done, faulty, on_line, or_fault, read_nothing, read_end, read_steps, read_starts}
use Rattle.model.specs.Reading.{start_line?, start_lines, behind_actions, read_actions}
use Rattle.model.specs.Reading.{read_model, read_text}
use Rattle.model.specs.Text.{head_text, level_byte, action_text, start_text, step_text, actions_text, starts_text}
use Rattle.model.specs.Text.{steps_text, model_text}
use Rattle.model.specs.Store.{padded, action_numbers, actions_numbers, steps_numbers, head_row, extra_numbers, store_of}

abbrev step : ℕ → ℕ → ℕ → StepLine
step p a q = record { source = record { 0 = p }; action = record { 0 = a }; target = record { 0 = q } }

-- 0 scan 1, 0 print 2, 1 scan 1, 2 scan 3; scan is low, print high, close a release
abbrev pub worked : Model
worked = record {
  head = record { states = 4; actions = 3; steps = 4; start = record { 0 = 0 } };
  actions =
      record { level = low; name = 115 ∷ 99 ∷ 97 ∷ 110 ∷ [] }
      ∷ record { level = high; name = 112 ∷ 114 ∷ 105 ∷ 110 ∷ 116 ∷ [] }
      ∷ record { level = release; name = 99 ∷ 108 ∷ 111 ∷ 115 ∷ 101 ∷ [] }
      ∷ [];
  extra_starts = [];
  steps = step 0 0 1 ∷ step 0 1 2 ∷ step 1 0 1 ∷ step 2 0 3 ∷ [];
}

-- M,4,3,4,0 / A,L,scan / A,H,print / A,D,close / S,0,0,1 / S,0,1,2 / S,1,0,1 / S,2,0,3 / E
abbrev pub worked_text : List ℕ
worked_text =
    77 ∷ 44 ∷ 52 ∷ 44 ∷ 51 ∷ 44 ∷ 52 ∷ 44 ∷ 48 ∷ 10
    ∷ 65 ∷ 44 ∷ 76 ∷ 44 ∷ 115 ∷ 99 ∷ 97 ∷ 110 ∷ 10
    ∷ 65 ∷ 44 ∷ 72 ∷ 44 ∷ 112 ∷ 114 ∷ 105 ∷ 110 ∷ 116 ∷ 10
    ∷ 65 ∷ 44 ∷ 68 ∷ 44 ∷ 99 ∷ 108 ∷ 111 ∷ 115 ∷ 101 ∷ 10
    ∷ 83 ∷ 44 ∷ 48 ∷ 44 ∷ 48 ∷ 44 ∷ 49 ∷ 10
    ∷ 83 ∷ 44 ∷ 48 ∷ 44 ∷ 49 ∷ 44 ∷ 50 ∷ 10
    ∷ 83 ∷ 44 ∷ 49 ∷ 44 ∷ 48 ∷ 44 ∷ 49 ∷ 10
    ∷ 83 ∷ 44 ∷ 50 ∷ 44 ∷ 48 ∷ 44 ∷ 51 ∷ 10
    ∷ 69 ∷ 10
    ∷ []

-- M,4,1,0,1 / A,H,a / I,2 / I,3 / E: a model that wakes in three of its states, and whose high
-- action has no step
abbrev woken : Model
woken = record {
  head = record { states = 4; actions = 1; steps = 0; start = record { 0 = 1 } };
  actions = record { level = high; name = 97 ∷ [] } ∷ [];
  extra_starts = 2 ∷ 3 ∷ [];
  steps = [];
}

abbrev woken_text : List ℕ
woken_text =
    77 ∷ 44 ∷ 52 ∷ 44 ∷ 49 ∷ 44 ∷ 48 ∷ 44 ∷ 49 ∷ 10
    ∷ 65 ∷ 44 ∷ 72 ∷ 44 ∷ 97 ∷ 10
    ∷ 73 ∷ 44 ∷ 50 ∷ 10
    ∷ 73 ∷ 44 ∷ 51 ∷ 10
    ∷ 69 ∷ 10
    ∷ []

-- M,2,2,1,0 / A,H,print / A,T,tick / S,0,1,1 / E: the timer ticks once
abbrev ticking : Model
ticking = record {
  head = record { states = 2; actions = 2; steps = 1; start = record { 0 = 0 } };
  actions =
      record { level = high; name = 112 ∷ 114 ∷ 105 ∷ 110 ∷ 116 ∷ [] }
      ∷ record { level = silent; name = 116 ∷ 105 ∷ 99 ∷ 107 ∷ [] }
      ∷ [];
  extra_starts = [];
  steps = step 0 1 1 ∷ [];
}

abbrev ticking_text : List ℕ
ticking_text =
    77 ∷ 44 ∷ 50 ∷ 44 ∷ 50 ∷ 44 ∷ 49 ∷ 44 ∷ 48 ∷ 10
    ∷ 65 ∷ 44 ∷ 72 ∷ 44 ∷ 112 ∷ 114 ∷ 105 ∷ 110 ∷ 116 ∷ 10
    ∷ 65 ∷ 44 ∷ 84 ∷ 44 ∷ 116 ∷ 105 ∷ 99 ∷ 107 ∷ 10
    ∷ 83 ∷ 44 ∷ 48 ∷ 44 ∷ 49 ∷ 44 ∷ 49 ∷ 10
    ∷ 69 ∷ 10
    ∷ []

reads : (read_text worked_text ≡ done worked) × (read_text woken_text ≡ done woken) ×
    (read_text ticking_text ≡ done ticking)
unfolding read_text read_model read_actions behind_actions some_high? start_lines start_line? read_starts read_steps
    read_end
    read_nothing or_fault on_line step_of step_from start_of start_from above_starts? last_start action_of action_from
    used?
    action_fields name_from name? name_byte? all_of level_of head_of head_from row_of row_from states_of value_or0
    row_bounds
    row_count row_letter step_bounds start_bounds head_bounds numbers_of cons_number fields_of fields_from checked
    above?
    above_last? same? split cons_first number_in bounded in_bounds? number_of number_shape? digits_value kind_of
reads = (refl, refl, refl)

-- "Level T (store value 3)": tick is action 1
stores-silent : get_or (store_of ticking) (action_place 1) 0 ≡ 3
unfolding store_of padded action_numbers actions_numbers steps_numbers head_row extra_numbers
stores-silent = refl

writes : (model_text worked ≡ worked_text) × (model_text woken ≡ woken_text) × (model_text ticking ≡ ticking_text)
unfolding model_text head_text actions_text action_text level_byte starts_text start_text steps_text step_text digits
    digits_up_to
writes = (refl, refl, refl)

empty_absent : read_text [] ≡ faulty Absent 1
unfolding read_text read_model on_line split
empty_absent = refl
