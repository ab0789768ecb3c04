-- Each text of specs/HighCases is refused as it says, by evaluation.
use Rattle.std.proofs.Common.{refl}
use Rattle.text.specs.Bytes.{kind_of}
use Rattle.text.specs.Numbers.{digits_value, number_shape?, number_of, in_bounds?, bounded, number_in}
use Rattle.text.specs.Split.{cons_first, split, same?}
use Rattle.text.specs.Model.{some_high?, above?, above_last?}
use Rattle.text.specs.Lines.{checked, fields_from, fields_of, cons_number, numbers_of, head_bounds, step_bounds}
use Rattle.text.specs.Lines.{row_letter, row_count, row_bounds, value_or0, states_of, row_from, row_of, head_from}
use Rattle.text.specs.Lines.{head_of}
use Rattle.text.specs.Lines.{level_of, all_of, name_byte?, name?, name_from, action_fields, used?, action_from}
use Rattle.text.specs.Lines.{action_of}
use Rattle.text.specs.Lines.{step_from, step_of}
use Rattle.model.specs.Reading.{on_line, or_fault, read_nothing, read_end, read_steps}
use Rattle.model.specs.Reading.{start_line?, start_lines, read_starts, behind_actions, read_actions, read_model}
use Rattle.model.specs.Reading.{read_text}
use Rattle.model.specs.HighCases.{RefusedHigh}

pub refused_high : RefusedHigh
unfolding read_text read_model read_actions behind_actions some_high? start_lines start_line? read_starts read_steps
    read_end
    read_nothing or_fault on_line step_of step_from action_of action_from used? action_fields name_from name?
    name_byte? all_of
    level_of head_of head_from row_of row_from states_of value_or0 row_bounds row_count row_letter step_bounds
    head_bounds numbers_of
    cons_number fields_of fields_from checked above? above_last? same? split cons_first number_in bounded in_bounds?
    number_of
    number_shape? digits_value kind_of
refused_high = record {
  no_high = refl;
  one_low = refl;
  silent_not_high = refl;
  next_absent = refl;
  next_an_action = refl;
  next_a_start = refl;
  next_without_fields = refl;
  next_out_of_range = refl;
  next_a_byte = refl;
  last_absent = refl;
  last_name_capital = refl;
  last_name_repeated = refl;
  first_level_unknown = refl;
  first_high = refl;
  last_high = refl;
}
