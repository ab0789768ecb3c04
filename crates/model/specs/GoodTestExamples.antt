-- The store of a model of document 01, "Bench models", and of one with an extra start (document 02, (iii)) are good by
-- evaluation, and with one number changed they are not; document 02, (vi) and (vii).
use Rattle.std.specs.Prelude.{true, false, [], ◌∷◌, ◌≡◌, refl, ◌-◌, set}
use Rattle.text.specs.Limits.{steps_end, store_length, action_place, target_place, extra_count_place, extra_place}
use Rattle.text.specs.Bytes.{kind_of}
use Rattle.text.specs.Numbers.{in_bounds?}
use Rattle.text.specs.Split.{same?}
use Rattle.text.specs.Model.{low, release, high, silent, Model, some_high?, last_start, above?, above_last?}
use Rattle.text.specs.Lines.{fits?, head_bounds, start_bounds, step_bounds, head_fits?, all_of, name_byte?, name?}
use Rattle.text.specs.Lines.{used?}
use Rattle.text.specs.Lines.{start_fits?, above_starts?, step_fits?}
use Rattle.model.specs.Store.{padded, action_numbers, actions_numbers, steps_numbers, head_row, extra_numbers, store_of}
use Rattle.model.specs.StoredModel.{listed, model_at}
use Rattle.model.specs.GoodTest.{each_after?, action_fits?, start_rises?, step_rises?, well_formed?, holds?, good?}

-- "One state, 0 print 0"
abbrev one_state : Model
one_state = record {
  head = record { states = 1; actions = 3; steps = 1; start = record { 0 = 0 } };
  actions =
      record { level = low; name = 115 ∷ 99 ∷ 97 ∷ 110 ∷ [] }
      ∷ record { level = high; name = 112 ∷ 114 ∷ 105 ∷ 110 ∷ 116 ∷ [] }
      ∷ record { level = release; name = 99 ∷ 108 ∷ 111 ∷ 115 ∷ 101 ∷ [] }
      ∷ [];
  extra_starts = [];
  steps = record { source = record { 0 = 0 }; action = record { 0 = 1 }; target = record { 0 = 0 } } ∷ [];
}

-- three states, of which it starts in 1 and 2; its high action has no step
abbrev two-starts : Model
two-starts = record {
  head = record { states = 3; actions = 1; steps = 0; start = record { 0 = 1 } };
  actions = record { level = high; name = 97 ∷ [] } ∷ [];
  extra_starts = 2 ∷ [];
  steps = [];
}

-- each store and its test
record Tested : Type 0 where
  one_state_good : good? (store_of one_state) ≡ true
  two_starts_good : good? (store_of two-starts) ≡ true
  -- "Unused places are 0": behind the steps, and behind the extra starts
  unused_step : good? (set (store_of one_state) (steps_end - 1) 1) ≡ false
  unused_start : good? (set (store_of two-starts) (store_length - 1) 2) ≡ false
  -- a target that is no state
  target_out_of_range : good? (set (store_of one_state) (target_place 0) 1) ≡ false
  -- an extra start that is no state, and one that is line 1's start
  start_out_of_range : good? (set (store_of two-starts) (extra_place 0) 3) ≡ false
  start_of_head : good? (set (store_of two-starts) (extra_place 0) 1) ≡ false
  -- a count of one more, and of one less, than there are extra starts
  start_missing : good? (set (store_of two-starts) extra_count_place 2) ≡ false
  start_uncounted : good? (set (store_of two-starts) extra_count_place 0) ≡ false
  -- "stores made from such texts are no longer good": the only high action made low, or release
  high_made_low : good? (set (store_of one_state) (action_place 1) low) ≡ false
  high_made_release : good? (set (store_of two-starts) (action_place 0) release) ≡ false
  -- one high action more
  low_made_high : good? (set (store_of one_state) (action_place 0) high) ≡ true
  -- "Level T (store value 3) marks a silent action", which is not high; 4 is no level
  low_made_silent : good? (set (store_of one_state) (action_place 0) 3) ≡ true
  high_made_silent : good? (set (store_of one_state) (action_place 1) silent) ≡ false
  level_unknown : good? (set (store_of one_state) (action_place 0) 4) ≡ false
  -- counts as large as 16 bits allow are refused before a model of that size is read off
  counts_too_large : good? (65535 ∷ 65535 ∷ 65535 ∷ 0 ∷ []) ≡ false
  extra_count_too_large : good? (set (store_of two-starts) extra_count_place 65535) ≡ false

tested : Tested
unfolding good? holds? well_formed? some_high? each_after? action_fits? start_rises? step_rises? model_at listed
    store_of
    padded action_numbers actions_numbers steps_numbers head_row extra_numbers start_fits? above_starts? last_start
    step_fits?
    used? name? name_byte? all_of head_fits? fits? head_bounds start_bounds step_bounds in_bounds? above? above_last?
    same?
    kind_of
tested = record {
  one_state_good = refl;
  two_starts_good = refl;
  unused_step = refl;
  unused_start = refl;
  target_out_of_range = refl;
  start_out_of_range = refl;
  start_of_head = refl;
  start_missing = refl;
  start_uncounted = refl;
  high_made_low = refl;
  high_made_release = refl;
  low_made_high = refl;
  low_made_silent = refl;
  high_made_silent = refl;
  level_unknown = refl;
  counts_too_large = refl;
  extra_count_too_large = refl;
}
