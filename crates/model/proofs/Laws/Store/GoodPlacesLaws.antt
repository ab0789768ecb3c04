-- A store with good places holds the model that it shows.
-- Document 01, "The model store"; document 02, (iii) and (vi). Assumes nothing.
use Rattle.std.proofs.Common.{List, [], ◌∷◌, ◌≡◌, drop, ◌∙◌, get_or-drop, ℕ, zero, suc, ◌+◌, ◌-◌, ◌*◌, ◌≤◌, ◌<◌, arith}
use Rattle.std.proofs.Math.Path.{refl, sym, ap}
use Rattle.std.proofs.Math.Dec.{not_T}
use Rattle.std.proofs.Math.ListN.{length, take, length-drop}
use Rattle.std.proofs.Math.Seq.{take-add}
use Rattle.lts.proofs.TestsLaws.{and_intro}
use Rattle.text.specs.Limits.{name_limit, state_count_place, action_count_place, step_count_place, start_place}
use Rattle.text.specs.Limits.{head_end}
use Rattle.text.specs.Limits.{actions_begin, action_size, actions_length, actions_end, action_column, target_column}
use Rattle.text.specs.Limits.{steps_begin, step_size, steps_length, steps_end, extra_count_place, extra_begin}
use Rattle.text.specs.Limits.{extra_limit}
use Rattle.text.specs.Limits.{store_length}
use Rattle.text.specs.Limits.{action_place, name_length_place, name_place, step_place, action_of_step_place}
use Rattle.text.specs.Limits.{target_place}
use Rattle.text.specs.Bytes.{between?}
use Rattle.text.specs.Model.{above_last?}
use Rattle.text.specs.Lines.{all_of, name_byte?, name?, used?}
use Rattle.model.specs.Store.{padded, action_numbers, actions_numbers, step_row, steps_numbers, head_row}
use Rattle.model.specs.Store.{extra_numbers, store_of}
use Rattle.model.specs.WellFormed.{ActionFits, StartFits, StepFits, WellFormed}
use Rattle.model.specs.StoredModel.{head_at, action_at, step_at, extra_count_at, extra_start_at, listed, model_at}
use Rattle.model.specs.StoredModel.{Holds}
use Rattle.text.specs.Inner.Ranges.{HeadRanges}
use Rattle.text.specs.Laws.BytesLaws.{le→between?}
use Rattle.text.specs.Laws.RangesLaws.{head_fits?→HeadRanges, lt→above_starts?}
use Rattle.model.specs.Laws.Store.StartsLaws.{last_start-listed}
use Rattle.model.proofs.Laws.Store.StoredModelLaws.{listed-length, listed-take}
use Rattle.model.specs.Inner.GoodPlaces.{name_length_at, GoodAction, GoodPlaces}
use Rattle.model.specs.Laws.Store.PlacesLaws.{part_length, part-cons, padded_part, get_or→all_of}
use Rattle.model.specs.Laws.Store.ListedLaws.{listed_each, used?_listed, blocks_listed}
use Rattle.model.specs.Laws.Store.AboveLaws.{above_last?-append}
use Rattle.model.specs.Laws.Store.NamePlacesLaws.{name_at, eq→SameName}

module _ (s : List ℕ) (fits : store_length ≤ length s) where
  module _ (g : GoodPlaces s) where
    ranges : HeadRanges (head_at s)
    ranges = head_fits?→HeadRanges (head_at s) g.head

    good_action : (i : ℕ) → i < (head_at s).actions → GoodAction s i
    good_action i h = g.actions.at i (omega arith) h

    action_fits : (i : ℕ) → i < (head_at s).actions → ActionFits (listed i (action_at s)) (action_at s i)
    unfolding name?
    action_fits i h =
        let r = ranges.actions in
        let a = good_action i h in
        let f = a.fits in
        let name : List ℕ = (action_at s i).name in
        let l : length name ≡ name_length_at s i = part_length s (name_place i) (name_length_at s i) (omega arith) in
        record {
          level = a.level;
          name = and_intro (between? 1 name_limit (length name)) (all_of name_byte? name)
              (le→between? 1 name_limit (length name) (omega (arith, a.some)) (omega arith))
              (get_or→all_of name_byte? name (λ k m.
              rw (name_at s fits i k (omega arith)) (a.bytes.at (name_place i + k) (omega arith) (omega arith))));
          fresh = not_T (used? name (listed i (action_at s))) (λ t.
              let u = used?_listed name (action_at s) i t in
              let v = u.1 in
              a.once.at u.0 (omega arith) v
              (eq→SameName s fits u.0 i (omega arith) (omega arith) (good_action u.0 (omega arith)) a u.2));
        }

    step_fits : (j : ℕ) → j < (head_at s).steps → StepFits (head_at s) (listed j (step_at s)) (step_at s j)
    unfolding listed above_last?
    step_fits zero h = record { in_range = (g.steps.at 0 (omega arith) h).in_range; rising = tt }
    step_fits (suc j) h =
        let t = g.steps.at (suc j) (omega arith) h in
        let e : suc j - 1 ≡ j = omega arith in
        record {
          in_range = t.in_range;
          rising =
              rw (above_last?-append (listed j (step_at s)) (step_at s j) [] (step_at s (suc j)))
              (rw e at (t.rising (omega arith)));
        }

    start_fits : (i : ℕ) → i < extra_count_at s
        → StartFits (head_at s) (listed i (extra_start_at s)) (extra_start_at s i)
    start_fits i h =
        let t = g.extra_starts_is.each.at i (omega arith) h in
        let e = last_start-listed (head_at s) s i in
        record {
          in_range = t.in_range;
          rising =
              lt→above_starts? (head_at s) (listed i (extra_start_at s)) (extra_start_at s i) (omega (arith, t.rising));
        }

    GoodPlaces→WellFormed : WellFormed (model_at s)
    unfolding model_at
    GoodPlaces→WellFormed = record {
      head = g.head;
      action_count = listed-length (head_at s).actions (action_at s);
      step_count = listed-length (head_at s).steps (step_at s);
      actions = listed_each ActionFits (action_at s) (head_at s).actions action_fits;
      some_high = g.some_high;
      extra_starts_is = listed_each (StartFits (head_at s)) (extra_start_at s) (extra_count_at s) start_fits;
      steps = listed_each (StepFits (head_at s)) (step_at s) (head_at s).steps step_fits;
    }

    action_numbers_is : (i : ℕ) → i < (head_at s).actions
        → action_numbers (action_at s i) ≡ take action_size (drop (action_place i) s)
    unfolding action_numbers
    action_numbers_is i h =
        let r = ranges.actions in
        let a = good_action i h in
        let f = a.fits in
        let l = part_length s (name_place i) (name_length_at s i) (omega arith) in
        let p = padded_part s (name_place i) (name_length_at s i) name_limit f (omega arith) a.unused in
        let c = part-cons s (action_place i) (name_length_place i) (suc name_limit) (omega arith) refl in
        let d = part-cons s (name_length_place i) (name_place i) name_limit (omega arith) (omega arith) in
        rw (l, p, c, d)

    step_numbers : (j : ℕ) → j < (head_at s).steps → step_row (step_at s j) ≡ take step_size (drop (step_place j) s)
    step_numbers j h =
        let r = ranges.steps in
        let c = part-cons s (step_place j) (action_of_step_place j) (step_size - action_column) (omega arith) refl in
        let after : ℕ = step_size - target_column in
        let d = part-cons s (action_of_step_place j) (target_place j) after (omega arith) (omega arith) in
        let e = part-cons s (target_place j) (step_place (suc j)) 0 (omega arith) (omega arith) in
        rw (c, d, e)

    -- ---- section by section

    head_section : head_row (head_at s) ≡ take head_end s
    unfolding head_row
    head_section =
        let r = ranges in
        let a = part-cons s state_count_place action_count_place (head_end - action_count_place) (omega arith) refl in
        let b = part-cons s action_count_place step_count_place (head_end - step_count_place) (omega arith) refl in
        let c = part-cons s step_count_place start_place (head_end - start_place) (omega arith) refl in
        let d = part-cons s start_place head_end 0 (omega arith) refl in
        sym
        (a
        ∙ ap (λ (l : List ℕ). (head_at s).states ∷ l) b
        ∙ ap (λ (l : List ℕ). (head_at s).states ∷ (head_at s).actions ∷ l) c
        ∙ ap (λ (l : List ℕ). (head_at s).states ∷ (head_at s).actions ∷ (head_at s).steps ∷ l) d)

    actions_section : padded actions_length (actions_numbers (model_at s).actions)
        ≡ take actions_length (drop actions_begin s)
    unfolding model_at actions_numbers
    actions_section =
        let r = ranges in
        let n : ℕ = (head_at s).actions in
        let blocks =
        blocks_listed action_numbers actions_numbers action_size refl (λ a acts. refl) s actions_begin (action_at s) n
        action_numbers_is in
        ap (padded actions_length) blocks
        ∙ padded_part s actions_begin (action_size * n) actions_length (omega arith) (omega arith) g.unused_actions

    steps_section : padded steps_length (steps_numbers (model_at s).steps) ≡ take steps_length (drop steps_begin s)
    unfolding model_at steps_numbers
    steps_section =
        let r = ranges in
        let n : ℕ = (head_at s).steps in
        let blocks =
        blocks_listed step_row steps_numbers step_size refl (λ t ts. refl) s steps_begin (step_at s) n step_numbers in
        ap (padded steps_length) blocks
        ∙ padded_part s steps_begin (step_size * n) steps_length (omega arith) (omega arith) g.unused_steps

    extra_section : extra_numbers (model_at s).extra_starts ≡ take (extra_limit + 1) (drop extra_count_place s)
    unfolding model_at extra_numbers
    extra_section =
        let x = g.extra_starts_is in
        let n : ℕ = extra_count_at s in
        let c = x.count in
        let d = length-drop extra_begin s in
        let starts : listed n (extra_start_at s) ≡ take n (drop extra_begin s) =
        listed-take (drop extra_begin s) 0 (extra_start_at s) n (omega arith)
        (λ i l. sym (get_or-drop extra_begin s i 0)) in
        let p = padded_part s extra_begin n extra_limit c (omega arith) x.unused in
        let cons = part-cons s extra_count_place extra_begin extra_limit (omega arith) refl in
        rw (listed-length n (extra_start_at s), starts, p) (sym cons)

    GoodPlaces→stored : store_of (model_at s) ≡ take store_length s
    unfolding store_of model_at
    GoodPlaces→stored =
        let front = take-add head_end actions_length s in
        let most = take-add actions_end steps_length s in
        let whole = take-add steps_end (extra_limit + 1) s in
        rw (actions_section, steps_section, extra_section, head_section) (sym (whole ∙ rw (most, front)))

  pub GoodPlaces→Holds : GoodPlaces s → Holds s (model_at s)
  GoodPlaces→Holds g = record { well_formed = GoodPlaces→WellFormed g; stored = GoodPlaces→stored g }
