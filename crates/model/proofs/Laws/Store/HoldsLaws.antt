-- A store that holds the model that it shows has good places.
-- Document 01, "The model store"; document 02, (iii) and (vi). Assumes nothing.
use Rattle.std.proofs.Common.{List, [], ◌∷◌, ◌++◌, append_assoc, ⊎_elim, sym, ◌∙◌, subst, length-drop, length-take-le}
use Rattle.std.proofs.Common.{take_all, ◌≡◌, drop, ℕ, zero, suc, ◌+◌, ◌-◌, ◌≤◌, ◌<◌, arith}
use Rattle.std.proofs.Math.Path.{ap}
use Rattle.std.proofs.Math.Dec.{T, T_not}
use Rattle.std.proofs.Math.ListN.{length, get_or}
use Rattle.lts.proofs.TestsLaws.{lt_or_le, and_right}
use Rattle.text.specs.Limits.{action_limit, name_limit, actions_begin, actions_length, actions_end, name_column}
use Rattle.text.specs.Limits.{steps_begin, steps_length, steps_end, extra_count_place, extra_begin, extra_end}
use Rattle.text.specs.Limits.{extra_limit}
use Rattle.text.specs.Limits.{store_length, action_place, name_place, step_place, extra_place}
use Rattle.text.specs.Bytes.{between?}
use Rattle.text.specs.Model.{ActionLine, above?, above_last?}
use Rattle.text.specs.Lines.{all_of, name_byte?, name?, used?}
use Rattle.model.specs.Store.{padded, action_numbers, actions_numbers, steps_numbers, head_row, extra_numbers, store_of}
use Rattle.model.specs.WellFormed.{ActionFits, StartFits, StepFits}
use Rattle.model.specs.StoredModel.{head_at, action_at, step_at, extra_count_at, extra_start_at, listed, model_at}
use Rattle.model.specs.StoredModel.{Holds}
use Rattle.model.specs.Inner.Sections.{before_steps}
use Rattle.text.specs.Inner.Ranges.{HeadRanges}
use Rattle.text.specs.Laws.RangesLaws.{head_fits?→HeadRanges, above_starts?→lt}
use Rattle.model.specs.Laws.Text.ActionLineLaws.{name-length}
use Rattle.model.specs.Laws.Store.StoreLaws.{actions_numbers-length, steps_numbers-length}
use Rattle.model.specs.Laws.Store.StoreLaws.{before_steps_length, actions_places, store_of_action}
use Rattle.model.specs.Laws.Store.StartsLaws.{last_start-listed, extra_count_le}
use Rattle.model.proofs.Laws.Store.StoredModelLaws.{listed-length, get_or_of-drop, holds_store, action_at_holds}
use Rattle.model.proofs.Laws.Store.StoredModelLaws.{extra_drop}
use Rattle.model.specs.Inner.GoodPlaces.{name_length_at, GoodAction, GoodStep, GoodStart, GoodStarts, GoodPlaces}
use Rattle.model.specs.Laws.Store.PlacesLaws.{padded-zero, all_of→get_or}
use Rattle.model.specs.Laws.Store.ListedLaws.{each_listed, listed_used?}
use Rattle.model.specs.Laws.Store.AboveLaws.{above_last?-append}
use Rattle.model.specs.Laws.Store.NamePlacesLaws.{name_at, SameName→eq}

-- the numbers of the actions, of the steps and of the extra starts that a store shows
abbrev stored_actions : List ℕ → List ℕ
stored_actions s = actions_numbers (listed (head_at s).actions (action_at s))

abbrev stored_steps : List ℕ → List ℕ
stored_steps s = steps_numbers (listed (head_at s).steps (step_at s))

abbrev stored_extra : List ℕ → List ℕ
stored_extra s = extra_numbers (listed (extra_count_at s) (extra_start_at s))

module _ (s : List ℕ) (fits : store_length ≤ length s) where
  module _ (holds : Holds s (model_at s)) where
    head_fits : HeadRanges (head_at s)
    unfolding model_at
    head_fits = head_fits?→HeadRanges (head_at s) holds.well_formed.head

    listed_fits : (i : ℕ) → i < (head_at s).actions → ActionFits (listed i (action_at s)) (action_at s i)
    unfolding model_at
    listed_fits i h = each_listed ActionFits (action_at s) (head_at s).actions holds.well_formed.actions i h

    -- a name of 12 bytes at most is not cut off by the store's end
    name_whole : (i : ℕ) → i < action_limit → length (action_at s i).name ≤ name_limit
        → length (action_at s i).name ≡ name_length_at s i
    name_whole i h f =
        let d = length-drop (name_place i) s in
        ⊎_elim
        (λ l.
        let e = take_all (name_length_at s i) (drop (name_place i) s) (omega arith) in absurd
        (omega (arith, ap length e)))
        (λ l. length-take-le (name_length_at s i) (drop (name_place i) s) l)
        (lt_or_le (length (drop (name_place i) s)) (name_length_at s i))

    action_block : (i : ℕ) → i < (head_at s).actions
        → (more : List ℕ) × (drop (action_place i) s ≡ action_numbers (action_at s i) ++ more)
    unfolding model_at
    action_block i h =
        let none : ActionLine = record { level = 0; name = [] } in
        let l : i < length (model_at s).actions = omega (arith, listed-length (head_at s).actions (action_at s)) in
        let b = store_of_action (model_at s) holds.well_formed (drop store_length s) i none l in (
          b.0,
          ap (drop (action_place i)) (holds_store s (model_at s) holds)
              ∙ b.1
              ∙ ap (λ (a : ActionLine). action_numbers a ++ b.0) (sym (action_at_holds s (model_at s) holds i none l)),
        )

    name_zeros : (i : ℕ) → i < (head_at s).actions → (x : ℕ) → length (action_at s i).name ≤ x → x < name_limit
        → get_or s (name_place i + x) 0 ≡ 0
    unfolding action_numbers
    name_zeros i h x l m =
        let b = action_block i h in
        let a : ActionLine = action_at s i in
        let e : name_place i + x ≡ action_place i + (name_column + x) = omega arith in
        ap (λ (k : ℕ). get_or s k 0) e ∙ get_or_of-drop s _ (action_place i) (name_column + x) b.1
        ∙ padded-zero (a.level ∷ length a.name ∷ []) a.name b.0 name_limit x l m

    Holds→GoodAction : (i : ℕ) → i < (head_at s).actions → GoodAction s i
    unfolding name?
    Holds→GoodAction i h =
        let r = head_fits.actions in
        let a = listed_fits i h in
        let name : List ℕ = (action_at s i).name in
        let n = name-length name a.name in
        let f = n.1 in
        let l : length name ≡ name_length_at s i = name_whole i (omega arith) f in
        record {
          level = a.level;
          some = omega (arith, n.0);
          fits = omega arith;
          bytes = record {
            at = λ k u v.
                let e : k ≡ name_place i + (k - name_place i) = omega arith in
                let all = and_right (between? 1 name_limit (length name)) (all_of name_byte? name) a.name in
                let b = all_of→get_or name_byte? name all (k - name_place i) (omega arith) in
                rw e (subst (λ (x : ℕ). T (name_byte? x)) (name_at s fits i (k - name_place i) (omega arith)) b);
          };
          once = record {
            at = λ g u v same.
                T_not (used? name (listed i (action_at s))) a.fresh
                (listed_used? name (action_at s) i g v
                (SameName→eq s fits g i (omega arith) (omega arith) (omega arith) same));
          };
          unused = record {
            at = λ k u v.
                let e : k ≡ name_place i + (k - name_place i) = omega arith in
                rw e (name_zeros i h (k - name_place i) (omega arith) (omega arith));
          };
        }

    Holds→GoodStep : (j : ℕ) → j < (head_at s).steps → GoodStep (head_at s) s j
    unfolding model_at listed above_last?
    Holds→GoodStep j h =
        let f = each_listed (StepFits (head_at s)) (step_at s) (head_at s).steps holds.well_formed.steps j h in
        record { in_range = f.in_range; rising = λ p. rising j p f.rising }
      where
        rising : (k : ℕ) → 0 < k → T (above_last? (listed k (step_at s)) (step_at s k))
            → T (above? (step_at s (k - 1)) (step_at s k))
        rising zero p t = absurd (omega arith)
        rising (suc k) p t =
            let e : suc k - 1 ≡ k = omega arith in
            rw e (subst T (above_last?-append (listed k (step_at s)) (step_at s k) [] (step_at s (suc k))) t)

    Holds→GoodStart : (i : ℕ) → i < extra_count_at s → GoodStart (head_at s) s i
    unfolding model_at
    Holds→GoodStart i h =
        let starts : ℕ → ℕ = extra_start_at s in
        let f = each_listed (StartFits (head_at s)) starts (extra_count_at s) holds.well_formed.extra_starts_is i h in
        let e = last_start-listed (head_at s) s i in
        let l = above_starts?→lt (head_at s) (listed i starts) (starts i) f.rising in
        record { in_range = f.in_range; rising = omega arith }

    -- the store by its parts, each with what follows it
    by_parts : s ≡ head_row (head_at s)
        ++ (padded actions_length (stored_actions s)
        ++ (padded steps_length (stored_steps s) ++ (stored_extra s ++ drop store_length s)))
    unfolding model_at store_of
    by_parts = holds_store s (model_at s) holds ∙ simp append_assoc

    action_zeros : (k : ℕ) → action_place (head_at s).actions ≤ k → k < actions_end → get_or s k 0 ≡ 0
    unfolding model_at head_row
    action_zeros k h l =
        let n = actions_numbers-length [] (listed (head_at s).actions (action_at s)) holds.well_formed.actions in
        let c = listed-length (head_at s).actions (action_at s) in
        let e : k ≡ actions_begin + (k - actions_begin) = omega arith in
        let m : length (stored_actions s) ≤ k - actions_begin = omega arith in
        ap (λ (x : ℕ). get_or s x 0) e
        ∙ ap (λ (x : List ℕ). get_or x (actions_begin + (k - actions_begin)) 0) by_parts
        ∙ padded-zero (head_row (head_at s)) (stored_actions s) _ actions_length (k - actions_begin) m (omega arith)

    step_zeros : (k : ℕ) → step_place (head_at s).steps ≤ k → k < steps_end → get_or s k 0 ≡ 0
    unfolding model_at head_row
    step_zeros k h l =
        let before : List ℕ = before_steps (head_at s) (listed (head_at s).actions (action_at s)) in
        let b = before_steps_length (head_at s) _ (actions_places (model_at s) holds.well_formed) in
        let n = steps_numbers-length (listed (head_at s).steps (step_at s)) in
        let c = listed-length (head_at s).steps (step_at s) in
        let e : k ≡ length before + (k - steps_begin) = omega arith in
        let m : length (stored_steps s) ≤ k - steps_begin = omega arith in
        ap (λ (x : ℕ). get_or s x 0) e
        ∙ ap (λ (x : List ℕ). get_or x (length before + (k - steps_begin)) 0) by_parts
        ∙ padded-zero before (stored_steps s) _ steps_length (k - steps_begin) m (omega arith)

    extra_zeros : (k : ℕ) → extra_place (extra_count_at s) ≤ k → k < extra_end → get_or s k 0 ≡ 0
    unfolding model_at extra_numbers
    extra_zeros k h l =
        let ps : List ℕ = listed (extra_count_at s) (extra_start_at s) in
        let n = listed-length (extra_count_at s) (extra_start_at s) in
        let x : ℕ = k - extra_begin in
        let e : k ≡ extra_count_place + (1 + x) = omega arith in
        ap (λ (i : ℕ). get_or s i 0) e ∙ get_or_of-drop s _ extra_count_place (1 + x) (extra_drop s (model_at s) holds)
        ∙ padded-zero (length ps ∷ []) ps _ extra_limit x (omega arith) (omega arith)

    Holds→GoodStarts : GoodStarts (head_at s) s
    unfolding model_at
    Holds→GoodStarts =
        let n = listed-length (extra_count_at s) (extra_start_at s) in
        let c = extra_count_le (model_at s) holds.well_formed in
        record {
          count = omega arith;
          each = record { at = λ i u v. Holds→GoodStart i v };
          unused = record { at = extra_zeros };
        }

  pub Holds→GoodPlaces : Holds s (model_at s) → GoodPlaces s
  unfolding model_at
  Holds→GoodPlaces holds = record {
    head = holds.well_formed.head;
    actions = record { at = λ i u v. Holds→GoodAction holds i v };
    some_high = holds.well_formed.some_high;
    steps = record { at = λ j u v. Holds→GoodStep holds j v };
    unused_actions = record { at = action_zeros holds };
    unused_steps = record { at = step_zeros holds };
    extra_starts_is = Holds→GoodStarts holds;
  }
