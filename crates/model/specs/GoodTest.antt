-- Tests that compute: whether a model is well-formed, and whether a store is good.
-- Document 01, "The text" and "The model store"; document 02, (iii) and (vi).
use Rattle.std.specs.Prelude.{Bool, true, not, ◌&&◌, List, [], ◌∷◌, ◌++◌, ℕ, leb, eqb, length, take}
use Rattle.text.specs.declared.Head.{Head}
use Rattle.text.specs.declared.StepLine.{StepLine}
use Rattle.text.specs.Limits.{extra_limit, store_length}
use Rattle.text.specs.Split.{same?}
use Rattle.text.specs.Model.{last_level, ActionLine, Model, some_high?, above_last?}
use Rattle.text.specs.Lines.{head_fits?, name?, used?, start_fits?, above_starts?, step_fits?}
use Rattle.model.specs.Store.{store_of}
use Rattle.model.specs.StoredModel.{head_at, extra_count_at, model_at}

-- The test of `EachAfter`. What a test leaves for later stands in a `let`: it is computed only if the test passes.
unfoldable pub each_after? : {A : Type 0} → (List A → A → Bool) → List A → List A → Bool
each_after? test before [] = true
each_after? test before (x ∷ xs) = let rest = each_after? test (before ++ (x ∷ [])) xs in test before x && rest

unfoldable pub action_fits? : List ActionLine → ActionLine → Bool
action_fits? before a = leb a.level last_level && name? a.name && not (used? a.name before)

unfoldable pub start_rises? : Head → List ℕ → ℕ → Bool
start_rises? h before p = start_fits? h p && above_starts? h before p

unfoldable pub step_rises? : Head → List StepLine → StepLine → Bool
step_rises? h before s = step_fits? h s && above_last? before s

unfoldable pub well_formed? : Model → Bool
well_formed? m =
    head_fits? m.head
    && eqb (length m.actions) m.head.actions
    && eqb (length m.steps) m.head.steps
    && each_after? action_fits? [] m.actions
    && some_high? m.actions
    && each_after? (start_rises? m.head) [] m.extra_starts
    && each_after? (step_rises? m.head) [] m.steps

-- the store shows a well-formed model, and is the store of that model
unfoldable pub holds? : List ℕ → Bool
holds? store =
    let m = model_at store in
    well_formed? m && same? (store_of m) (take store_length store)

-- the numbers of line 1 and the count of extra starts are tested before the model is read off
unfoldable pub good? : List ℕ → Bool
good? store = let rest = holds? store in head_fits? (head_at store) && leb (extra_count_at store) extra_limit && rest
