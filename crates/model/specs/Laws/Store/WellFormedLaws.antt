-- What a well-formed model says of each of its actions and steps.
-- Document 01, "The text". Assumes nothing.
use Rattle.std.proofs.Common.{[], ◌∷◌, ◌++◌, ◌⊎◌, ◌≡◌, ℕ, zero, suc, ◌≤◌, ◌<◌, get_or, inl, inr, arith}
use Rattle.std.proofs.Math.Dec.{T}
use Rattle.std.proofs.Math.ListN.{length, take}
use Rattle.std.proofs.Math.Seq.{take-suc}
use Rattle.lts.proofs.TestsLaws.{lt-suc_cases}
use Rattle.text.specs.Model.{last_level, ActionLine, Model, above_last?}
use Rattle.model.specs.WellFormed.{ActionFits, StepFits, WellFormed}
use Rattle.model.specs.Laws.Store.EachLaws.{each_get_or}
use Rattle.model.specs.Above.{Above}
use Rattle.model.specs.Laws.Store.AboveLaws.{above?→Above, above_trans, above_last?-append}
use Rattle.text.specs.Inner.Ranges.{HeadRanges, StepRanges}
use Rattle.text.specs.Laws.RangesLaws.{head_fits?→HeadRanges, step_fits?→StepRanges}
use Rattle.model.specs.System.{step, level}

module _ (m : Model) (w : WellFormed m) where
  pub head_ranges : HeadRanges m.head
  head_ranges = head_fits?→HeadRanges m.head w.head

  -- ---- actions

  pub action_fits : (i : ℕ) (d : ActionLine) → i < length m.actions
      → ActionFits (take i m.actions) (get_or m.actions i d)
  action_fits i d l = each_get_or ActionFits [] m.actions i d w.actions l

  -- "An action is low (L), release (D) or high (H)", or silent.
  pub level_le : (a : ℕ) → a < length m.actions → level m a ≤ last_level
  level_le a l = (action_fits a _ l).level

  -- ---- steps

  step_fits : (j : ℕ) → j < length m.steps → StepFits m.head (take j m.steps) (step m j)
  step_fits j l = each_get_or (StepFits m.head) [] m.steps j _ w.steps l

  pub step_ranges : (j : ℕ) → j < length m.steps → StepRanges m.head (step m j)
  step_ranges j l = step_fits?→StepRanges m.head (step m j) (step_fits j l).in_range

  -- each step stands above the one before it
  pub step_above_suc : (j : ℕ) → suc j < length m.steps → Above (step m j) (step m (suc j))
  unfolding above_last?
  step_above_suc j l =
      let before = take j m.steps in
      let k : j < length m.steps = omega arith in
      let e : take (suc j) m.steps ≡ before ++ (step m j ∷ []) = take-suc m.steps j _ k in
      let r : T (above_last? (before ++ (step m j ∷ [])) (step m (suc j))) = rw e at (step_fits (suc j) l).rising in
      above?→Above (step m j) (step m (suc j)) (rw (above_last?-append before (step m j) [] (step m (suc j))) at r)

  -- and above all before it
  pub step_above : (i j : ℕ) → i < j → j < length m.steps → Above (step m i) (step m j)
  step_above i zero h l = absurd (omega arith)
  step_above i (suc j) h l = go (step_above i j) (lt-suc_cases h)
    where
      go : (i < j → j < length m.steps → Above (step m i) (step m j)) → (i ≡ j) ⊎ (i < j)
          → Above (step m i) (step m (suc j))
      go ih (inl e) = rw e (step_above_suc j l)
      go ih (inr k) = above_trans (step m i) (step m j) (step m (suc j)) (ih k (omega arith)) (step_above_suc j l)
