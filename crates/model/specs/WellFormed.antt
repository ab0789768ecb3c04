-- The models that a text can state.
-- Document 01, "The text"; document 02, (iii), (vi) and (vii).
use Rattle.std.specs.Prelude.{not, List, [], ◌∷◌, ◌++◌, ◌≡◌, ℕ, ◌≤◌, T, length}
use Rattle.text.specs.declared.Head.{Head}
use Rattle.text.specs.declared.StepLine.{StepLine}
use Rattle.text.specs.Model.{last_level, ActionLine, Model, some_high?, above_last?}
use Rattle.text.specs.Lines.{head_fits?, name?, used?, start_fits?, above_starts?, step_fits?}

-- P holds of each element and the list of those before it, which begins with `before`
unfoldable pub EachAfter : {A : Type 0} → (List A → A → Type 0) → List A → List A → Type 0
EachAfter P before [] = Unit {0}
EachAfter P before (x ∷ xs) = P before x × EachAfter P (before ++ (x ∷ [])) xs

-- "Level is L, D or H", or T (document 02, (vii)). "A name is 1 to 12 bytes of a to z and 0 to 9, used once."
pub record ActionFits (before : List ActionLine) (a : ActionLine) : Type 0 where
  pub level : a.level ≤ last_level
  pub name : T (name? a.name)
  pub fresh : T (not (used? a.name before))

-- the state is there, and the extra start stands above the one before it, the first above the start in line 1
pub record StartFits (h : Head) (before : List ℕ) (p : ℕ) : Type 0 where
  pub in_range : T (start_fits? h p)
  pub rising : T (above_starts? h before p)

-- source, action and target are there, and the step stands above the one before it
pub record StepFits (h : Head) (before : List StepLine) (s : StepLine) : Type 0 where
  pub in_range : T (step_fits? h s)
  pub rising : T (above_last? before s)

pub record WellFormed (m : Model) : Type 0 where
  pub head : T (head_fits? m.head)
  pub action_count : length m.actions ≡ m.head.actions
  pub step_count : length m.steps ≡ m.head.steps
  pub actions : EachAfter ActionFits [] m.actions
  -- "A text without an H action is refused"
  pub some_high : T (some_high? m.actions)
  pub extra_starts_is : EachAfter (StartFits m.head) [] m.extra_starts
  pub steps : EachAfter (StepFits m.head) [] m.steps
