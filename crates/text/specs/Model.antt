-- A model as its text states it: the numbers of line 1, then what each `A`, `I` and `S` line states.
-- Document 01, "The text"; document 02, (iii), (vi) and (vii).
use Rattle.std.specs.Prelude.{Bool, true, false, ◌&&◌, ◌||◌, List, [], ◌∷◌, ◌++◌, ℕ, ltb, eqb}
use Rattle.text.specs.declared.Head.{Head}
use Rattle.text.specs.declared.StepLine.{StepLine}

-- "level (0 L, 1 D, 2 H)"; D is called release
abbrev pub low : ℕ
low = 0

abbrev pub release : ℕ
release = 1

abbrev pub high : ℕ
high = 2

-- "Level T (store value 3) marks a silent action" (document 02, (vii))
abbrev pub silent : ℕ
silent = 3

-- every number up to this one is a level, and none above it
abbrev pub last_level : ℕ
last_level = silent

-- `A,level,name`
pub record ActionLine : Type 0 where
  pub level : ℕ
  pub name : List ℕ

-- "Lines `I,state` may follow the `A` lines": the extra starts are the states that they name
pub record Model : Type 0 where
  pub head : Head
  pub actions : List ActionLine
  pub extra_starts : List ℕ
  pub steps : List StepLine

-- what stands past the end of a list: no action's level is 65,535
abbrev pub no_level : ℕ
no_level = 65535

abbrev pub no_action : ActionLine
no_action = record { level = no_level; name = [] }

abbrev pub no_step : StepLine
no_step = record { source = record { 0 = 0 }; action = record { 0 = 0 }; target = record { 0 = 0 } }

-- some action is high: "A text without an H action is refused"; a silent action is not high
unfoldable pub some_high? : List ActionLine → Bool
some_high? [] = false
some_high? (a ∷ rest) = eqb a.level high || some_high? rest

-- a model with one more action, extra start or step, at the end
abbrev pub with_action : Model → ActionLine → Model
with_action m a = record {
  head = m.head;
  actions = m.actions ++ (a ∷ []);
  extra_starts = m.extra_starts;
  steps = m.steps;
}

abbrev pub with_extra_start : Model → ℕ → Model
with_extra_start m p = record {
  head = m.head;
  actions = m.actions;
  extra_starts = m.extra_starts ++ (p ∷ []);
  steps = m.steps;
}

abbrev pub with_step : Model → StepLine → Model
with_step m s = record {
  head = m.head;
  actions = m.actions;
  extra_starts = m.extra_starts;
  steps = m.steps ++ (s ∷ []);
}

-- "strictly rising and above the start in line 1": the start that the next `I` line must be above, where line 1 gives
-- `first`
unfoldable pub last_start : ℕ → List ℕ → ℕ
last_start first [] = first
last_start first (p ∷ ps) = last_start p ps

-- "strictly rising by source, then action, then target": t stands above s
unfoldable pub above? : StepLine → StepLine → Bool
above? s t =
    ltb s.source.0 t.source.0
    || (eqb s.source.0 t.source.0
    && (ltb s.action.0 t.action.0
    || (eqb s.action.0 t.action.0 && ltb s.target.0 t.target.0)))

-- t stands above the last of the steps before it, if there is one
unfoldable pub above_last? : List StepLine → StepLine → Bool
above_last? [] t = true
above_last? (s ∷ []) t = above? s t
above_last? (s ∷ r ∷ rs) t = above_last? (r ∷ rs) t
