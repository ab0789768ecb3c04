-- The model store.
-- Document 01, "The model store": "3,972 numbers of 16 bits. [..] Unused places are 0."
-- Document 02, (iii): "The store grows by 128 numbers at its end: a count, then the extra starts, unused ones 0."
use Rattle.std.specs.Prelude.{List, [], ◌∷◌, ◌++◌, ◌≡◌, ℕ, ◌-◌, length, take, replicate}
use Rattle.text.specs.declared.Head.{Head}
use Rattle.text.specs.declared.StepLine.{StepLine}
use Rattle.text.specs.Limits.{name_limit, extra_limit, actions_length, steps_length, store_length}
use Rattle.text.specs.Model.{ActionLine, Model}
use Rattle.model.specs.Reading.{done, read_text}

-- a list with zeros behind it up to n places
unfoldable pub padded : ℕ → List ℕ → List ℕ
padded n l = l ++ replicate (n - length l) 0

-- "level (0 L, 1 D, 2 H), name length, twelve name bytes"; "Level T (store value 3)" (document 02, (vii))
unfoldable pub action_numbers : ActionLine → List ℕ
action_numbers a = a.level ∷ length a.name ∷ padded name_limit a.name

unfoldable pub actions_numbers : List ActionLine → List ℕ
actions_numbers [] = []
actions_numbers (a ∷ rest) = action_numbers a ++ actions_numbers rest

-- "source, action, target"
abbrev pub step_row : StepLine → List ℕ
step_row s = s.source.0 ∷ s.action.0 ∷ s.target.0 ∷ []

unfoldable pub steps_numbers : List StepLine → List ℕ
steps_numbers [] = []
steps_numbers (s ∷ rest) = step_row s ++ steps_numbers rest

-- "Places 0 to 3: states, actions, steps, start."
unfoldable pub head_row : Head → List ℕ
head_row h = h.states ∷ h.actions ∷ h.steps ∷ h.start.0 ∷ []

-- "a count, then the extra starts, unused ones 0"
unfoldable pub extra_numbers : List ℕ → List ℕ
extra_numbers ps = length ps ∷ padded extra_limit ps

-- the store of a model: its sections, one behind the other
unfoldable pub store_of : Model → List ℕ
store_of m =
    head_row m.head
    ++ padded actions_length (actions_numbers m.actions)
    ++ padded steps_length (steps_numbers m.steps)
    ++ extra_numbers m.extra_starts

-- "A store is good if some text reads to it." A list longer than a store counts by its first 4,100 numbers.
pub record Good (store : List ℕ) : Type 0 where
  pub text : List ℕ
  pub model : Model
  pub reads : read_text text ≡ done model
  pub stored : store_of model ≡ take store_length store
