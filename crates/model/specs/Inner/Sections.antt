-- The sections of a model's store, each with those before it. Only laws of the store cite them.
-- Document 01, "The model store"; document 02, (iii).
use Rattle.std.specs.Prelude.{List, ◌++◌, ℕ}
use Rattle.text.specs.declared.Head.{Head}
use Rattle.text.specs.declared.StepLine.{StepLine}
use Rattle.text.specs.Limits.{actions_length, steps_length}
use Rattle.text.specs.Model.{ActionLine}
use Rattle.model.specs.Store.{padded, actions_numbers, steps_numbers, head_row}

-- what stands before the steps
abbrev pub before_steps : Head → List ActionLine → List ℕ
before_steps h actions = head_row h ++ padded actions_length (actions_numbers actions)

-- what stands before the count of the extra starts
abbrev pub before_extra : Head → List ActionLine → List StepLine → List ℕ
before_extra h actions steps = before_steps h actions ++ padded steps_length (steps_numbers steps)
