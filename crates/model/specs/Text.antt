-- The `M` text of a model.
-- Document 01, "The text"; document 02, (iii) and (vii).
use Rattle.std.specs.Prelude.{cond, List, [], ◌∷◌, ◌++◌, ℕ, eqb}
use Rattle.text.specs.Bytes.{byte_a, byte_comma, byte_d, byte_e, byte_h, byte_i, byte_l, byte_line_end, byte_m, byte_s}
use Rattle.text.specs.Bytes.{byte_t}
use Rattle.text.specs.declared.Head.{Head}
use Rattle.text.specs.declared.StepLine.{StepLine}
use Rattle.text.specs.Numbers.{digits}
use Rattle.text.specs.Model.{low, release, high, ActionLine, Model}

-- a field after a comma
abbrev pub field : List ℕ → List ℕ
field f = byte_comma ∷ f

-- `M,states,actions,steps,start` and the line end
unfoldable pub head_text : Head → List ℕ
head_text h =
    (byte_m ∷ [])
    ++ field (digits h.states)
    ++ field (digits h.actions)
    ++ field (digits h.steps)
    ++ field (digits h.start.0)
    ++ (byte_line_end ∷ [])

-- `L`, `D`, `H` or `T`
unfoldable pub level_byte : ℕ → ℕ
level_byte level = cond (eqb level low) byte_l (cond (eqb level release) byte_d (cond (eqb level high) byte_h byte_t))

-- `A,level,name` and the line end
unfoldable pub action_text : ActionLine → List ℕ
action_text a = (byte_a ∷ []) ++ field (level_byte a.level ∷ []) ++ field a.name ++ (byte_line_end ∷ [])

-- `I,state` and the line end
unfoldable pub start_text : ℕ → List ℕ
start_text p = (byte_i ∷ []) ++ field (digits p) ++ (byte_line_end ∷ [])

-- `S,source,action,target` and the line end
unfoldable pub step_text : StepLine → List ℕ
step_text s =
    (byte_s ∷ [])
    ++ field (digits s.source.0)
    ++ field (digits s.action.0)
    ++ field (digits s.target.0)
    ++ (byte_line_end ∷ [])

unfoldable pub actions_text : List ActionLine → List ℕ
actions_text [] = []
actions_text (a ∷ rest) = action_text a ++ actions_text rest

unfoldable pub starts_text : List ℕ → List ℕ
starts_text [] = []
starts_text (p ∷ ps) = start_text p ++ starts_text ps

unfoldable pub steps_text : List StepLine → List ℕ
steps_text [] = []
steps_text (s ∷ ss) = step_text s ++ steps_text ss

-- the `M` text of a model: the lines in their order, and `E` with its line end
unfoldable pub model_text : Model → List ℕ
model_text m =
    head_text m.head
    ++ actions_text m.actions
    ++ starts_text m.extra_starts
    ++ steps_text m.steps
    ++ (byte_e ∷ byte_line_end ∷ [])
