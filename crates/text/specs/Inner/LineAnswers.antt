-- What the functions that read one line answer, in the terms of `Lines`. Only the contracts of inner functions cite it.
use Rattle.std.specs.Prelude.{Bool, true, List, ◌≡◌, ℕ, drop, Option, Some, None, Result, Ok, Err}
use Rattle.text.specs.declared.Head.{Head}
use Rattle.text.specs.declared.StepLine.{StepLine}
use Rattle.text.specs.declared.Fault.{Fault}
use Rattle.text.specs.Model.{ActionLine, above?, above_last?}
use Rattle.text.specs.Lines.{Line, good, bad}

unfoldable pub head_read : Result Head Fault → Line Head
head_read (Ok h) = good h
head_read (Err fault) = bad fault

-- the name stands from place 4 of the line on
unfoldable pub action_read : List ℕ → Result ℕ Fault → Line ActionLine
action_read line (Ok level) = good (record { level = level; name = drop 4 line })
action_read line (Err fault) = bad fault

-- a step stands above the one before it, if there is one
unfoldable pub after? : Option StepLine → StepLine → Bool
after? None s = true
after? (Some last) s = above? last s

-- `last` is the last of the steps `before`, if there is one
pub record Last (before : List StepLine) (last : Option StepLine) : Type 0 where
  pub above : (s : StepLine) → above_last? before s ≡ after? last s
