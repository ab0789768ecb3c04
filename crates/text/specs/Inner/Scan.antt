-- What line 1 and the lines of extra starts and of steps come to as they stand in a text. Only the contracts of inner
-- functions cite it.
-- Document 01, "The text"; document 02, (iii).
use Rattle.std.specs.Prelude.{List, ℕ, Result, Ok, Err}
use Rattle.text.specs.declared.Fault.{Fault}
use Rattle.text.specs.declared.Head.{Head}
use Rattle.text.specs.declared.State.{State}
use Rattle.text.specs.declared.StepLine.{StepLine}
use Rattle.text.specs.declared.scan.Taken.{Taken}
use Rattle.text.specs.Lines.{Line, good, head_of}
use Rattle.text.specs.Inner.Row.{LineAt, LineTaken, LineRefused}

-- line 1 at a place: what it states, or its fault
unfoldable pub HeadAt : List ℕ → ℕ → Result Head Fault → Type 0
HeadAt text at (Ok h) = (e : ℕ) × LineAt head_of text at (good h) e
HeadAt text at (Err fault) = LineRefused head_of text at fault

-- the line of an extra start at a place: what it states, or its fault
unfoldable pub StartAtRead : (List ℕ → Line ℕ) → List ℕ → ℕ → Result (Taken State) Fault → Type 0
StartAtRead read text at (Ok start) = LineTaken read text at start.stated.0 start.next
StartAtRead read text at (Err fault) = LineRefused read text at fault

-- the line of a step at a place: what it states, or its fault
unfoldable pub StepAtRead : (List ℕ → Line StepLine) → List ℕ → ℕ → Result (Taken StepLine) Fault → Type 0
StepAtRead read text at (Ok step) = LineTaken read text at step.stated step.next
StepAtRead read text at (Err fault) = LineRefused read text at fault
