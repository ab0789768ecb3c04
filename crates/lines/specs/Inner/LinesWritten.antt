-- What a writer of several lines leaves. Only the contracts of inner functions cite it.
use Rattle.std.specs.Prelude.{List, ℕ, ◌≤◌, length}
use Rattle.text.specs.Model.{Model}
use Rattle.writer.specs.Wrote.{Wrote}
use Rattle.lines.specs.declared.lines.Form.{Form}
use Rattle.lines.specs.PageLines.{PageLine}
use Rattle.lines.specs.Roll.{form_bytes}

-- Lines that P holds of were written in a form from place `at` on, in at most `room` bytes.
pub record LinesWritten (form : Form) (m : Model) (P : List PageLine → Type 0) (room : ℕ) (entry : List ℕ) (at : ℕ)
    (exit : List ℕ) (next : ℕ) : Type 0 where
  pub lines : List PageLine
  pub holds : P lines
  pub wrote : Wrote entry at (form_bytes form m lines) exit next
  pub length_le : length (form_bytes form m lines) ≤ room
