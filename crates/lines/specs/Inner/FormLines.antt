-- What ends a line in each form, and the texts that the roll has room for. Only the contracts of inner functions cite
-- it.
-- Document 02, (ii).
use Rattle.std.specs.Prelude.{List, [], ◌∷◌, ◌++◌, ◌≡◌, ℕ, ◌+◌, ◌-◌, ◌≤◌, ◌<◌, length}
use Rattle.text.specs.Bytes.{byte_line_end}
use Rattle.text.specs.Model.{Model}
use Rattle.columns.specs.Rows.{roll_width, blanks}
use Rattle.lines.specs.declared.lines.Form.{Form}
use Rattle.lines.specs.declared.lines.Form.TheVariants.{Page, Roll}
use Rattle.lines.specs.PageLines.{PageLine, line_text}
use Rattle.lines.specs.Roll.{roll_rows}

-- What stands behind a text of `used` bytes: on the roll "Each line has exactly 42 columns before its line end, padded
-- with blanks."
abbrev pub line_ending : Form → ℕ → List ℕ
line_ending Page used = byte_line_end ∷ []
line_ending Roll used = blanks (roll_width - used) ++ (byte_line_end ∷ [])

-- A line that began at place `begin` and goes as far as place `at` can be ended in a list of some length.
abbrev pub EndFits : Form → ℕ → ℕ → ℕ → Type 0
EndFits Page begin at long = at < long
EndFits Roll begin at long = (begin ≤ at) × (at ≤ begin + roll_width) × (begin + roll_width < long)

-- A line that is no state's: its text alone, in at most `width` of the roll's columns.
pub record TextFits (l : PageLine) (width : ℕ) : Type 0 where
  pub one_row : (m : Model) → roll_rows m l ≡ line_text l ∷ []
  pub text_le : length (line_text l) ≤ width
  pub width_le : width ≤ roll_width
