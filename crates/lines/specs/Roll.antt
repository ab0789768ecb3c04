-- The lines of a page on the receipt roll.
-- Document 02, (ii).
use Rattle.std.specs.Prelude.{List, [], ◌∷◌, ◌++◌, ℕ}
use Rattle.text.specs.Limits.{page_length, roll_length}
use Rattle.text.specs.Model.{Model}
use Rattle.columns.specs.Rows.{rows_bytes}
use Rattle.columns.specs.StateRows.{state_rows}
use Rattle.lines.specs.declared.lines.Form.{Form}
use Rattle.lines.specs.declared.lines.Form.TheVariants.{Page, Roll}
use Rattle.lines.specs.PageLines.{PageLine, verdict_line, state_line, run_line, word_line, allows_line}
use Rattle.lines.specs.PageLines.{no_word_line, last_line, line_text, page_bytes}

-- The lines of the roll for a line of the page: a state has its columns and names; "All other lines of the page stand
-- padded in their page order."
unfoldable pub roll_rows : Model → PageLine → List (List ℕ)
roll_rows m (state_line p distance class) = state_rows m p distance class
roll_rows m (verdict_line v) = line_text (verdict_line v) ∷ []
roll_rows m (run_line j) = line_text (run_line j) ∷ []
roll_rows m (word_line name) = line_text (word_line name) ∷ []
roll_rows m (allows_line end) = line_text (allows_line end) ∷ []
roll_rows m no_word_line = line_text no_word_line ∷ []
roll_rows m last_line = line_text last_line ∷ []

-- The bytes of the roll.
unfoldable pub roll_bytes : Model → List PageLine → List ℕ
roll_bytes m [] = []
roll_bytes m (l ∷ ls) = rows_bytes (roll_rows m l) ++ roll_bytes m ls

-- ---- the two forms of a page

-- The bytes of lines in a form.
unfoldable pub form_bytes : Form → Model → List PageLine → List ℕ
form_bytes Page m lines = page_bytes lines
form_bytes Roll m lines = roll_bytes m lines

-- "out 5,000 bytes"; "out with at least 35,840 bytes"
abbrev pub form_length : Form → ℕ
form_length Page = page_length
form_length Roll = roll_length
