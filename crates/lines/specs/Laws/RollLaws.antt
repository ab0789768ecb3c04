-- All lines of the roll but a state's are the page's, padded.
-- Document 02, (ii): "All other lines of the page stand padded in their page order." Assumes nothing.
use Rattle.std.specs.Prelude.{List, [], ◌∷◌, ◌++◌, ◌≡◌, refl, ℕ}
use Rattle.std.proofs.Common.{append_assoc, append-nil, sym, ap, ◌∙◌}
use Rattle.std.proofs.Math.Option.{Option}
use Rattle.text.specs.Bytes.{byte_line_end}
use Rattle.text.specs.Model.{Model}
use Rattle.columns.specs.Laws.RowsLaws.{rows_bytes-row}
use Rattle.columns.specs.Rows.{roll_width, flush_left, row_bytes, rows_bytes}
use Rattle.lines.specs.PageLines.{PageLine, verdict_line, state_line, run_line, word_line, allows_line}
use Rattle.lines.specs.PageLines.{no_word_line, last_line, line_text}
use Rattle.lines.specs.Roll.{roll_rows, roll_bytes}

-- a line that is no state's: its text in 42 columns, and the line end
pub roll_rows-padded : (m : Model) (l : PageLine)
    → ((p : ℕ) (distance : Option ℕ) (class : ℕ) → ¬ (l ≡ state_line p distance class))
    → rows_bytes (roll_rows m l) ≡ flush_left roll_width (line_text l) ++ (byte_line_end ∷ [])
unfolding roll_rows
roll_rows-padded m (state_line p distance class) other = absurd (other p distance class refl)
roll_rows-padded m (verdict_line v) other = rows_bytes-row (line_text (verdict_line v))
roll_rows-padded m (run_line j) other = rows_bytes-row (line_text (run_line j))
roll_rows-padded m (word_line name) other = rows_bytes-row (line_text (word_line name))
roll_rows-padded m (allows_line end) other = rows_bytes-row (line_text (allows_line end))
roll_rows-padded m no_word_line other = rows_bytes-row (line_text no_word_line)
roll_rows-padded m last_line other = rows_bytes-row (line_text last_line)

-- ---- lines one after the other

pub roll_bytes_line : (m : Model) (l : PageLine) → roll_bytes m (l ∷ []) ≡ rows_bytes (roll_rows m l)
unfolding roll_bytes
roll_bytes_line m l = append-nil (rows_bytes (roll_rows m l))

-- a line that is its text alone
pub roll_bytes-row : (m : Model) (l : PageLine) → roll_rows m l ≡ line_text l ∷ []
    → roll_bytes m (l ∷ []) ≡ row_bytes (line_text l)
roll_bytes-row m l e = roll_bytes_line m l ∙ ap rows_bytes e ∙ rows_bytes-row (line_text l)

pub roll_bytes-append : (m : Model) (xs ys : List PageLine) → roll_bytes m (xs ++ ys) ≡ roll_bytes m xs ++ roll_bytes
    m ys
unfolding roll_bytes
roll_bytes-append m [] ys = refl
roll_bytes-append m (x ∷ xs) ys =
    ap (λ (z : List ℕ). rows_bytes (roll_rows m x) ++ z) (roll_bytes-append m xs ys)
    ∙ sym (append_assoc (rows_bytes (roll_rows m x)) (roll_bytes m xs) (roll_bytes m ys))
