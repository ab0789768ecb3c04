-- The lines of a page that are no state's, and what their texts are made of. Only laws cite it.
-- Document 01, "The page"; document 02, (ii).
use Rattle.std.specs.Prelude.{true, List, [], ◌∷◌, ◌++◌, map, ◌≡◌, ℕ}
use Rattle.std.proofs.Math.Option.{Option}
use Rattle.text.specs.Bytes.{other, line_end}
use Rattle.text.specs.Join.{Without}
use Rattle.text.specs.Model.{Model}
use Rattle.columns.specs.Rows.{roll_width, flush_left}
use Rattle.lines.specs.PageLines.{PageLine, verdict_line, state_line, run_line, word_line, allows_line, no_word_line}
use Rattle.lines.specs.PageLines.{last_line, line_text}
use Rattle.lines.specs.Roll.{roll_rows}
use Rattle.lines.specs.Inner.FormLines.{TextFits}
use Rattle.page.specs.RollClaim.{lettered?}

-- A line, unless it is a state's.
unfoldable pub unless_state : PageLine → List PageLine
unless_state (state_line p distance class) = []
unless_state (verdict_line v) = verdict_line v ∷ []
unless_state (run_line j) = run_line j ∷ []
unless_state (word_line name) = word_line name ∷ []
unless_state (allows_line end) = allows_line end ∷ []
unless_state no_word_line = no_word_line ∷ []
unless_state last_line = last_line ∷ []

-- The lines that are no state's.
unfoldable pub without_states : List PageLine → List PageLine
without_states [] = []
without_states (l ∷ lines) = unless_state l ++ without_states lines

-- A text within one line.
abbrev pub OneLine : List ℕ → Type 0
OneLine = Without line_end

-- A text within one line that holds no byte of kind 0, as a blank is: digits, letters and commas.
pub record NoBlanks (text : List ℕ) : Type 0 where
  pub no_line_end : OneLine text
  pub no_other : Without other text

-- A line that is no state's: one line on the roll, its text.
pub record OtherLine (l : PageLine) : Type 0 where
  pub width : ℕ
  pub fits : TextFits l width
  pub stays : unless_state l ≡ l ∷ []
  pub begins : lettered? (line_text l) ≡ true
  pub no_blanks : NoBlanks (line_text l)

-- A line of a page.
pub data AnyLine : PageLine → Type 0 where
  of_state : (p : ℕ) (distance : Option ℕ) (class : ℕ) → AnyLine (state_line p distance class)
  of_other : {l : PageLine} → OtherLine l → AnyLine l

-- The lines of the roll, each padded.
unfoldable pub padded_rows : Model → List PageLine → List (List ℕ)
padded_rows m [] = []
padded_rows m (l ∷ lines) = map (flush_left roll_width) (roll_rows m l) ++ padded_rows m lines
