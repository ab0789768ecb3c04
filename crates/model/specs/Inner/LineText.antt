-- The lines of a model's text without their ends, as fields joined by commas.
-- Document 01, "The text"; document 02, (iii).
use Rattle.std.specs.Prelude.{List, [], ◌∷◌, ◌++◌, map, ◌⊎◌, ◌≡◌, ℕ, ◌<◌, T, length, get_or}
use Rattle.text.specs.declared.Head.{Head}
use Rattle.text.specs.declared.StepLine.{StepLine}
use Rattle.text.specs.declared.row.Row.{Row}
use Rattle.text.specs.Bytes.{kind_of, digit, small_letter, line_end, byte_a, byte_comma, byte_e, byte_i, byte_m, byte_s}
use Rattle.text.specs.Numbers.{digits}
use Rattle.text.specs.Join.{join}
use Rattle.text.specs.Model.{ActionLine, Model}
use Rattle.text.specs.Lines.{fits?, row_count, row_bounds}
use Rattle.text.specs.Inner.Ranges.{Small}
use Rattle.model.specs.Text.{level_byte}
use Rattle.model.specs.Store.{head_row, step_row}

-- a letter and fields
abbrev pub line_of : ℕ → List (List ℕ) → List ℕ
line_of letter fields = join byte_comma ((letter ∷ []) ∷ fields)

-- the numbers of a row: as many as it has, each of 1 to 5 digits and within its bounds
pub record RowNumbers (row : Row) (ns : List ℕ) : Type 0 where
  pub count : length ns ≡ row_count row
  pub small : Small ns
  pub fits : T (fits? (row_bounds row (get_or ns 0 0)) ns)

abbrev pub line_of_head : Head → List ℕ
line_of_head h = line_of byte_m (map digits (head_row h))

abbrev pub line_of_action : ActionLine → List ℕ
line_of_action a = line_of byte_a ((level_byte a.level ∷ []) ∷ a.name ∷ [])

abbrev pub line_of_start : ℕ → List ℕ
line_of_start p = line_of byte_i (map digits (p ∷ []))

abbrev pub line_of_step : StepLine → List ℕ
line_of_step s = line_of byte_s (map digits (step_row s))

-- the parts of a model's text between its line ends: its lines, and nothing after the last line end
abbrev pub parts_of : Model → List (List ℕ)
parts_of m =
    line_of_head m.head
    ∷ (map line_of_action m.actions
    ++ (map line_of_start m.extra_starts ++ (map line_of_step m.steps ++ ((byte_e ∷ []) ∷ [] ∷ []))))

-- a byte of a name is a digit or a small letter
abbrev pub NameByte : ℕ → Type 0
NameByte b = (kind_of b ≡ digit) ⊎ (kind_of b ≡ small_letter)

-- a byte that may stand in a line
abbrev pub LineByte : ℕ → Type 0
LineByte b = (b < 256) × (kind_of b ≡ line_end → ⊥)
