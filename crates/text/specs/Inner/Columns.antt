-- The columns that a row is read into: its numbers stand in the last ones. Only the contracts of inner functions cite
-- it.
use Rattle.std.specs.Prelude.{Bool, List, ◌≡◌, ℕ, ◌-◌, length, drop, Option}
use Rattle.text.specs.declared.row.Row.{Row}
use Rattle.text.specs.declared.row.RowScan.{RowScan}
use Rattle.text.specs.Lines.{row_count}
use Rattle.text.specs.Inner.Row.{RowTo, RowScanned}

abbrev pub columns : ℕ
columns = 4

-- the first column that a row fills
abbrev pub first_column : Row → ℕ
first_column row = columns - row_count row

-- the numbers of a row that stand in the columns
abbrev pub numbers_in : Row → List ℕ → List ℕ
numbers_in row out = drop (first_column row) out

-- the numbers of the columns below `column` are read
pub record ColumnsTo (row : Row) (text : List ℕ) (at : ℕ) (outside : Bool) (out : List ℕ) (column e : ℕ) : Type 0 where
  pub width : length out ≡ columns
  pub row_to : RowTo row text at outside (numbers_in row out) (column - first_column row) e

-- what reading them came to
abbrev pub ColumnsScanned : Row → List ℕ → ℕ → List ℕ → ℕ → Option RowScan → Type 0
ColumnsScanned row text at out column r = RowScanned row text at (numbers_in row out) (column - first_column row) r
