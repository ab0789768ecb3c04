-- How far the numbers of a row are read, and what the row at a place of a text comes to. Only the contracts of inner
-- functions cite it.
-- Document 01, "The text"; document 02, (i).
use Rattle.std.specs.Prelude.{Bool, true, false, cond, List, [], ◌∷◌, ◌++◌, ◌⊎◌, ◌≡◌, ℕ, ◌+◌, ◌-◌, ◌≤◌, ◌<◌, eqb}
use Rattle.std.specs.Prelude.{length, take, drop, get_or, Option, Some, None, Result, Ok, Err}
use Rattle.text.specs.declared.Fault.{Fault}
use Rattle.text.specs.declared.Fault.TheVariants.{Absent, Digits, Range}
use Rattle.text.specs.declared.number.Bounds.{Bounds}
use Rattle.text.specs.declared.row.Row.{Row}
use Rattle.text.specs.declared.row.RowScan.{RowScan}
use Rattle.text.specs.Bytes.{comma, line_end, kind_of}
use Rattle.text.specs.Split.{split, index_of}
use Rattle.text.specs.Lines.{Line, good, bad, fields_of, numbers_of, row_letter, row_count, row_bounds, states_of}
use Rattle.text.specs.Lines.{row_of}

-- ---- the fields of the line at the front of a text

unfoldable pub line_fields : List ℕ → List (List ℕ)
line_fields text = split comma (take (index_of line_end text) text)

-- those behind its first byte, if that is a comma
unfoldable pub fields_after : List ℕ → List (List ℕ)
fields_after [] = []
fields_after (b ∷ bs) = cond (eqb (kind_of b) comma) (line_fields bs) []

-- ---- the line at a place

-- the line at a place of a text, without its end
abbrev pub line_at : List ℕ → ℕ → List ℕ
line_at text at = take (index_of line_end (drop at text)) (drop at text)

-- what a line states, where the line at a place of a text has a line end, at place e
pub record LineAt {A : Type 0} (read : List ℕ → Line A) (text : List ℕ) (at : ℕ) (stated : Line A) (e : ℕ)
    : Type 0 where
  pub found : e ≡ at + index_of line_end (drop at text)
  pub inside : e < length text
  pub reads : read (take (e - at) (drop at text)) ≡ stated

-- the line has no line end
pub record NoLineAt (text : List ℕ) (at : ℕ) (fault : Fault) (e : ℕ) : Type 0 where
  pub found : e ≡ at + index_of line_end (drop at text)
  pub outside : length text ≤ e
  pub absent : fault ≡ Absent

-- the line at a place states a, and the next one begins at place `next`
abbrev pub LineTaken : {A : Type 0} → (List ℕ → Line A) → List ℕ → ℕ → A → ℕ → Type 0
LineTaken read text at a next = (e : ℕ) × (next ≡ e + 1) × LineAt read text at (good a) e

-- the line at a place has a fault
abbrev pub LineRefused : {A : Type 0} → (List ℕ → Line A) → List ℕ → ℕ → Fault → Type 0
LineRefused read text at fault = (e : ℕ) × (NoLineAt text at fault e ⊎ LineAt read text at (bad fault) e)

-- ---- rows

-- the line at a place begins with a letter and a comma
pub record RowBegins (letter : ℕ) (text : List ℕ) (at : ℕ) : Type 0 where
  pub room : at + 2 ≤ length text
  pub letter_byte : get_or text at 0 ≡ letter
  pub separated : kind_of (get_or text (at + 1) 0) ≡ comma

-- the kind of the byte that follows i numbers of a row of n
unfoldable pub separator_kind : ℕ → ℕ → ℕ
separator_kind i n = cond (eqb i n) line_end comma

-- numbers in front of those that are read after them; whether one of them is outside its bounds
abbrev pub prepend : Bool → List ℕ → Line (List ℕ) → Line (List ℕ)
prepend false ns (good ms) = good (ns ++ ms)
prepend true ns (good ms) = bad Range
prepend false ns (bad fault) = bad fault
prepend true ns (bad fault) = bad fault

-- the fields of the row at a place, behind its letter
abbrev pub row_fields : List ℕ → ℕ → List (List ℕ)
row_fields text at = fields_after (drop (at + 1) text)

-- the bounds of its numbers
abbrev pub bounds_at : Row → List ℕ → ℕ → List Bounds
bounds_at row text at = row_bounds row (states_of (row_fields text at))

-- i numbers of the row at a place are read, and those within their bounds stored; the byte after them stands at place e
pub record RowTo (row : Row) (text : List ℕ) (at : ℕ) (outside : Bool) (out : List ℕ) (i e : ℕ) : Type 0 where
  pub begins : RowBegins (row_letter row) text at
  pub out_length : length out ≡ row_count row
  pub inside : e < length text
  pub follows : kind_of (get_or text e 0) ≡ separator_kind i (row_count row)
  pub line_end_is : at + index_of line_end (drop at text) ≡ e + index_of line_end (drop e text)
  pub count : length (row_fields text at) ≡ i + length (fields_after (drop e text))
  pub none : i ≡ 0 → (e ≡ at + 1) × (get_or out 0 0 ≡ 0)
  pub bounds : 0 < i → row_bounds row (get_or out 0 0) ≡ bounds_at row text at
  pub numbers : numbers_of (bounds_at row text at) (row_fields text at)
      ≡ prepend outside (take i out) (numbers_of (drop i (bounds_at row text at)) (fields_after (drop e text)))

-- if the line at a place has an end and the fields of the row, one of its numbers has bad digits
pub record BadNumbers (row : Row) (text : List ℕ) (at : ℕ) : Type 0 where
  pub told : at + index_of line_end (drop at text) < length text → (fs : List (List ℕ))
      → fields_of (row_letter row) (row_count row) (line_at text at) ≡ good fs
      → numbers_of (row_bounds row (states_of fs)) fs ≡ bad Digits

-- what reading i numbers of the row at a place came to
unfoldable pub RowScanned : Row → List ℕ → ℕ → List ℕ → ℕ → Option RowScan → Type 0
RowScanned row text at out i (Some scan) = RowTo row text at scan.outside out i scan.end
RowScanned row text at out i None = BadNumbers row text at

-- the row at a place is refused
abbrev pub RowRefused : Row → List ℕ → ℕ → Fault → Type 0
RowRefused row = LineRefused (row_of row)

-- what the row at a place comes to
unfoldable pub RowAt : Row → List ℕ → ℕ → List ℕ → Result ℕ Fault → Type 0
RowAt row text at ns (Ok e) = LineAt (row_of row) text at (good ns) e
RowAt row text at ns (Err fault) = RowRefused row text at fault
