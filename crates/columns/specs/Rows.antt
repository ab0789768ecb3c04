-- The lines of the receipt roll: 42 columns, padded with blanks, and names filled into them.
-- Document 02, (ii). Assumes nothing.
use Rattle.std.specs.Prelude.{cond, List, [], ◌∷◌, ◌++◌, ℕ, ◌+◌, ◌-◌, leb, length, replicate}
use Rattle.text.specs.Bytes.{byte_blank, byte_line_end}

-- "Each line has exactly 42 columns before its line end"
abbrev pub roll_width : ℕ
roll_width = 42

-- n blanks
abbrev pub blanks : ℕ → List ℕ
blanks n = replicate n byte_blank

-- A text in a field of some columns: "padded with blanks", or "flush right".
unfoldable pub flush_left : ℕ → List ℕ → List ℕ
flush_left width text = text ++ blanks (width - length text)

unfoldable pub flush_right : ℕ → List ℕ → List ℕ
flush_right width text = blanks (width - length text) ++ text

-- A line of the roll with its end.
abbrev pub row_bytes : List ℕ → List ℕ
row_bytes row = flush_left roll_width row ++ (byte_line_end ∷ [])

-- Lines of the roll, one after the other.
unfoldable pub rows_bytes : List (List ℕ) → List ℕ
rows_bytes [] = []
rows_bytes (row ∷ rows) = row_bytes row ++ rows_bytes rows

-- A next line is blank up to column 12.
abbrev pub name_indent : ℕ
name_indent = 12

-- Names behind what stands on a line: "one blank between. A name that doesn't fit whole goes to a next line whose first
-- 12 columns are blank."
unfoldable pub fill : List ℕ → List (List ℕ) → List (List ℕ)
fill row [] = row ∷ []
fill row (name ∷ names) =
    cond (leb (length row + 1 + length name) roll_width)
    (fill (row ++ (byte_blank ∷ name)) names)
    (row ∷ fill (blanks name_indent ++ name) names)
