-- Names filled into a line: two of 12 bytes take 25 of the 30 columns, so a third of 4 fits and one of 5 does not.
-- Document 02, (ii). Assumes nothing.
use Rattle.std.specs.Prelude.{List, [], ◌∷◌, ◌++◌, ◌≡◌, refl, ℕ, length, replicate}
use Rattle.text.specs.Bytes.{byte_small_a, byte_blank}
use Rattle.columns.specs.Inner.LineCount.{columns_width}
use Rattle.columns.specs.Rows.{roll_width, blanks, name_indent, fill}

-- A name of n bytes, and one behind a blank.
abbrev name : ℕ → List ℕ
name n = replicate n byte_small_a

abbrev behind : ℕ → List ℕ
behind n = byte_blank ∷ name n

-- The columns of a state.
abbrev columns : List ℕ
columns = blanks columns_width

-- They fill the line to its last column.
pub four_fits : fill columns (name 12 ∷ name 12 ∷ name 4 ∷ []) ≡ (columns ++ behind 12 ++ behind 12 ++ behind 4) ∷ []
unfolding fill
four_fits = refl

pub four_fills : length (columns ++ behind 12 ++ behind 12 ++ behind 4) ≡ roll_width
four_fills = refl

-- It goes to a next line, and the name after it follows it there.
pub five_goes_on : fill columns (name 12 ∷ name 12 ∷ name 5 ∷ name 1 ∷ [])
    ≡ (columns ++ behind 12 ++ behind 12) ∷ (blanks name_indent ++ name 5 ++ behind 1) ∷ []
unfolding fill
five_goes_on = refl

-- "A state with none has one line."
pub none_alone : fill columns [] ≡ columns ∷ []
unfolding fill
none_alone = refl
