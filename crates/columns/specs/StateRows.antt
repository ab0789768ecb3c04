-- The lines of a state on the receipt roll.
-- Document 02, (ii).
use Rattle.std.specs.Prelude.{List, [], ◌∷◌, ◌++◌, ℕ}
use Rattle.std.proofs.Math.Option.{Option, none, some}
use Rattle.text.specs.Bytes.{byte_blank, byte_dash}
use Rattle.text.specs.Model.{Model}
use Rattle.text.specs.Numbers.{digits}
use Rattle.columns.specs.LowNames.{low_names}
use Rattle.columns.specs.Rows.{flush_right, fill}

-- "distance `-` if unreachable" (document 01, "The page")
unfoldable pub distance_text : Option ℕ → List ℕ
distance_text none = byte_dash ∷ []
distance_text (some d) = digits d

-- A state, a distance or a class has at most 3 digits.
abbrev pub number_width : ℕ
number_width = 3

-- "Columns 1 to 3 hold the state, 5 to 7 the distance or `-`, 9 to 11 the class, all flush right."
unfoldable pub state_columns : ℕ → Option ℕ → ℕ → List ℕ
state_columns p distance class =
    flush_right number_width (digits p)
    ++ (byte_blank ∷ [])
    ++ flush_right number_width (distance_text distance)
    ++ (byte_blank ∷ [])
    ++ flush_right number_width (digits class)

-- "Columns 13 to 42 hold the names [..]. A state with none has one line."
abbrev pub state_rows : Model → ℕ → Option ℕ → ℕ → List (List ℕ)
state_rows m p distance class = fill (state_columns p distance class) (low_names m p)
