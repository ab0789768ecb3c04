-- Lines of the roll, counted: a line that is not the last of its state has at least two names.
-- Document 02, (ii). Assumes nothing.
use Rattle.std.specs.Prelude.{Bool, cond, List, [], ◌∷◌, ◌++◌, ◌⊎◌, ◌≡◌, refl, ℕ, ◌+◌, ◌*◌, ◌≤◌, ◌<◌}
use Rattle.std.proofs.Common.{append_assoc, append-nil, inl, inr, sym, ◌∙◌, arith, le-leb}
use Rattle.std.proofs.Math.Option.{Option}
use Rattle.std.proofs.Math.Path.{ap}
use Rattle.std.proofs.lemmas.Bool.{lt-leb}
use Rattle.std.proofs.Math.ListN.{length, length-append}
use Rattle.std.proofs.lemmas.List.{length-replicate}
use Rattle.lts.proofs.TestsLaws.{lt_or_le}
use Rattle.text.specs.Bytes.{byte_blank}
use Rattle.text.specs.Laws.AllLaws.{all_map, all_of_all}
use Rattle.text.specs.Limits.{name_limit}
use Rattle.text.specs.Model.{Model}
use Rattle.text.specs.Numbers.{digits}
use Rattle.model.specs.System.{name_of}
use Rattle.columns.specs.Inner.LineCount.{columns_width, line_count, ShortNames, ShortRows, ShortColumns}
use Rattle.columns.specs.Inner.LineCount.{NamesFit}
use Rattle.columns.specs.LowNames.{low_from?, low_actions, low_names}
use Rattle.columns.specs.Laws.PassingLaws.{passing_lt}
use Rattle.columns.specs.Rows.{roll_width, blanks, flush_left, flush_right, row_bytes, rows_bytes, name_indent, fill}
use Rattle.columns.specs.StateRows.{distance_text, number_width, state_columns, state_rows}

-- ---- names filled into lines

-- A name goes to a next line, or fits on this one.
abbrev Room : List ℕ → List ℕ → Type 0
Room row name = (roll_width < length row + 1 + length name) ⊎ (length row + 1 + length name ≤ roll_width)

room : (row name : List ℕ) → Room row name
room row name = lt_or_le roll_width (length row + 1 + length name)

module _ (row name : List ℕ) (names : List (List ℕ)) where
  -- behind what stands on the line, or on a next one
  filled : Bool → List (List ℕ)
  filled fits = cond fits (fill (row ++ (byte_blank ∷ name)) names) (row ∷ fill (blanks name_indent ++ name) names)

  pub fill_fits : length row + 1 + length name ≤ roll_width
      → fill row (name ∷ names) ≡ fill (row ++ (byte_blank ∷ name)) names
  unfolding fill filled
  fill_fits l = ap filled (le-leb (length row + 1 + length name) roll_width l)

  pub fill_next : roll_width < length row + 1 + length name
      → fill row (name ∷ names) ≡ row ∷ fill (blanks name_indent ++ name) names
  unfolding fill filled
  fill_next l = ap filled (lt-leb (length row + 1 + length name) roll_width l)

-- what stands on the line counts by its length alone
pub fill-length : (row row' : List ℕ) (names : List (List ℕ)) → length row ≡ length row'
    → length (fill row names) ≡ length (fill row' names)
unfolding fill
fill-length row row' [] e = refl
fill-length row row' (name ∷ names) e =
    go (room row name) (fill-length (row ++ (byte_blank ∷ name))
    (row' ++ (byte_blank ∷ name)) names
    (omega (arith, e, length-append row (byte_blank ∷ name), length-append row' (byte_blank ∷ name))))
  where
    go : Room row name
        → length (fill (row ++ (byte_blank ∷ name)) names) ≡ length (fill (row' ++ (byte_blank ∷ name)) names)
        → length (fill row (name ∷ names)) ≡ length (fill row' (name ∷ names))
    go (inl l) ih = ap length (fill_next row name names l) ∙ ap length (sym (fill_next row' name names (omega arith)))
    go (inr l) ih =
        ap length (fill_fits row name names l) ∙ ih ∙ ap length (sym (fill_fits row' name names (omega arith)))

pub fill_short : (row : List ℕ) (names : List (List ℕ)) → length row ≤ roll_width → ShortNames names
    → ShortRows (fill row names)
unfolding fill
fill_short row [] l s = (l, tt)
fill_short row (name ∷ names) l s =
    go (room row name) (λ r h. fill_short r names h s.1)
  where
    go : Room row name → ((r : List ℕ) → length r ≤ roll_width → ShortRows (fill r names))
        → ShortRows (fill row (name ∷ names))
    go (inl h) ih =
        let e = length-append (blanks name_indent) name in
        rw (fill_next row name names h) (l, ih (blanks name_indent ++ name) (omega (arith, e, s.0)))
    go (inr h) ih =
        let e = length-append row (byte_blank ∷ name) in
        rw (fill_fits row name names h) (ih (row ++ (byte_blank ∷ name)) (omega (arith, e)))

pub fill_pos : (row : List ℕ) (names : List (List ℕ)) → 1 ≤ length (fill row names)
unfolding fill
fill_pos row [] = omega arith
fill_pos row (name ∷ names) =
    go (room row name) (fill_pos (row ++ (byte_blank ∷ name)) names)
  where
    go : Room row name → 1 ≤ length (fill (row ++ (byte_blank ∷ name)) names) → 1 ≤ length (fill row (name ∷ names))
    go (inl h) ih = omega (arith, ap length (fill_next row name names h))
    go (inr h) ih = omega (arith, ap length (fill_fits row name names h))

-- The lines of some names: each but the last has two of them, but for the first, on which there may be room for none
-- or for one.
record Filled (row : List ℕ) (names : List (List ℕ)) : Type 0 where
  any_row : 2 * length (fill row names) ≤ length names + 3
  room_for_one : length row + 1 + name_limit ≤ roll_width → 2 * length (fill row names) ≤ length names + 2

fill_lines : (row : List ℕ) (names : List (List ℕ)) → ShortNames names → Filled row names
unfolding fill
fill_lines row [] s = record { any_row = omega arith; room_for_one = λ _. omega arith }
fill_lines row (name ∷ names) s =
    go (room row name) (λ r. fill_lines r names s.1)
  where
    go : Room row name → ((r : List ℕ) → Filled r names) → Filled row (name ∷ names)
    go (inl h) ih =
        let e = length-append (blanks name_indent) name in
        let f = ap length (fill_next row name names h) in
        let x = (ih (blanks name_indent ++ name)).room_for_one (omega (arith, e, s.0)) in
        record { any_row = omega (arith, f, x); room_for_one = λ l. absurd (omega (arith, s.0)) }
    go (inr h) ih =
        let f = ap length (fill_fits row name names h) in
        let x = (ih (row ++ (byte_blank ∷ name))).any_row in
        record { any_row = omega (arith, f, x); room_for_one = λ _. omega (arith, f, x) }

-- a line with room for two names
pub fill-length_le : (row : List ℕ) (names : List (List ℕ)) → ShortNames names → 0 < length names
    → length row + 2 * (1 + name_limit) ≤ roll_width → 2 * length (fill row names) ≤ length names + 1
fill-length_le row [] s pos l = absurd (omega arith)
fill-length_le row (name ∷ names) s pos l =
    let e = length-append row (byte_blank ∷ name) in
    let f = ap length (fill_fits row name names (omega (arith, s.0))) in
    let x = (fill_lines (row ++ (byte_blank ∷ name)) names s.1).room_for_one (omega (arith, e, s.0)) in
    omega (arith, f, x)

-- ---- the bytes of lines

pub rows_bytes-row : (row : List ℕ) → rows_bytes (row ∷ []) ≡ row_bytes row
unfolding rows_bytes
rows_bytes-row row = append-nil (row_bytes row)

pub rows_bytes-append : (xs ys : List (List ℕ)) → rows_bytes (xs ++ ys) ≡ rows_bytes xs ++ rows_bytes ys
unfolding rows_bytes
rows_bytes-append [] ys = refl
rows_bytes-append (x ∷ xs) ys =
    ap (λ (t : List ℕ). row_bytes x ++ t) (rows_bytes-append xs ys)
    ∙ sym (append_assoc (row_bytes x) (rows_bytes xs) (rows_bytes ys))

pub row_bytes-length : (row : List ℕ) → length row ≤ roll_width → length (row_bytes row) ≡ roll_width + 1
unfolding flush_left
row_bytes-length row l = simp (length-append, length-replicate) (omega arith)

pub rows_bytes-length : (rows : List (List ℕ)) → ShortRows rows → length (rows_bytes rows) ≡ (roll_width + 1) * length
    rows
unfolding rows_bytes
rows_bytes-length [] s = refl
rows_bytes-length (row ∷ rows) s =
    let e = length-append (row_bytes row) (rows_bytes rows) in
    omega (arith, row_bytes-length row s.0, rows_bytes-length rows s.1)

pub flush_left-length : (width : ℕ) (text : List ℕ) → length text ≤ width → length (flush_left width text) ≡ width
unfolding flush_left
flush_left-length width text l = simp (length-append, length-replicate) (omega arith)

pub flush_right-length : (width : ℕ) (text : List ℕ) → length text ≤ width → length (flush_right width text) ≡ width
unfolding flush_right
flush_right-length width text l = simp (length-append, length-replicate) (omega arith)

-- ---- the lines of a state

module _ (p : ℕ) (distance : Option ℕ) (class : ℕ) (short : ShortColumns p distance class) where
  pub state_columns_length : length (state_columns p distance class) ≡ columns_width
  unfolding state_columns
  state_columns_length =
      let x = flush_right-length number_width (digits p) short.state_le in
      let y = flush_right-length number_width (distance_text distance) short.distance_le in
      let z = flush_right-length number_width (digits class) short.class_le in
      simp length-append (omega arith)

  pub state_rows_length : (m : Model) → length (state_rows m p distance class) ≡ line_count m p
  state_rows_length m =
      fill-length (state_columns p distance class) (blanks columns_width) (low_names m p) state_columns_length

module _ (m : Model) (short : NamesFit m) (p : ℕ) where
  pub low_names_short : ShortNames (low_names m p)
  low_names_short =
      all_map (λ (name : List ℕ). length name ≤ name_limit) (name_of m) (low_actions m p)
      (all_of_all (λ (a : ℕ). a < length m.actions) (λ (a : ℕ). length (name_of m a) ≤ name_limit) short
      (low_actions m p) (passing_lt (length m.actions) (low_from? m p (length m.steps))))

  pub state_rows_bytes_length : (distance : Option ℕ) (class : ℕ) → ShortColumns p distance class
      → length (rows_bytes (state_rows m p distance class)) ≡ (roll_width + 1) * line_count m p
  state_rows_bytes_length distance class columns =
      let l = state_columns_length p distance class columns in
      let s = fill_short (state_columns p distance class) (low_names m p) (omega arith) low_names_short in
      rows_bytes-length (state_rows m p distance class) s
      ∙ ap (λ (n : ℕ). (roll_width + 1) * n) (state_rows_length p distance class columns m)

  -- each line but the last has two names
  pub line_count_le : 0 < length (low_names m p) → 2 * line_count m p ≤ length (low_names m p) + 1
  line_count_le pos = fill-length_le (blanks columns_width) (low_names m p) low_names_short pos (omega arith)

-- ---- lines counted

-- "A state with none has one line."
pub line_count_unnamed : (m : Model) (p : ℕ) → length (low_names m p) ≡ 0 → line_count m p ≡ 1
unfolding fill
line_count_unnamed m p e = go (low_names m p) e
  where
    go : (names : List (List ℕ)) → length names ≡ 0 → length (fill (blanks columns_width) names) ≡ 1
    go [] e = refl
    go (name ∷ names) e = absurd (omega arith)
