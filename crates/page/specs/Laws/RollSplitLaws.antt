-- The bytes of a roll part at their line ends into its lines, of which those that begin with a capital are the page's
-- own, but for the states'.
-- Document 02, (ii): "All other lines of the page stand padded in their page order." Assumes nothing.
use Rattle.std.specs.Prelude.{false, ◌⊎◌, ◌≡◌, ℕ, zero, suc, ◌+◌, ◌-◌, ◌≤◌, ◌<◌}
use mathlib.Core.List.{List, [], ◌∷◌, ◌++◌, map, map-append, append_assoc}
use Rattle.std.proofs.Common.{inl, inr, ◌∙◌, arith, ne_eqb}
use Rattle.std.proofs.Math.Option.{Option}
use Rattle.std.proofs.Math.Path.{refl, sym, ap, subst}
use Rattle.std.proofs.Math.ListN.{length}
use Rattle.std.proofs.lemmas.Bool.{eqb-false}
use Rattle.lts.proofs.TestsLaws.{lt_or_le}
use Rattle.text.specs.All.{All}
use Rattle.text.specs.Bytes.{byte_blank, byte_line_end, digit, capital, line_end, kind_of}
use Rattle.text.specs.Laws.AllLaws.{all_map, all_of_all, all_replicate}
use Rattle.text.specs.Laws.DigitsLaws.{digits-digit}
use Rattle.text.specs.Laws.JoinLaws.{split-append}
use Rattle.text.specs.Laws.SplitLaws.{split-nil}
use Rattle.text.specs.Model.{Model}
use Rattle.text.specs.Numbers.{digits}
use Rattle.text.specs.Split.{split}
use Rattle.model.specs.WellFormed.{WellFormed}
use Rattle.model.specs.System.{name_of}
use Rattle.columns.specs.LowNames.{low_from?, low_actions, low_names}
use Rattle.columns.specs.Rows.{roll_width, blanks, flush_left, flush_right, row_bytes, rows_bytes, name_indent, fill}
use Rattle.columns.specs.StateRows.{number_width, distance_text, state_columns, state_rows}
use Rattle.columns.specs.Laws.PassingLaws.{passing_lt}
use Rattle.columns.specs.Laws.RowsLaws.{fill_fits, fill_next}
use Rattle.lines.specs.PageLines.{PageLine, line_text, page_bytes}
use Rattle.lines.specs.Page.{PageOf}
use Rattle.lines.specs.Roll.{roll_rows, roll_bytes}
use Rattle.page.specs.RollClaim.{lettered?, others, other_lines, OthersPadded, unpadded, other_texts}
use Rattle.page.specs.Inner.OtherLines.{unless_state, without_states, AnyLine, of_state, of_other}
use Rattle.page.specs.Inner.OtherLines.{OneLine, padded_rows}
use Rattle.page.specs.Laws.LineTextLaws.{no_blanks-digits, no_blanks_name, page_any}
use Rattle.page.specs.Laws.PageSplitLaws.{one_line-append, one_line_distance}
use Rattle.page.specs.Laws.OtherLinesLaws.{lettered?-append, others_of_lettered, others-append, others_last}
use Rattle.page.specs.Laws.OtherLinesLaws.{other_lines_page, unpadded-others}

-- ---- a state's lines

-- A text begins with a byte that is no capital.
abbrev BeginsWithoutCapital : List ℕ → Type 0
BeginsWithoutCapital [] = ⊥
BeginsWithoutCapital (b ∷ text) = ¬ (kind_of b ≡ capital)

-- A state's line on the roll, before it is padded.
record StateRow (row : List ℕ) : Type 0 where
  one_line : OneLine row
  begins : BeginsWithoutCapital row

begins-append : (a b : List ℕ) → BeginsWithoutCapital a → BeginsWithoutCapital (a ++ b)
begins-append [] b p = elim p [ ]
begins-append (x ∷ a) b p = p

row-append : {row : List ℕ} (more : List ℕ) → StateRow row → OneLine more → StateRow (row ++ more)
row-append {row} more r p =
    record { one_line = one_line-append row more r.one_line p; begins = begins-append row more r.begins }

one_line-blanks : (n : ℕ) → OneLine (blanks n)
unfolding kind_of
one_line-blanks n = all_replicate (λ x. kind_of x ≡ line_end → ⊥) n byte_blank (λ e. omega arith)

-- a next line, and a name behind its blanks
next_row : (name : List ℕ) → OneLine name → StateRow (blanks name_indent ++ name)
unfolding kind_of
next_row name p =
    row-append {row = blanks name_indent} name
    (record { one_line = one_line-blanks name_indent; begins = λ e. omega arith }) p

fill_rows : (row : List ℕ) (names : List (List ℕ)) → StateRow row → All OneLine names → All StateRow (fill row names)
unfolding fill
fill_rows row [] r p = (r, tt)
fill_rows row (name ∷ names) r p =
    go (lt_or_le roll_width (length row + 1 + length name)) (λ r' h. fill_rows r' names h p.1)
  where
    go : (roll_width < length row + 1 + length name) ⊎ (length row + 1 + length name ≤ roll_width)
        → ((r' : List ℕ) → StateRow r' → All StateRow (fill r' names)) → All StateRow (fill row (name ∷ names))
    go (inl l) ih = rw (fill_next row name names l) (r, ih (blanks name_indent ++ name) (next_row name p.0))
    go (inr l) ih =
        let longer = row-append (byte_blank ∷ name) r ((one_line-blanks 1).0, p.0) in
        rw (fill_fits row name names l) (ih (row ++ (byte_blank ∷ name)) longer)

one_line_right : (width : ℕ) (text : List ℕ) → OneLine text → OneLine (flush_right width text)
unfolding flush_right
one_line_right width text p = one_line-append (blanks (width - length text)) text
    (one_line-blanks (width - length text)) p

-- a number flush right begins with a blank or with a digit
number_begins : (l : List ℕ) → All (λ b. kind_of b ≡ digit) l
    → BeginsWithoutCapital (blanks (number_width - length l) ++ l)
unfolding kind_of
number_begins [] h = λ e. omega arith
number_begins (b ∷ l) h = go (number_width - length (b ∷ l))
  where
    go : (n : ℕ) → BeginsWithoutCapital (blanks n ++ (b ∷ l))
    go zero = λ e. eqb-false digit capital refl (sym h.0 ∙ e)
    go (suc n) = λ e. omega arith

columns-row : (p : ℕ) (d : Option ℕ) (class : ℕ) → StateRow (state_columns p d class)
unfolding state_columns flush_right
columns-row p d class =
    let state = one_line_right number_width (digits p) (no_blanks-digits p).no_line_end in
    let first : StateRow (flush_right number_width (digits p)) =
    record { one_line = state; begins = number_begins (digits p) (digits-digit p) } in
    let blank = one_line-blanks 1 in
    row-append (flush_right number_width (digits class)) (row-append (byte_blank ∷ [])
    (row-append (flush_right number_width (distance_text d)) (row-append (byte_blank ∷ []) first blank)
    (one_line_right number_width (distance_text d) (one_line_distance d))) blank)
    (one_line_right number_width (digits class) (no_blanks-digits class).no_line_end)

-- ---- lines of the roll, parted

one_line_left : (row : List ℕ) → OneLine row → OneLine (flush_left roll_width row)
unfolding flush_left
one_line_left row p = one_line-append row (blanks (roll_width - length row)) p
    (one_line-blanks (roll_width - length row))

split_rows : (rows : List (List ℕ)) (rest : List ℕ) → All OneLine rows
    → split line_end (rows_bytes rows ++ rest) ≡ map (flush_left roll_width) rows ++ split line_end rest
unfolding rows_bytes kind_of
split_rows [] rest p = refl
split_rows (row ∷ rows) rest p =
    ap (split line_end) (append_assoc (row_bytes row) (rows_bytes rows) rest
    ∙ append_assoc (flush_left roll_width row) (byte_line_end ∷ []) (rows_bytes rows ++ rest))
    ∙ split-append line_end byte_line_end (flush_left roll_width row) (rows_bytes rows ++ rest) refl
    (one_line_left row p.0)
    ∙ ap (◌∷◌ (flush_left roll_width row)) (split_rows rows rest p.1)

-- a state's are none of those that begin with a capital
lettered?_false : (row more : List ℕ) → BeginsWithoutCapital row → lettered? (row ++ more) ≡ false
unfolding lettered?
lettered?_false [] more p = absurd p
lettered?_false (b ∷ row) more p = rw (ne_eqb (kind_of b) capital p)

others_of_state : (rows : List (List ℕ)) → All StateRow rows → others (map (flush_left roll_width) rows) ≡ []
unfolding others flush_left
others_of_state [] p = refl
others_of_state (row ∷ rows) p =
    let e = lettered?_false row (blanks (roll_width - length row)) p.0.begins in
    rw e (others_of_state rows p.1)

-- ---- on the roll

module _ {m : Model} (w : WellFormed m) where
  names_one_line : (p : ℕ) → All OneLine (low_names m p)
  names_one_line p =
      all_map OneLine (name_of m) (low_actions m p)
      (all_of_all (λ (a : ℕ). a < length m.actions) (λ (a : ℕ). OneLine (name_of m a))
      (λ a l. (no_blanks_name w a l).no_line_end) (low_actions m p)
      (passing_lt (length m.actions) (low_from? m p (length m.steps))))

  state_rows_is : (p : ℕ) (d : Option ℕ) (class : ℕ) → All StateRow (state_rows m p d class)
  state_rows_is p d class =
      fill_rows (state_columns p d class) (low_names m p)
      (columns-row p d class) (names_one_line p)

  -- ---- parted at the line ends

  rows_one_line : (l : PageLine) → AnyLine l → All OneLine (roll_rows m l)
  unfolding roll_rows
  rows_one_line _ (of_state p d class) =
      all_of_all StateRow OneLine (λ row r. r.one_line) (state_rows m p d class) (state_rows_is p d class)
  rows_one_line l (of_other x) = subst (All OneLine) (sym (x.fits.one_row m)) (x.no_blanks.no_line_end, tt)

  split_lines : (lines : List PageLine) → All AnyLine lines
      → split line_end (roll_bytes m lines) ≡ padded_rows m lines ++ ([] ∷ [])
  unfolding roll_bytes padded_rows
  split_lines [] p = split-nil line_end
  split_lines (l ∷ lines) p =
      split_rows (roll_rows m l) (roll_bytes m lines) (rows_one_line l p.0)
      ∙ ap (λ (z : List (List ℕ)). map (flush_left roll_width) (roll_rows m l) ++ z) (split_lines lines p.1)
      ∙ sym (append_assoc (map (flush_left roll_width) (roll_rows m l)) (padded_rows m lines) ([] ∷ []))

  -- ---- the lines that are no state's

  -- Such lines, padded.
  abbrev padded_texts : List PageLine → List (List ℕ)
  padded_texts lines = map (flush_left roll_width) (map line_text lines)

  padded_texts_append : (xs ys : List PageLine) → padded_texts (xs ++ ys) ≡ padded_texts xs ++ padded_texts ys
  padded_texts_append xs ys =
      ap (map (flush_left roll_width)) (map-append line_text xs ys)
      ∙ map-append (flush_left roll_width) (map line_text xs) (map line_text ys)

  padded_others : (l : PageLine) → AnyLine l
      → others (map (flush_left roll_width) (roll_rows m l)) ≡ padded_texts (unless_state l)
  unfolding roll_rows unless_state flush_left
  padded_others _ (of_state p d class) = others_of_state (state_rows m p d class) (state_rows_is p d class)
  padded_others l (of_other x) =
      ap (λ (z : List (List ℕ)). others (map (flush_left roll_width) z)) (x.fits.one_row m)
      ∙ others_of_lettered (flush_left roll_width (line_text l))
      (lettered?-append (line_text l) (blanks (roll_width - length (line_text l))) x.begins)
      ∙ ap padded_texts (sym x.stays)

  rows_others : (lines : List PageLine) → All AnyLine lines
      → others (padded_rows m lines) ≡ padded_texts (without_states lines)
  unfolding padded_rows without_states others
  rows_others [] p = refl
  rows_others (l ∷ lines) p =
      others-append (map (flush_left roll_width) (roll_rows m l)) (padded_rows m lines)
      ∙ ap (λ (z : List (List ℕ)). z ++ others (padded_rows m lines)) (padded_others l p.0)
      ∙ ap (λ (z : List (List ℕ)). padded_texts (unless_state l) ++ z) (rows_others lines p.1)
      ∙ sym (padded_texts_append (unless_state l) (without_states lines))

  module _ {run word run' word' : List ℕ} {lines : List PageLine} (x : PageOf m run word run' word' lines) where
    -- whoever parts the roll at its line ends has its lines
    pub split_roll : split line_end (roll_bytes m lines) ≡ padded_rows m lines ++ ([] ∷ [])
    split_roll = split_lines lines (page_any w x)

    other_lines_roll : other_lines (roll_bytes m lines) ≡ padded_texts (without_states lines)
    other_lines_roll =
        ap others split_roll
        ∙ others_last (padded_rows m lines)
        ∙ rows_others lines (page_any w x)

    -- the lines of the roll that are no state's are those of the page, padded, in their order
    pub other_lines_roll_page : OthersPadded (page_bytes lines) (roll_bytes m lines)
    other_lines_roll_page = other_lines_roll ∙ ap (map (flush_left roll_width)) (sym (other_lines_page w x))

    -- and have their texts
    pub other_texts_roll : other_texts (roll_bytes m lines) ≡ map line_text (without_states lines)
    other_texts_roll = ap (map unpadded) other_lines_roll ∙ unpadded-others lines (page_any w x)
