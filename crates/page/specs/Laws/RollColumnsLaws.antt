-- Each line of a roll has 42 columns: numbers and names are short, so that padding fills each line and nothing is cut.
-- Document 02, (ii): "Each line has exactly 42 columns before its line end, padded with blanks." Assumes nothing.
use Rattle.std.specs.Prelude.{List, [], ◌∷◌, map, ◌≡◌, ℕ, ◌≤◌, ◌<◌, length}
use Rattle.std.proofs.Math.Option.{Option}
use Rattle.std.proofs.Common.{sym, subst, arith}
use Rattle.text.specs.All.{All}
use Rattle.text.specs.Laws.AllLaws.{all_append, all_map, all_of_all}
use Rattle.text.specs.Model.{Model}
use Rattle.model.specs.Inner.Stored.{Stored}
use Rattle.model.specs.WellFormed.{WellFormed}
use Rattle.model.proofs.Laws.System.GoodStoredLaws.{well_formed_stored}
use Rattle.columns.specs.Inner.LineCount.{ShortRows, NamesFit}
use Rattle.columns.specs.LowNames.{low_names}
use Rattle.columns.specs.Rows.{roll_width, flush_left}
use Rattle.columns.specs.StateRows.{state_columns}
use Rattle.columns.specs.Laws.RowsLaws.{flush_left-length, fill_short, state_columns_length, low_names_short}
use Rattle.lines.specs.PageLines.{PageLine, state_line}
use Rattle.lines.specs.Page.{DistanceField, ClassOf, StateLines, no_state, next_state, PageOf}
use Rattle.lines.specs.Roll.{roll_rows, roll_bytes}
use Rattle.lines.specs.Laws.StateLinesLaws.{short_columns}
use Rattle.page.specs.RollClaim.{RollColumns}
use Rattle.page.specs.Inner.OtherLines.{OtherLine, padded_rows}
use Rattle.page.specs.Laws.LineTextLaws.{name_short, page_all}
use Rattle.page.specs.Laws.RollSplitLaws.{split_roll}

-- ---- padded lines

-- The lines of the roll for a line of the page are not too long.
ShortLine : Model → PageLine → Type 0
ShortLine m l = ShortRows (roll_rows m l)

padded_widths : (m : Model) (lines : List PageLine) → All (ShortLine m) lines
    → All (λ (row : List ℕ). length row ≡ roll_width) (padded_rows m lines)
unfolding padded_rows ShortLine
padded_widths m [] p = tt
padded_widths m (l ∷ lines) p =
    all_append (λ (row : List ℕ). length row ≡ roll_width) (map (flush_left roll_width) (roll_rows m l))
    (padded_rows m lines)
    (all_map (λ (row : List ℕ). length row ≡ roll_width) (flush_left roll_width) (roll_rows m l)
    (all_of_all (λ (row : List ℕ). length row ≤ roll_width)
    (λ (row : List ℕ). length (flush_left roll_width row) ≡ roll_width) (flush_left-length roll_width) (roll_rows m l)
    p.0)) (padded_widths m lines p.1)

-- ---- the lines of a page

-- a line that is no state's
other_short : (m : Model) (l : PageLine) → OtherLine l → ShortLine m l
unfolding ShortLine
other_short m l x = subst ShortRows (sym (x.fits.one_row m)) (omega (arith, x.fits.text_le, x.fits.width_le), tt)

module _ {s : List ℕ} {m : Model} (st : Stored s m) where
  state_short : NamesFit m → (p : ℕ) (d : Option ℕ) (class : ℕ) → p < m.head.states → DistanceField m p d
      → ClassOf m p class → ShortLine m (state_line p d class)
  unfolding ShortLine roll_rows
  state_short names p d class l x k =
      let short = short_columns st p d class l x k.class_among in
      fill_short (state_columns p d class) (low_names m p) (omega (arith, state_columns_length p d class short))
      (low_names_short m names p)

  states_short : NamesFit m → {n : ℕ} {lines : List PageLine} → n ≤ m.head.states → StateLines m n lines
      → All (ShortLine m) lines
  states_short names l no_state = tt
  states_short names l (next_state {n = n} {lines = lines} {distance = d} {class = c} x f k) =
      all_append (ShortLine m) lines (state_line n d c ∷ []) (states_short names (omega arith) x)
      (state_short names n d c (omega arith) f k, tt)

module _ {m : Model} (w : WellFormed m) where
  pub roll_columns : {run word run' word' : List ℕ} {lines : List PageLine} → PageOf m run word run' word' lines
      → RollColumns (roll_bytes m lines)
  roll_columns {lines = lines} x =
      let states = states_short (well_formed_stored w) (name_short w) (omega arith) x.state_lines in
      record {
        rows = padded_rows m lines;
        parted = split_roll w x;
        widths = padded_widths m lines (page_all w x (ShortLine m) (other_short m) states);
      }
