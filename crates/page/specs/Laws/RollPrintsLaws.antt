-- The page and the roll of one model or of one text, whatever the lists held: each line of the roll has 42 columns, and
-- those that are no state's are the page's, padded.
-- Document 02, (ii). Assumes nothing.
use mathlib.Core.List.{List, map}
use Rattle.std.specs.Prelude.{◌≡◌, ℕ}
use Rattle.std.proofs.Common.{sym, ◌∙◌}
use Rattle.std.proofs.Math.Path.{ap, subst}
use Rattle.text.specs.Model.{Model}
use Rattle.model.specs.Reading.{done, read_text}
use Rattle.model.specs.WellFormed.{WellFormed}
use Rattle.model.proofs.Laws.Text.ReadingLaws.{read_text_well_formed}
use Rattle.columns.specs.Rows.{roll_width, flush_left}
use Rattle.lines.specs.declared.lines.Form.TheVariants.{Page, Roll}
use Rattle.lines.specs.Roll.{roll_bytes, form_bytes}
use Rattle.page.specs.Prints.{PageBytesOf, Prints}
use Rattle.page.specs.RollClaim.{other_lines, OthersPadded, RollColumns}
use Rattle.page.specs.Laws.PrintsUniqueLaws.{page_lines_unique}
use Rattle.page.specs.Laws.RollColumnsLaws.{roll_columns}
use Rattle.page.specs.Laws.RollSplitLaws.{other_lines_roll_page}

-- ---- of a model

module _ {m : Model} (w : WellFormed m) where
  -- "All other lines of the page stand padded in their page order."
  pub others_padded_of_model : {page roll : List ℕ} → PageBytesOf Page m page → PageBytesOf Roll m roll
      → OthersPadded page roll
  unfolding form_bytes
  others_padded_of_model x y =
      ap other_lines (y.bytes_are ∙ ap (roll_bytes m) (page_lines_unique y.page x.page))
      ∙ other_lines_roll_page w x.page
      ∙ ap (λ (z : List ℕ). map (flush_left roll_width) (other_lines z)) (sym x.bytes_are)

  -- "Each line has exactly 42 columns before its line end, padded with blanks."
  pub roll_columns_of_model : {roll : List ℕ} → PageBytesOf Roll m roll → RollColumns roll
  unfolding form_bytes
  roll_columns_of_model y = subst RollColumns (sym y.bytes_are) (roll_columns w y.page)

-- ---- of a text that is read

module _ {text : List ℕ} {m : Model} (e : read_text text ≡ done m) {roll : List ℕ} (rolls : Prints Roll text roll) where
  pub others_padded_of_text : {page : List ℕ} → Prints Page text page → OthersPadded page roll
  others_padded_of_text pages = others_padded_of_model (read_text_well_formed text m e) (pages.read m e)
      (rolls.read m e)

  pub roll_columns_of_text : RollColumns roll
  roll_columns_of_text = roll_columns_of_model (read_text_well_formed text m e) (rolls.read m e)
