-- The page, or the roll, in its list.
-- Document 01, operation 7; document 02, (ii). Assumes nothing.
use Rattle.std.specs.Prelude.{List, [], ◌∷◌, ℕ, ◌≤◌, length}
use Rattle.std.proofs.Common.{ap, arith}
use Rattle.text.specs.Faults.{answers}
use Rattle.text.specs.Limits.{page_length}
use Rattle.text.specs.Model.{Model}
use Rattle.writer.specs.Laws.WroteLaws.{wrote-start}
use Rattle.lines.specs.declared.lines.Form.{Form}
use Rattle.lines.specs.declared.lines.Form.TheVariants.{Page, Roll}
use Rattle.lines.specs.Page.{PageOf}
use Rattle.lines.specs.Roll.{form_length}
use Rattle.page.specs.PagePromise.{PagePrinted}
use Rattle.lines.specs.Inner.LinesWritten.{LinesWritten}

-- a roll's list is no shorter than a page's
pub page_length_le : (form : Form) → page_length ≤ form_length form
page_length_le Page = omega arith
page_length_le Roll = omega arith

module _ (form : Form) {m : Model} {run word run' word' : List ℕ} where
  pub page_printed : {n : ℕ} {out out' : List ℕ} → form_length form ≤ length out
      → LinesWritten form m (PageOf m run word run' word') (form_length form) out 0 out' n
      → PagePrinted form m (answers (n ∷ [])) run word out run' word' out'
  page_printed long x =
      let w = wrote-start x.wrote (omega (arith, x.length_le)) in record {
        lines = x.lines;
        page = x.holds;
        outcome_is = ap (λ (k : ℕ). answers (k ∷ [])) w.0;
        list = w.1;
      }
