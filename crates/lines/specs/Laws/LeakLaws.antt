-- The lines of a run and of a word, one more at a time.
-- Document 01, "The page". Assumes nothing.
use Rattle.std.specs.Prelude.{List, [], ◌∷◌, ◌++◌, map, ◌≡◌, refl, ℕ, ◌+◌, ◌*◌, ◌-◌, ◌<◌, ◌≤◌, length, get_or, take}
use Rattle.std.proofs.lemmas.List.{map-append}
use Rattle.std.proofs.Common.{sym, ap, ◌∙◌, arith, length-take-le}
use Rattle.text.specs.Model.{Model}
use Rattle.model.specs.StoredModel.{model_at}
use Rattle.model.specs.System.{name_of}
use Rattle.writer.specs.Inner.Writable.{Writable}
use Rattle.writer.specs.Wrote.{Wrote}
use Rattle.writer.specs.Laws.WroteLaws.{take_next}
use Rattle.writer.specs.Laws.NameLaws.{name_length_le}
use Rattle.lines.specs.declared.lines.Form.{Form}
use Rattle.lines.specs.PageLines.{PageLine, line_text}
use Rattle.lines.specs.Page.{name_line}
use Rattle.lines.specs.Inner.FormLines.{line_ending, TextFits}
use Rattle.lines.specs.Inner.LinesWritten.{LinesWritten}
use Rattle.lines.specs.Inner.Room.{name_width, line_room}
use Rattle.lines.specs.Laws.PageLinesLaws.{word_fits}
use Rattle.lines.specs.Laws.LinesWrittenLaws.{written_line, written_both, written_of}

-- a place among the first n of a list is below n
pub index_lt : (n : ℕ) (l : List ℕ) {i : ℕ} → n ≤ length l → i < length (take n l) → i < n
index_lt n l h k = omega (arith, k, length-take-le n l h)

-- a line for one element more of a list
pub written_next : {form : Form} {m : Model} (line : ℕ → PageLine) (l : List ℕ) (i : ℕ) {width at mid mid' next : ℕ}
    {entry middle middle' exit : List ℕ} → i < length l → TextFits (line (get_or l i 0)) width
    → LinesWritten form m (◌≡◌ (map line (take i l))) (line_room form width * i) entry at middle mid
    → Wrote middle mid (line_text (line (get_or l i 0))) middle' mid'
    → Wrote middle' mid' (line_ending form (mid' - mid)) exit next
    → LinesWritten form m (◌≡◌ (map line (take (i + 1) l))) (line_room form width * (i + 1)) entry at exit next
written_next line l i h fits x text end =
    let f : map line (take (i + 1) l) ≡ map line (take i l) ++ (line (get_or l i 0) ∷ []) =
    ap (map line) (sym (take_next l i h)) ∙ map-append line (take i l) (get_or l i 0 ∷ []) in
    let one = written_line {P = ◌≡◌ (line (get_or l i 0) ∷ [])} fits refl text end in
    written_of (λ xs (y : map line (take i l) ++ (line (get_or l i 0) ∷ []) ≡ xs). f ∙ y) (omega arith)
    (written_both x one)

-- `W,name`
module _ {s : List ℕ} (w : Writable s) (a : ℕ) (l : a < length (model_at s).actions) where
  pub name_line_fits : TextFits (name_line (model_at s) a) name_width
  name_line_fits = word_fits (name_of (model_at s) a) (name_length_le w a l)
