-- The lines of the page one after the other, in either form.
-- Document 01, "The page"; document 02, (ii). Assumes nothing.
use Rattle.std.specs.Prelude.{List, [], ◌∷◌, ◌++◌, ◌≡◌, ℕ, ◌+◌, ◌≤◌}
use Rattle.std.proofs.Common.{sym, arith}
use Rattle.text.specs.Model.{Model}
use Rattle.model.specs.Inner.Stored.{Stored}
use Rattle.verdicts.specs.declared.judging.Verdict.{Verdict}
use Rattle.verdicts.specs.Verdicts.{Judged}
use Rattle.columns.specs.Inner.LineCount.{NamesFit}
use Rattle.lines.specs.declared.lines.Form.{Form}
use Rattle.lines.specs.PageLines.{verdict_line, last_line}
use Rattle.lines.specs.Page.{StateLines, AfterStates, PageOf}
use Rattle.lines.specs.Roll.{form_length}
use Rattle.lines.specs.Inner.LinesWritten.{LinesWritten}
use Rattle.lines.specs.Inner.Room.{verdict_width, letter_width, line_room, states_room, leak_room}
use Rattle.lines.specs.Laws.LinesWrittenLaws.{written_exact, written_both, written_of}
use Rattle.lines.specs.Laws.RoomLaws.{form_room_le}

-- ---- the page fits its list

-- in the order of its lines
pub page-room : (form : Form) {s : List ℕ} {m : Model} {long : ℕ} (v : Verdict) → Stored s m → NamesFit m → Judged m v
    → form_length form ≤ long
    → line_room form verdict_width
    + (states_room form m m.head.states + (leak_room form m v + line_room form letter_width)) ≤ long
page-room form v stored names judged h = omega (arith, h, form_room_le form stored names v judged)

pub page_written : {form : Form} {s : List ℕ} {m : Model} {run word run' word' : List ℕ} (v : Verdict) {a b c d : ℕ}
    {out out₁ out₂ out₃ out₄ : List ℕ} → Stored s m → NamesFit m → Judged m v
    → LinesWritten form m (◌≡◌ (verdict_line v ∷ [])) (line_room form verdict_width) out 0 out₁ a
    → LinesWritten form m (StateLines m m.head.states) (states_room form m m.head.states) out₁ a out₂ b
    → LinesWritten form m (AfterStates m v run word run' word') (leak_room form m v) out₂ b out₃ c
    → LinesWritten form m (◌≡◌ (last_line ∷ [])) (line_room form letter_width) out₃ c out₄ d
    → LinesWritten form m (PageOf m run word run' word') (form_length form) out 0 out₄ d
page_written {form} v stored names judged first states after last =
    let whole = written_both (written_both (written_both first (written_exact states)) (written_exact after)) last in
    written_of
    (λ zs (e : (verdict_line v ∷ []) ++ states.lines ++ after.lines ++ (last_line ∷ []) ≡ zs). record {
      verdict = v;
      judged = judged;
      states = states.lines;
      state_lines = states.holds;
      after = after.lines;
      after_states = after.holds;
      lines_are = sym e;
    }) (form_room_le form stored names v judged) whole
