-- The lines of a page give demand 3 on its bytes.
-- Document 01, "Demand 3 is one claim [..]"; DEMANDS, 3. Assumes nothing.
use Rattle.std.specs.Prelude.{List, [], ◌∷◌, ◌++◌, ◌≡◌, refl, ℕ, ◌+◌, ◌<◌, length, get_or}
use Rattle.std.proofs.Math.Option.{some}
use Rattle.std.proofs.Common.{sym, subst}
use Rattle.text.specs.Bytes.{line_end}
use Rattle.text.specs.Model.{Model}
use Rattle.text.specs.Numbers.{number_of}
use Rattle.text.specs.Split.{split}
use Rattle.model.specs.System.{DeterministicModel, NoSilentStep}
use Rattle.model.specs.WellFormed.{WellFormed}
use Rattle.model.proofs.Laws.System.GoodStoredLaws.{well_formed_stored}
use Rattle.verdicts.specs.declared.judging.Verdict.{Verdict}
use Rattle.verdicts.specs.declared.judging.Verdict.TheVariants.{Passed, Refused}
use Rattle.verdicts.specs.Verdicts.{Judged}
use Rattle.lines.specs.Page.{AfterStates, StateLines, PageOf}
use Rattle.lines.specs.PageLines.{PageLine, verdict_line, last_line, line_text, page_bytes}
use Rattle.lines.specs.Laws.StateLinesLaws.{state_lines-length}
use Rattle.page.specs.PageClaim.{line_fields, PassPage, LeakPage, PageTells}
use Rattle.page.specs.Laws.ClaimTextsLaws.{pass_texts, leak_texts, Says, ByVerdict, bytes_tell}
use Rattle.page.specs.Laws.PageSplitLaws.{split_page}

-- a page begins with its verdict
page-says : (v : Verdict) (rest : List PageLine) → Says v (page_bytes (verdict_line v ∷ rest))
unfolding page_bytes line_text
page-says (Passed rank) rest = refl
page-says (Refused j depth) rest = refl

module _ {m : Model} (w : WellFormed m) (det : DeterministicModel m) (still : NoSilentStep m)
    {run word run' word' : List ℕ} {lines : List PageLine} (x : PageOf m run word run' word' lines) where
  page_told : (v : Verdict) (states after : List PageLine) → StateLines m m.head.states states → Judged m v
      → AfterStates m v run word run' word' after
      → lines ≡ (verdict_line v ∷ []) ++ states ++ after ++ (last_line ∷ [])
      → ByVerdict v (PassPage m (page_bytes lines)) (LeakPage m (page_bytes lines) word')
  page_told (Passed rank) states after state_lines judged y e = record {
    rank = rank;
    texts = pass_texts (well_formed_stored w) _ _ lines (split_page w x) rank _ judged e;
  }
  page_told (Refused j depth) states after state_lines judged y e = record {
    states = states;
    state_lines = state_lines;
    lines = lines;
    texts =
        leak_texts (well_formed_stored w) _ _ lines (split_page w x) det still run word run' word' j.0 depth states
        after judged y e;
    bytes_are = refl;
    parted = split_page w x;
  }

  pub page_tells : PageTells m (page_bytes lines) word'
  page_tells =
      bytes_tell (well_formed_stored w) det still (page_bytes lines) x.verdict x.judged
      (subst (λ (z : List PageLine). Says x.verdict (page_bytes z)) (sym x.lines_are) (page-says x.verdict _))
      (page_told x.verdict x.states x.after x.state_lines x.judged x.after_states x.lines_are)

-- the `R` lines, counted by the states: there are as many `C` lines
pub run_fields_states : {m : Model} {bytes word : List ℕ} (x : LeakPage m bytes word) (i : ℕ)
    → i < length x.texts.run
    → number_of (get_or (line_fields (split line_end bytes) (1 + m.head.states + i)) 1 [])
    ≡ some (get_or x.texts.run i 0)
run_fields_states {bytes = bytes} x i l =
    subst
    (λ (n : ℕ). number_of (get_or (line_fields (split line_end bytes) (1 + n + i)) 1 []) ≡ some
    (get_or x.texts.run i 0))
    (state_lines-length x.state_lines) (x.texts.run_fields i l)
