-- The lines of a page give demand 3 on the bytes of its roll: of those that are no state's the roll has the texts.
-- Document 02, (ii); DEMANDS, 3. Assumes nothing.
use Rattle.std.specs.Prelude.{List, [], ◌∷◌, ◌++◌, map, ◌≡◌, refl, ℕ}
use Rattle.std.proofs.Common.{append-nil, sym, ap, subst, ◌∙◌}
use Rattle.text.specs.Model.{Model}
use Rattle.model.specs.System.{DeterministicModel, NoSilentStep}
use Rattle.model.specs.WellFormed.{WellFormed}
use Rattle.model.proofs.Laws.System.GoodStoredLaws.{well_formed_stored}
use Rattle.verdicts.specs.declared.judging.Verdict.{Verdict}
use Rattle.verdicts.specs.declared.judging.Verdict.TheVariants.{Passed, Refused}
use Rattle.verdicts.specs.Verdicts.{Judged}
use Rattle.columns.specs.Rows.{flush_left, rows_bytes}
use Rattle.lines.specs.Page.{AfterStates, PageOf}
use Rattle.lines.specs.PageLines.{PageLine, verdict_line, last_line, line_text}
use Rattle.lines.specs.Roll.{roll_rows, roll_bytes}
use Rattle.page.specs.RollClaim.{other_texts, PassRoll, LeakRoll, RollTells}
use Rattle.page.specs.Inner.OtherLines.{without_states}
use Rattle.page.specs.Laws.ClaimTextsLaws.{pass_texts, leak_texts, Says, ByVerdict, bytes_tell}
use Rattle.page.specs.Laws.LineTextLaws.{without_states_page}
use Rattle.page.specs.Laws.RollSplitLaws.{other_texts_roll}

-- a roll begins with its verdict
roll-says : (m : Model) (v : Verdict) (rest : List PageLine) → Says v (roll_bytes m (verdict_line v ∷ rest))
unfolding roll_bytes roll_rows rows_bytes flush_left line_text
roll-says m (Passed rank) rest = refl
roll-says m (Refused j depth) rest = refl

module _ {m : Model} (w : WellFormed m) (det : DeterministicModel m) (still : NoSilentStep m)
    {run word run' word' : List ℕ} {lines : List PageLine} (x : PageOf m run word run' word' lines) where
  -- with nothing after them
  parted : other_texts (roll_bytes m lines) ≡ map line_text (without_states lines) ++ []
  parted = other_texts_roll w x ∙ sym (append-nil (map line_text (without_states lines)))

  roll_told : (v : Verdict) (after : List PageLine) → Judged m v → AfterStates m v run word run' word' after
      → without_states lines ≡ (verdict_line v ∷ []) ++ [] ++ after ++ (last_line ∷ [])
      → ByVerdict v (PassRoll m (roll_bytes m lines)) (LeakRoll m (roll_bytes m lines) word')
  roll_told (Passed rank) after judged y e =
      let only = e ∙ ap (λ (z : List PageLine). (verdict_line (Passed rank) ∷ []) ++ z ++ (last_line ∷ []))
      y.lines_are in
      record {
        rank = rank;
        texts = pass_texts (well_formed_stored w) _ _ (without_states lines) parted rank _ judged e;
        parted = other_texts_roll w x ∙ ap (map line_text) only;
      }
  roll_told (Refused j depth) after judged y e = record {
    lines = without_states lines;
    texts =
        leak_texts (well_formed_stored w) _ _ (without_states lines) parted det still run word run' word' j.0 depth []
        after judged y e;
    parted = other_texts_roll w x;
  }

  pub roll_tells : RollTells m (roll_bytes m lines) word'
  roll_tells =
      bytes_tell (well_formed_stored w) det still (roll_bytes m lines) x.verdict x.judged
      (subst (λ (z : List PageLine). Says x.verdict (roll_bytes m z)) (sym x.lines_are)
      (roll-says m x.verdict _))
      (roll_told x.verdict x.after x.judged x.after_states (without_states_page w x))
