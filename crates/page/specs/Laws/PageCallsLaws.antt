-- Whoever calls Read and then Page, or Roll, has demand 3 on the bytes; and on one good store the page and the roll
-- tell what Judge and Word answer.
-- Document 01, "Demand 3 is one claim [..]"; document 02, (ii); DEMANDS, 3. Assumes nothing.
use Rattle.std.specs.Prelude.{List, [], ◌∷◌, ◌++◌, map, ◌≡◌, refl, ℕ, length, take, drop}
use Rattle.std.proofs.Common.{⊎_elim, sym, ap, ◌∙◌}
use Rattle.text.specs.Faults.{Outcome, answers}
use Rattle.text.specs.Laws.ListsLaws.{take-filled}
use Rattle.text.specs.Laws.OutcomeLaws.{answers_not_refuses}
use Rattle.text.specs.Model.{Model}
use Rattle.read_write.specs.ReadPromise.{ReadPromise}
use Rattle.model.specs.Store.{Good}
use Rattle.model.proofs.Laws.System.GoodStoredLaws.{good_stored}
use Rattle.model.proofs.Laws.Text.ReadingLaws.{read_text_well_formed}
use Rattle.model.specs.System.{DeterministicModel, NoSilentStep}
use Rattle.verdicts.specs.declared.judging.Verdict.{Verdict}
use Rattle.verdicts.specs.declared.judging.Verdict.TheVariants.{Passed, Refused}
use Rattle.verdicts.proofs.Laws.VerdictsLaws.{judged_unique}
use Rattle.judge.specs.JudgePromise.{verdict_outcome, judge_lists, JudgePromise}
use Rattle.verdicts.specs.Verdicts.{Judged}
use Rattle.letters.specs.Laws.FirstSilentLaws.{silent_cases}
use Rattle.letters.specs.Laws.WordDoneLaws.{word_shown_unique}
use Rattle.judge.specs.WordPromise.{word_lists, WordPromise}
use Rattle.letters.specs.WordDone.{WordDone}
use Rattle.letters.specs.Words.{end_number, WordShown}
use Rattle.tell.specs.Claim.{States, NotShort}
use Rattle.tell.specs.Laws.ReadTextLaws.{lists_of_not_short, states→read_text, read_holds}
use Rattle.lines.specs.Page.{LeakShown, by_word, by_branch, by_silent, AfterStates, StateLines}
use Rattle.lines.specs.PageLines.{PageLine, verdict_line, run_line, last_line}
use Rattle.lines.specs.declared.lines.Form.{Form}
use Rattle.lines.specs.declared.lines.Form.TheVariants.{Page, Roll}
use Rattle.lines.specs.Roll.{form_bytes}
use Rattle.page.specs.PagePromise.{page_lists, PagePrinted, FormPromise, PagePromise, RollPromise}
use Rattle.page.specs.PageClaim.{PageTells}
use Rattle.page.specs.RollClaim.{OthersPadded, RollTells, RollColumns}
use Rattle.page.specs.Claim.{FormTells}
use Rattle.page.specs.Laws.PrintClaimLaws.{form-tells, printed_bytes}
use Rattle.page.specs.PageCalls.{JudgeOnPage, WordOnPage}
use Rattle.page.specs.Prints.{PageBytesOf}
use Rattle.page.specs.Laws.PrintsLaws.{page_bytes_of_printed}
use Rattle.page.specs.Laws.RollPrintsLaws.{others_padded_of_model, roll_columns_of_model}

-- ---- the sequence and the end

module _ (form : Form) {m : Model} (det : DeterministicModel m) (still : NoSilentStep m) {word : Outcome}
    {entry exit : List ℕ} (done : WordDone m word entry exit) {bytes : List ℕ} where
  word_of_leak : {word₀ word₁ : List ℕ} (v : Verdict) (j depth : ℕ) (states rest run : List PageLine) (steps : List ℕ)
      → StateLines m m.head.states states → LeakShown m j depth word₀ word₁ rest
      → WordShown m j depth word entry exit → run ≡ map run_line steps ++ rest
      → bytes ≡ form_bytes form m ((verdict_line v ∷ []) ++ states ++ run ++ (last_line ∷ []))
      → WordOnPage form m bytes word exit
  word_of_leak v j depth states _ run steps state_lines (by_branch n k) y f e = absurd (n det)
  word_of_leak v j depth states _ run steps state_lines (by_silent i t k) y f e = absurd (still i t)
  word_of_leak v j depth states _ run steps state_lines (by_word {w = w} {end = end} d n x l k) y f e =
      let told : WordShown m j depth (answers (depth ∷ end_number end ∷ [])) entry (w ++ drop (length w) entry) =
      record { word = w; end = end; word_of = x; length_is = l; outcome_is = refl; list = refl } in
      let same = word_shown_unique y told in
      record {
        sequence = w;
        end = end;
        answer = same.0 ∙ ap (λ (i : ℕ). answers (i ∷ end_number end ∷ [])) (sym l);
        filled = take-filled w _ same.1 (length w) refl;
        verdict = v;
        states = states;
        state_lines = state_lines;
        run = steps;
        bytes_are =
            e ∙ ap (λ (z : List PageLine). form_bytes form m ((verdict_line v ∷ []) ++ states ++ z ++ (last_line ∷ [])))
            f;
      }

  word_of_verdict : (run₀ word₀ run₁ word₁ : List ℕ) (v : Verdict) (states after : List PageLine)
      → StateLines m m.head.states states → Judged m v
      → AfterStates m v run₀ word₀ run₁ word₁ after
      → bytes ≡ form_bytes form m ((verdict_line v ∷ []) ++ states ++ after ++ (last_line ∷ []))
      → (values : List ℕ) → word ≡ answers values → WordOnPage form m bytes word exit
  word_of_verdict run₀ word₀ run₁ word₁ (Passed rank) states after state_lines judged x e values f =
      absurd (answers_not_refuses (sym f ∙ (done.passed det still judged.bnid).0))
  word_of_verdict run₀ word₀ run₁ word₁ (Refused j depth) states after state_lines judged x e values f =
      word_of_leak (Refused j depth) j.0 depth states x.rest after x.steps state_lines x.shown
      (done.refused det still j.0 depth judged) x.lines_are e

-- ---- on a good store

module _ {form : Form} {store distances table run word out distances' table' run' word' out' : List ℕ} {page : Outcome}
    (pages : FormPromise form store distances table run word out page distances' table' run' word' out') (n : ℕ)
    (e : page ≡ answers (n ∷ [])) (g : Good store) where
  printed : PagePrinted form g.model page run word out run' word' out'
  printed =
      (pages.good (lists_of_not_short (page_lists form store distances table run word out) (λ k h. (pages.short k h).0)
      (λ k h. answers_not_refuses (sym e ∙ h))) g).1

  -- the bytes, by the page's lines
  bytes_are : take n out' ≡ form_bytes form g.model ((verdict_line printed.page.verdict ∷ [])
      ++ printed.page.states ++ printed.page.after ++ (last_line ∷ []))
  bytes_are = printed_bytes n e printed ∙ ap (form_bytes form g.model) printed.page.lines_are

  bytes_of : PageBytesOf form g.model (take n out')
  bytes_of = page_bytes_of_printed n e printed

  -- Judge answers the verdict of the `V` line
  pub judge_on_page : {d t d' t' : List ℕ} {judge : Outcome} → JudgePromise store d t judge d' t' → NotShort judge
      → JudgeOnPage form g.model (take n out') judge
  judge_on_page {d} {t} judges told =
      let x = judges.good (lists_of_not_short (judge_lists store d t) (λ k h. (judges.short k h).0) told) g in
      let p = printed.page in
      record {
        verdict = p.verdict;
        answer = x.1 ∙ ap verdict_outcome (judged_unique g.model x.0 p.verdict x.2 p.judged);
        rest = p.states ++ p.after ++ (last_line ∷ []);
        bytes_are = bytes_are;
      }

  -- Word shows the sequence of the `W` lines and names the end of the `B` line; on a passed model, or on one with a
  -- reachable silent step, it shows none
  pub word_on_page : {d t w d' t' w' : List ℕ} {outcome : Outcome} → WordPromise store d t w outcome d' t' w'
      → DeterministicModel g.model → (values : List ℕ) → outcome ≡ answers values
      → WordOnPage form g.model (take n out') outcome w'
  word_on_page {d} {t} {w} words det values f =
      let lists = lists_of_not_short (word_lists store d t w) (λ k h. (words.short k h).0)
      (λ k h. answers_not_refuses (sym f ∙ h)) in
      let done = (words.good lists g).1 in
      let still : NoSilentStep g.model =
      ⊎_elim (λ (j, h). absurd (answers_not_refuses (sym f ∙ (done.silent det j h).0))) (λ none. none)
      (silent_cases (good_stored store g)) in
      let p = printed.page in
      word_of_verdict form det still done run word run' word' p.verdict p.states p.after
      p.state_lines p.judged p.after_states bytes_are values f

-- ---- the roll beside the page, of one good store

module _ {store : List ℕ} (g : Good store) {d t r w out d' t' r' w' out' : List ℕ} {roll : Outcome}
    (rolls : RollPromise store d t r w out roll d' t' r' w' out') (k : ℕ) (e : roll ≡ answers (k ∷ [])) where
  -- each line of what Roll leaves has 42 columns
  pub roll_columns_of_calls : RollColumns (take k out')
  roll_columns_of_calls =
      roll_columns_of_model (read_text_well_formed g.text g.model g.reads) (bytes_of rolls k e g)

  -- those that are no state's are what Page leaves, padded, whatever the lists of either held
  pub others_padded_of_calls : {d₀ t₀ r₀ w₀ out₀ d₁ t₁ r₁ w₁ out₁ : List ℕ} {page : Outcome}
      → PagePromise store d₀ t₀ r₀ w₀ out₀ page d₁ t₁ r₁ w₁ out₁ → (n : ℕ) → page ≡ answers (n ∷ [])
      → OthersPadded (take n out₁) (take k out')
  others_padded_of_calls pages n f =
      others_padded_of_model (read_text_well_formed g.text g.model g.reads) (bytes_of pages n f g)
      (bytes_of rolls k e g)

-- ---- after a successful Read

module _ {text store₀ store : List ℕ} (reads : ReadPromise text store₀ (answers []) store) (m : Model)
    (s : States text m) (det : DeterministicModel m) (still : NoSilentStep m) where
  -- the store that Read leaves is good, and its model is the text's
  abbrev good_of_read : Good store
  good_of_read = record { text = text; model = m; reads = states→read_text s; stored = (read_holds reads m s).stored }

  module _ {distances table run word out distances' table' run' word' out' : List ℕ} {page : Outcome} where
    -- demand 3, from the two calls
    form_tells_of_read : (form : Form)
        → FormPromise form store distances table run word out page distances' table' run' word' out'
        → (n : ℕ) → page ≡ answers (n ∷ []) → FormTells form m (take n out') word'
    form_tells_of_read form pages n e = form-tells form s.well_formed det still n e (printed pages n e good_of_read)

    -- on the page
    pub page_tells_of_read : PagePromise store distances table run word out page distances' table' run' word' out'
        → (n : ℕ) → page ≡ answers (n ∷ []) → PageTells m (take n out') word'
    page_tells_of_read = form_tells_of_read Page

    -- on the roll
    pub roll_tells_of_read : RollPromise store distances table run word out page distances' table' run' word' out'
        → (n : ℕ) → page ≡ answers (n ∷ []) → RollTells m (take n out') word'
    roll_tells_of_read = form_tells_of_read Roll
