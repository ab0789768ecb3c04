-- The pages of the starred bench models, and rolls, by evaluation: the joint fact has their verdicts and words, and
-- which are deterministic; the `C` lines are computed; and a model has one page in each form.
-- Document 01, "The page" and "Bench models"; document 02, (ii). Assumes nothing.
use Rattle.std.specs.Prelude.{List, [], ◌∷◌, ◌++◌, map, ◌≡◌, refl, ℕ, length, take, drop}
use Rattle.std.proofs.Common.{sym, ap, subst, ◌∙◌, arith}
use Rattle.std.proofs.Math.Seq.{take-append_seam, drop-append_seam}
use Rattle.lts.specs.Tests.{all, any}
use Rattle.lts.specs.Game.{alike?, rank_below}
use Rattle.lts.specs.Decided.{answered?, answers?, within?}
use Rattle.lts.specs.WeakTests.{silent_move?, low_move?, weak_answers?}
use Rattle.text.specs.Faults.{answers}
use Rattle.text.specs.Model.{Model}
use Rattle.model.proofs.Laws.Text.ReadingLaws.{read_text_well_formed}
use Rattle.model.specs.System.{SilentStep, NoSilentStep, DeterministicModel, source, view}
use Rattle.model.specs.Inner.StepTest.{step?, start?}
use Rattle.model.specs.Laws.Store.SystemLaws.{head_start, extra_start}
use Rattle.model.proofs.Laws.System.GoodStoredLaws.{well_formed_stored}
use Rattle.distances.specs.Runs.{at_start}
use Rattle.verdicts.specs.declared.judging.Verdict.{Verdict}
use Rattle.verdicts.specs.declared.judging.Verdict.TheVariants.{Passed}
use Rattle.letters.specs.declared.word.End.{End}
use Rattle.letters.specs.declared.word.End.TheVariants.{Source, Target}
use Rattle.letters.specs.Words.{WordOf}
use Rattle.tell.specs.Bench.{ReadsAndJudged, refused_at}
use Rattle.tell.specs.BenchModels.{worked, worked_text, scanned_once, released, close_low, branching, no_steps}
use Rattle.tell.specs.BenchModels.{print_loop}
use Rattle.tell.specs.BenchModels.{unreached_print, unreached_print_text, woken_print}
use Rattle.tell.specs.Laws.BenchLaws.{joint-fact, second-start}
use Rattle.columns.specs.LowNames.{passing}
use Rattle.columns.specs.Rows.{flush_left, flush_right, rows_bytes, fill}
use Rattle.columns.specs.StateRows.{distance_text, state_columns}
use Rattle.text.specs.Bytes.{kind_of}
use Rattle.text.specs.Numbers.{digits, digits_up_to}
use Rattle.text.specs.Split.{cons_first, split}
use Rattle.lines.specs.Examples.{worked_lines, worked_bytes, worked_roll_lem}
use Rattle.page.specs.Laws.PagePromiseLaws.{page_printed_unique}
use Rattle.lines.specs.Page.{name_line, LeakShown, by_word, by_branch, by_silent, AfterStates}
use Rattle.lines.specs.PageLines.{PageLine, verdict_line, allows_line, no_word_line, last_line, line_text}
use Rattle.lines.specs.declared.lines.Form.{Form}
use Rattle.lines.specs.declared.lines.Form.TheVariants.{Page, Roll}
use Rattle.lines.specs.Roll.{roll_rows, roll_bytes, form_bytes}
use Rattle.page.specs.RollClaim.{lettered?, others, cons_unless_padding, unpadded}
use Rattle.page.specs.PagePromise.{PagePrinted}
use Rattle.page.specs.Examples.{PrintsBytes, PagesPrinted, RollsPrinted, scanned_once_lines, released_lines}
use Rattle.page.specs.Examples.{close_low_lines, branching_lines, one_state_lines, unreached_print_lines}
use Rattle.page.specs.Examples.{woken_print_lines, unreached_print_rows}
use Rattle.page.specs.Inner.StateLinesTest.{least_passing, state_lines_of}
use Rattle.page.specs.Laws.StateLinesTestLaws.{state_lines_of_lines}

-- ---- what evaluation finds

-- The page of a verdict, with these lines after those of the states.
abbrev pub page_with : Model → Verdict → List PageLine → List PageLine
page_with m v after = (verdict_line v ∷ []) ++ state_lines_of m m.head.states ++ after ++ (last_line ∷ [])

-- The lines of a word.
abbrev word_lines : Model → List ℕ → End → List PageLine
word_lines m w end = map (name_line m) w ++ (allows_line end ∷ [])

record Computed : Type 0 where
  worked : page_with worked (refused_at 1 2) (word_lines worked (0 ∷ 0 ∷ []) Source) ≡ worked_lines
  scanned_once_is : page_with scanned_once (Passed 1) [] ≡ scanned_once_lines
  released : page_with released (Passed 1) [] ≡ released_lines
  close_low_is : page_with close_low (refused_at 0 1) (word_lines close_low (2 ∷ []) Target) ≡ close_low_lines
  branching : page_with branching (refused_at 2 2) (no_word_line ∷ []) ≡ branching_lines
  no_steps_is : page_with no_steps (Passed 0) [] ≡ one_state_lines
  print_loop_is : page_with print_loop (Passed 0) [] ≡ one_state_lines
  unreached_print_is : page_with unreached_print (Passed 1) [] ≡ unreached_print_lines
  woken_print_is : page_with woken_print (refused_at 0 1) (word_lines woken_print (0 ∷ []) Target) ≡ woken_print_lines

computed : Computed
unfolding state_lines_of least_passing step? start? rank_below alike? weak_answers? low_move? silent_move? answers?
    answered?
    within? all any worked_lines scanned_once_lines released_lines close_low_lines branching_lines one_state_lines
    unreached_print_lines woken_print_lines
computed = record {
  worked = refl;
  scanned_once_is = refl;
  released = refl;
  close_low_is = refl;
  branching = refl;
  no_steps_is = refl;
  print_loop_is = refl;
  unreached_print_is = refl;
  woken_print_is = refl;
}

-- ---- and so the promise says

-- No page of these fills the run; `word'` is how it leaves the word.
module _ (form : Form) {text : List ℕ} {m : Model} {v : Verdict} (x : ReadsAndJudged text m v) (after : List PageLine)
    {lines : List PageLine} (e : page_with m v after ≡ lines) (word' : List ℕ → List ℕ)
    (after_states : (run word : List ℕ) → AfterStates m v run word run (word' word) after) where
  abbrev bytes : List ℕ
  bytes = form_bytes form m lines

  page_printed_lines : (run word out : List ℕ) → PagePrinted form m (answers (length bytes ∷ [])) run word out run
      (word' word) (bytes ++ drop (length bytes) out)
  page_printed_lines run word out = record {
    lines = lines;
    page = record {
      verdict = v;
      judged = x.judged;
      states = state_lines_of m m.head.states;
      state_lines = state_lines_of_lines (well_formed_stored (read_text_well_formed text m x.reads)) m.head.states
          (omega arith);
      after = after;
      after_states = after_states run word;
      lines_are = sym e;
    };
    outcome_is = refl;
    list = refl;
  }

  prints_lines : PrintsBytes form text bytes
  prints_lines = record {
    by_promise = λ {run = run} {word = word} {out = out} long p.
        let same = page_printed_unique (p.read long m x.reads).printed (page_printed_lines run word out) in
        record {
          outcome_is = same.0;
          printed = ap (take (length bytes)) same.3 ∙ take-append_seam bytes (drop (length bytes) out);
          kept = ap (drop (length bytes)) same.3 ∙ drop-append_seam bytes (drop (length bytes) out);
        };
  }

module _ (form : Form) {text : List ℕ} {m : Model} where
  pub prints_passed : {top : ℕ} {lines : List PageLine} → ReadsAndJudged text m (Passed top)
      → page_with m (Passed top) [] ≡ lines → PrintsBytes form text (form_bytes form m lines)
  prints_passed x e =
      prints_lines form x [] e (λ word. word)
      (λ run word. record { run_kept = refl; word_kept = refl; lines_are = refl })

  -- the step leaves a start, so that the run to its source is empty
  module _ {j depth : ℕ} (x : ReadsAndJudged text m (refused_at j depth)) (s : (view m).Start (source m j)) where
    prints_word : {w : List ℕ} {end : End} {lines : List PageLine} → DeterministicModel m → NoSilentStep m
        → WordOf m j w end → length w ≡ depth → page_with m (refused_at j depth) (word_lines m w end) ≡ lines
        → PrintsBytes form text (form_bytes form m lines)
    prints_word {w} {end} d n y l e =
        prints_lines form x (word_lines m w end) e (λ word. w ++ drop (length w) word) (λ run word. record {
          steps = [];
          run_to = at_start s;
          run_list = refl;
          rest = word_lines m w end;
          shown = by_word d n y l refl;
          lines_are = refl;
        })

    prints_no_word : {lines : List PageLine} → ((word : List ℕ) → LeakShown m j depth word word (no_word_line ∷ []))
        → page_with m (refused_at j depth) (no_word_line ∷ []) ≡ lines → PrintsBytes form text (form_bytes form m lines)
    prints_no_word shown e = prints_lines form x (no_word_line ∷ []) e (λ word. word) (λ run word. record {
      steps = [];
      run_to = at_start s;
      run_list = refl;
      rest = no_word_line ∷ [];
      shown = shown word;
      lines_are = refl;
    })

    prints_branch : {lines : List PageLine} → ¬ (DeterministicModel m)
        → page_with m (refused_at j depth) (no_word_line ∷ []) ≡ lines → PrintsBytes form text (form_bytes form m lines)
    prints_branch n = prints_no_word (λ word. by_branch n refl)

    pub prints_silent : {lines : List PageLine} (i : ℕ) → SilentStep m i
        → page_with m (refused_at j depth) (no_word_line ∷ []) ≡ lines → PrintsBytes form text (form_bytes form m lines)
    prints_silent i silent = prints_no_word (λ word. by_silent i silent refl)

pub pages_printed : PagesPrinted
unfolding form_bytes
pages_printed = record {
  worked = subst (PrintsBytes Page worked_text) worked_bytes (prints_word Page joint-fact.worked_refused
      (head_start worked) joint-fact.worked_deterministic joint-fact.worked_still joint-fact.worked_word refl
      computed.worked);
  scanned_once_is = prints_passed Page joint-fact.scanned_once_passed computed.scanned_once_is;
  released = prints_passed Page joint-fact.released_passed computed.released;
  close_low_is = prints_word Page joint-fact.close-low-refused (head_start close_low)
      joint-fact.close_low_deterministic joint-fact.close_low_still joint-fact.close_low_word refl
      computed.close_low_is;
  branching = prints_branch Page joint-fact.branching-refused (head_start branching)
      joint-fact.branching_not_deterministic computed.branching;
  no_steps_is = prints_passed Page joint-fact.no_steps_passed computed.no_steps_is;
  print_loop_is = prints_passed Page joint-fact.print_loop_passed computed.print_loop_is;
  unreached_print_is = prints_passed Page joint-fact.unreached_print_passed computed.unreached_print_is;
  woken_print_is = prints_word Page second-start.woken_refused (extra_start woken_print 0 (omega arith))
      second-start.woken_deterministic second-start.woken_still second-start.woken_word refl
      computed.woken_print_is;
}

-- ---- on the roll

unreached-print_rows : form_bytes Roll unreached_print unreached_print_lines ≡ rows_bytes unreached_print_rows
unfolding form_bytes roll_bytes roll_rows rows_bytes flush_left flush_right state_columns fill passing any line_text
    distance_text digits digits_up_to unreached_print_lines unreached_print_rows
unreached-print_rows = refl

pub rolls_printed : RollsPrinted
unfolding split cons_first kind_of others lettered? unpadded cons_unless_padding rows_bytes flush_left
    unreached_print_rows
rolls_printed = record {
  worked = subst (PrintsBytes Roll worked_text) worked_roll_lem (prints_word Roll joint-fact.worked_refused
      (head_start worked) joint-fact.worked_deterministic joint-fact.worked_still joint-fact.worked_word refl
      computed.worked);
  unreached_print_is = subst (PrintsBytes Roll unreached_print_text) unreached-print_rows (prints_passed Roll
      joint-fact.unreached_print_passed computed.unreached_print_is);
  unreached_print_others = refl;
}
