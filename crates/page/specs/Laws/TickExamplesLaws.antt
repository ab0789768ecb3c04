-- The pages of the two models with ticks, by evaluation and by the fact on them.
-- Document 02, (vii). Assumes nothing.
use Rattle.std.specs.Prelude.{[], ◌∷◌, ◌≡◌, refl}
use Rattle.std.proofs.Common.{subst}
use Rattle.lts.specs.Tests.{all, any}
use Rattle.lts.specs.Game.{alike?, rank_below}
use Rattle.lts.specs.Decided.{answered?, answers?, within?}
use Rattle.lts.specs.WeakTests.{silent_move?, low_move?, weak_answers?}
use Rattle.text.specs.Numbers.{digits, digits_up_to}
use Rattle.model.specs.Inner.StepTest.{step?, start?}
use Rattle.model.specs.Laws.Store.SystemLaws.{head_start}
use Rattle.verdicts.specs.declared.judging.Verdict.TheVariants.{Passed}
use Rattle.tell.specs.Bench.{refused_at}
use Rattle.tell.specs.TickModels.{ticks_before_scan, ticks_before_scan_text, tick_depth_one, tick_depth_one_text}
use Rattle.tell.specs.Laws.TicksLaws.{ticks-fact}
use Rattle.columns.specs.StateRows.{distance_text}
use Rattle.lines.specs.PageLines.{no_word_line, line_text, page_bytes}
use Rattle.lines.specs.declared.lines.Form.TheVariants.{Page}
use Rattle.lines.specs.Roll.{form_bytes}
use Rattle.page.specs.Examples.{PrintsBytes}
use Rattle.page.specs.TickExamples.{before_scan_lines, before_scan_page, depth_one_lines, depth_one_page}
use Rattle.page.specs.TickExamples.{TickPagesPrinted}
use Rattle.page.specs.Inner.StateLinesTest.{least_passing, state_lines_of}
use Rattle.page.specs.Laws.ExamplesLaws.{page_with, prints_passed, prints_silent}

-- ---- what evaluation finds

before-scan_lines : page_with ticks_before_scan (Passed 1) [] ≡ before_scan_lines
unfolding state_lines_of least_passing step? start? rank_below alike? weak_answers? low_move? silent_move? answers?
    answered?
    within? all any before_scan_lines
before-scan_lines = refl

depth_one_lines_lem : page_with tick_depth_one (refused_at 0 1) (no_word_line ∷ []) ≡ depth_one_lines
unfolding state_lines_of least_passing step? start? rank_below alike? weak_answers? low_move? silent_move? answers?
    answered?
    within? all any depth_one_lines
depth_one_lines_lem = refl

before-scan_bytes : page_bytes before_scan_lines ≡ before_scan_page
unfolding page_bytes line_text distance_text digits digits_up_to before_scan_lines before_scan_page
before-scan_bytes = refl

depth_one_bytes : page_bytes depth_one_lines ≡ depth_one_page
unfolding page_bytes line_text distance_text digits digits_up_to depth_one_lines depth_one_page
depth_one_bytes = refl

-- ---- and so the promise says

pub tick_pages_printed : TickPagesPrinted
unfolding form_bytes
tick_pages_printed = record {
  before_scan = subst (PrintsBytes Page ticks_before_scan_text) before-scan_bytes
      (prints_passed Page ticks-fact.before_scan_passed before-scan_lines);
  depth_one = subst (PrintsBytes Page tick_depth_one_text) depth_one_bytes
      (prints_silent Page ticks-fact.depth_one_refused (head_start tick_depth_one) 1
      ticks-fact.depth_one-silent.holds depth_one_lines_lem);
}
