-- What evaluation finds of the starred bench models and of those with ticks: each text is read, the computed verdict is
-- the one, and words, deterministic models and silent steps pass their tests.
-- Document 01, "Bench models"; document 02, (vii). Assumes nothing.
use Rattle.std.specs.Prelude.{List, [], ◌∷◌, ◌++◌, ◌≡◌, refl, ℕ, ◌≤◌, T, length}
use Rattle.std.proofs.Common.{subst, arith, length-append}
use Rattle.lts.specs.Tests.{all, any}
use Rattle.lts.specs.Game.{alike?, rank_below}
use Rattle.lts.specs.Decided.{answered?, answers?, within?}
use Rattle.text.specs.Limits.{store_length}
use Rattle.text.specs.Bytes.{kind_of}
use Rattle.text.specs.Numbers.{digits_value, number_shape?, number_of, in_bounds?, bounded, number_in}
use Rattle.text.specs.Split.{cons_first, split, same?}
use Rattle.text.specs.Model.{Model, some_high?, last_start, above?, above_last?}
use Rattle.text.specs.Lines.{checked, fields_from, fields_of, cons_number, numbers_of, head_bounds, start_bounds}
use Rattle.text.specs.Lines.{step_bounds}
use Rattle.text.specs.Lines.{row_letter, row_count, row_bounds, value_or0, states_of, row_from, row_of, head_from}
use Rattle.text.specs.Lines.{head_of}
use Rattle.text.specs.Lines.{level_of, all_of, name_byte?, name?, name_from, action_fields, used?, action_from}
use Rattle.text.specs.Lines.{action_of}
use Rattle.text.specs.Lines.{above_starts?, start_from, start_of, step_from, step_of}
use Rattle.model.specs.Reading.{done, on_line, or_fault, read_nothing, read_end, read_steps, start_line?, start_lines}
use Rattle.model.specs.Reading.{read_starts, behind_actions, read_actions, read_model, read_text}
use Rattle.model.proofs.Laws.Text.ReadingLaws.{read_text_well_formed}
use Rattle.model.specs.Store.{store_of}
use Rattle.model.specs.Laws.Store.StoreLaws.{store_of_length}
use Rattle.model.proofs.Laws.Store.StoredModelLaws.{holds_store_of}
use Rattle.verdicts.specs.declared.judging.Verdict.{Verdict}
use Rattle.verdicts.specs.declared.judging.Verdict.TheVariants.{Passed}
use Rattle.model.specs.Inner.Stored.{Stored}
use Rattle.model.proofs.Laws.System.GoodStoredLaws.{holds→Stored}
use Rattle.model.specs.Inner.StepTest.{step?, start?}
use Rattle.verdicts.specs.Verdicts.{Judged}
use Rattle.verdicts.specs.Inner.VerdictTest.{greatest_below, least_below, verdict_of}
use Rattle.verdicts.proofs.Laws.VerdictTestLaws.{verdict_of_judged}
use Rattle.tell.specs.BenchModels.{worked, worked_text, scanned_once, scanned_once_text, released, released_text}
use Rattle.tell.specs.BenchModels.{scan, close}
use Rattle.tell.specs.BenchModels.{close_low, close_low_text, branching, branching_text, no_steps, no_steps_text}
use Rattle.tell.specs.BenchModels.{print_loop, print_loop_text, unreached_print, unreached_print_text}
use Rattle.tell.specs.BenchModels.{woken_print, woken_print_text}
use Rattle.tell.specs.Bench.{ReadsAndJudged, refused_at}
use Rattle.letters.specs.declared.word.End.TheVariants.{Source, Target}
use Rattle.tell.specs.Inner.WordTest.{unbranched?, still?, first_silent?, low?, allows?, not_after?, each_word?}
use Rattle.tell.specs.Inner.WordTest.{word_of?}
use Rattle.lts.specs.WeakTests.{silent_move?, low_move?, weak_answers?}
use Rattle.tell.specs.TickModels.{ticks_before_scan, ticks_before_scan_text, tick_depth_one, tick_depth_one_text}

pub record Read : Type 0 where
  pub worked : read_text worked_text ≡ done worked
  pub scanned_once_is : read_text scanned_once_text ≡ done scanned_once
  pub released : read_text released_text ≡ done released
  pub close_low_is : read_text close_low_text ≡ done close_low
  pub branching : read_text branching_text ≡ done branching
  pub no_steps_is : read_text no_steps_text ≡ done no_steps
  pub print_loop_is : read_text print_loop_text ≡ done print_loop
  pub unreached_print_is : read_text unreached_print_text ≡ done unreached_print
  pub woken_print_is : read_text woken_print_text ≡ done woken_print
  pub before_scan : read_text ticks_before_scan_text ≡ done ticks_before_scan
  pub depth_one : read_text tick_depth_one_text ≡ done tick_depth_one

pub read : Read
unfolding read_text read_model read_actions behind_actions some_high? start_lines start_line? read_starts read_steps
    read_end
    read_nothing or_fault on_line step_of step_from start_of start_from above_starts? last_start action_of action_from
    used?
    action_fields name_from name? name_byte? all_of level_of head_of head_from row_of row_from states_of value_or0
    row_bounds
    row_count row_letter step_bounds start_bounds head_bounds numbers_of cons_number fields_of fields_from checked
    above?
    above_last? same? split cons_first number_in bounded in_bounds? number_of number_shape? digits_value kind_of
read = record {
  worked = refl;
  scanned_once_is = refl;
  released = refl;
  close_low_is = refl;
  branching = refl;
  no_steps_is = refl;
  print_loop_is = refl;
  unreached_print_is = refl;
  woken_print_is = refl;
  before_scan = refl;
  depth_one = refl;
}

pub record Computed : Type 0 where
  pub worked : verdict_of worked ≡ refused_at 1 2
  pub scanned_once_is : verdict_of scanned_once ≡ Passed 1
  pub released : verdict_of released ≡ Passed 1
  pub close_low_is : verdict_of close_low ≡ refused_at 0 1
  pub branching : verdict_of branching ≡ refused_at 2 2
  pub no_steps_is : verdict_of no_steps ≡ Passed 0
  pub print_loop_is : verdict_of print_loop ≡ Passed 0
  pub unreached_print_is : verdict_of unreached_print ≡ Passed 1
  pub woken_print_is : verdict_of woken_print ≡ refused_at 0 1
  pub before_scan : verdict_of ticks_before_scan ≡ Passed 1
  pub depth_one : verdict_of tick_depth_one ≡ refused_at 0 1

pub computed : Computed
unfolding greatest_below least_below step? start? rank_below alike? weak_answers? low_move? silent_move? answers?
    answered?
    within? all any
computed = record {
  worked = refl;
  scanned_once_is = refl;
  released = refl;
  close_low_is = refl;
  branching = refl;
  no_steps_is = refl;
  print_loop_is = refl;
  unreached_print_is = refl;
  woken_print_is = refl;
  before_scan = refl;
  depth_one = refl;
}

pub record Words : Type 0 where
  pub worked : T (word_of? worked 1 (scan ∷ scan ∷ []) Source)
  pub close_low_is : T (word_of? close_low 0 (close ∷ []) Target)
  pub woken_print_is : T (word_of? woken_print 0 (scan ∷ []) Target)

pub words : Words
unfolding word_of? each_word? not_after? allows? low? step? all any
words = record { worked = tt; close_low_is = tt; woken_print_is = tt }

pub record Unbranched : Type 0 where
  pub worked : T (unbranched? worked)
  pub scanned_once_is : T (unbranched? scanned_once)
  pub released : T (unbranched? released)
  pub close_low_is : T (unbranched? close_low)
  pub no_steps_is : T (unbranched? no_steps)
  pub print_loop_is : T (unbranched? print_loop)
  pub unreached_print_is : T (unbranched? unreached_print)
  pub woken_print_is : T (unbranched? woken_print)
  pub before_scan : T (unbranched? ticks_before_scan)
  pub depth_one : T (unbranched? tick_depth_one)

pub unbranched : Unbranched
unfolding unbranched? all
unbranched = record {
  worked = tt;
  scanned_once_is = tt;
  released = tt;
  close_low_is = tt;
  no_steps_is = tt;
  print_loop_is = tt;
  unreached_print_is = tt;
  woken_print_is = tt;
  before_scan = tt;
  depth_one = tt;
}

pub record NoneSilent : Type 0 where
  pub worked : T (still? worked (length worked.steps))
  pub scanned_once_is : T (still? scanned_once (length scanned_once.steps))
  pub released : T (still? released (length released.steps))
  pub close_low_is : T (still? close_low (length close_low.steps))
  pub no_steps_is : T (still? no_steps (length no_steps.steps))
  pub print_loop_is : T (still? print_loop (length print_loop.steps))
  pub unreached_print_is : T (still? unreached_print (length unreached_print.steps))
  pub woken_print_is : T (still? woken_print (length woken_print.steps))

pub none-silent : NoneSilent
unfolding still? all
none-silent = record {
  worked = tt;
  scanned_once_is = tt;
  released = tt;
  close_low_is = tt;
  no_steps_is = tt;
  print_loop_is = tt;
  unreached_print_is = tt;
  woken_print_is = tt;
}

pub record FirstsSilent : Type 0 where
  pub before_scan : T (first_silent? ticks_before_scan 3)
  pub depth_one : T (first_silent? tick_depth_one 1)

pub firsts-silent : FirstsSilent
unfolding first_silent? still? step? start? within? all any
firsts-silent = record { before_scan = tt; depth_one = tt }

-- ---- and so the definitions say

module _ (text : List ℕ) (m : Model) (e : read_text text ≡ done m) where
  pub stored_of_read : Stored (store_of m ++ []) m
  stored_of_read =
      let w = read_text_well_formed text m e in
      let l : store_length ≤ length (store_of m ++ []) =
      omega (arith, store_of_length m w, length-append (store_of m) []) in
      holds→Stored (store_of m ++ []) m l (holds_store_of m [] w)

  pub judged_of_computed : (v : Verdict) → verdict_of m ≡ v → ReadsAndJudged text m v
  judged_of_computed v f = record { reads = e; judged = subst (Judged m) f (verdict_of_judged stored_of_read) }
