-- The starred bench models as one joint fact on the definitions, from their texts on; and one of them that wakes in a
-- second state (document 02, (iii)); and two models with ticks (document 02, (vii)).
-- Document 01, "Bench models": "Those marked * are shown of the definitions as one joint fact". Where a model is
-- deterministic that is part of it: "24 (Word): deterministic and passed". So is that it has no
-- silent step that can be reached, of which Word tells 36 (document 02, (vii)).
use Rattle.std.specs.Prelude.{List, [], ◌∷◌, ◌≡◌, ℕ}
use Rattle.lts.specs.Noninterference.{thin, SameLow}
use Rattle.text.specs.Faults.{Outcome, refuses}
use Rattle.text.specs.Model.{Model}
use Rattle.model.specs.Reading.{done, read_text}
use Rattle.model.specs.System.{source, target, ReachableIn, DeterministicModel, NoSilentStep, view}
use Rattle.verdicts.specs.declared.judging.Verdict.{Verdict}
use Rattle.verdicts.specs.declared.judging.Verdict.TheVariants.{Passed, Refused}
use Rattle.verdicts.specs.Verdicts.{Judged}
use Rattle.letters.specs.declared.word.End.TheVariants.{Source, Target}
use Rattle.letters.specs.Words.{FirstBranch, FirstSilent, WordOf}
use Rattle.letters.specs.WordDone.{WordDone}
use Rattle.tell.specs.BenchModels.{scan, print, close}
use Rattle.tell.specs.BenchModels.{worked, worked_text, scanned_once, scanned_once_text, released, released_text}
use Rattle.tell.specs.BenchModels.{close_low, close_low_text, branching, branching_text, no_steps, no_steps_text}
use Rattle.tell.specs.BenchModels.{print_loop, print_loop_text, unreached_print, unreached_print_text}
use Rattle.tell.specs.BenchModels.{woken_print, woken_print_text}
use Rattle.tell.specs.TickModels.{ticks_before_scan, ticks_before_scan_text, tick_depth_one, tick_depth_one_text}

-- The text reads to the model, whose verdict is v.
pub record ReadsAndJudged (text : List ℕ) (m : Model) (v : Verdict) : Type 0 where
  pub reads : read_text text ≡ done m
  pub judged : Judged m v

-- Refused at a step, with a depth.
abbrev pub refused_at : ℕ → ℕ → Verdict
refused_at j depth = Refused (record { 0 = j }) depth

pub record JointFact : Type 0 where
  -- "The model above: refused, step 1, depth 2."; its page: "W,scan", "W,scan", "B,source"
  pub worked_refused : ReadsAndJudged worked_text worked (refused_at 1 2)
  pub worked_deterministic : DeterministicModel worked
  pub worked_still : NoSilentStep worked
  pub worked_word : WordOf worked 1 (scan ∷ scan ∷ []) Source
  -- "passed, rank 1"
  pub scanned_once_passed : ReadsAndJudged scanned_once_text scanned_once (Passed 1)
  pub scanned_once_deterministic : DeterministicModel scanned_once
  pub scanned_once_still : NoSilentStep scanned_once
  -- "passed"
  pub released_passed : ReadsAndJudged released_text released (Passed 1)
  pub released_deterministic : DeterministicModel released
  pub released_still : NoSilentStep released
  -- "The same with close low: refused, step 0, depth 1."; document 01 names no word here
  pub close-low-refused : ReadsAndJudged close_low_text close_low (refused_at 0 1)
  pub close_low_deterministic : DeterministicModel close_low
  pub close_low_still : NoSilentStep close_low
  pub close_low_word : WordOf close_low 0 (close ∷ []) Target
  -- "refused, step 2, depth 2, though both ends allow the same words; Word gives 23 at 1."
  pub branching-refused : ReadsAndJudged branching_text branching (refused_at 2 2)
  pub branching_same-words : SameLow (view branching) (source branching 2) (target branching 2)
  pub branching_not_deterministic : ¬ (DeterministicModel branching)
  pub branching_first : FirstBranch branching 1
  -- "One state, no steps: passed, rank 0." "One state, 0 print 0: passed, rank 0."
  pub no_steps_passed : ReadsAndJudged no_steps_text no_steps (Passed 0)
  pub no_steps_deterministic : DeterministicModel no_steps
  pub no_steps_still : NoSilentStep no_steps
  pub print_loop_passed : ReadsAndJudged print_loop_text print_loop (Passed 0)
  pub print_loop_deterministic : DeterministicModel print_loop
  pub print_loop_still : NoSilentStep print_loop
  -- "passed, rank 1, the print step being unreachable"
  pub unreached_print_passed : ReadsAndJudged unreached_print_text unreached_print (Passed 1)
  pub unreached_print_deterministic : DeterministicModel unreached_print
  pub unreached_print_still : NoSilentStep unreached_print
  pub print-unreachable : ¬ (ReachableIn unreached_print (source unreached_print 0))
  -- "print scan close print scan thins to print scan close scan. The empty sequence thins to itself."
  pub thinned : thin (view worked).levels (print ∷ scan ∷ close ∷ print ∷ scan ∷ []) ≡ print ∷ scan ∷ close ∷ scan ∷ []
  pub thinned_empty : thin (view worked).levels [] ≡ []

-- A leak from the second start only: the model whose print step is unreachable passes, and waking in that step's source
-- too it is refused. Document 02, (iii): "Reachable is from any start".
pub record SecondStart : Type 0 where
  pub first_passed : ReadsAndJudged unreached_print_text unreached_print (Passed 1)
  pub woken_refused : ReadsAndJudged woken_print_text woken_print (refused_at 0 1)
  pub woken_deterministic : DeterministicModel woken_print
  pub woken_still : NoSilentStep woken_print
  pub woken_word : WordOf woken_print 0 (scan ∷ []) Target

-- Word refuses the model with this number at this place, whatever stands in its list.
pub record WordRefuses (m : Model) (number place : ℕ) : Type 0 where
  pub answer : {outcome : Outcome} {word word' : List ℕ} → WordDone m outcome word word'
      → outcome ≡ refuses number place
  pub kept : {outcome : Outcome} {word word' : List ℕ} → WordDone m outcome word word' → word' ≡ word

-- Document 02, (vii): "Both opening and answer are such moves, and a silent move answers a silent move"; "Word refuses
-- a model that has one as 36, at the first such step, after 23 and before 24".
pub record TicksFact : Type 0 where
  -- a tick before the scan is not seen: passed, and Word has nothing to show of it
  pub before_scan_passed : ReadsAndJudged ticks_before_scan_text ticks_before_scan (Passed 1)
  pub before-scan_deterministic : DeterministicModel ticks_before_scan
  pub before-scan-silent : FirstSilent ticks_before_scan 3
  pub before_scan_word : WordRefuses ticks_before_scan 36 3
  -- a scan behind a tick is a low move: refused, with depth 1
  pub depth_one_refused : ReadsAndJudged tick_depth_one_text tick_depth_one (refused_at 0 1)
  pub depth_one_deterministic : DeterministicModel tick_depth_one
  pub depth_one-silent : FirstSilent tick_depth_one 1
  pub depth_one_word : WordRefuses tick_depth_one 36 1
