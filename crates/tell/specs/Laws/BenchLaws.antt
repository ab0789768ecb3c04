-- The joint fact on the starred bench models, by what evaluation finds of them.
-- Document 01, "Bench models". Assumes nothing.
use Rattle.std.specs.Prelude.{Bool, ◌&&◌, ◌||◌, [], ◌∷◌, refl, ℕ, ◌<◌, T, eqb}
use Rattle.std.proofs.Common.{arith}
use Rattle.lts.specs.Tests.{all, any}
use Rattle.lts.specs.Noninterference.{released?, thin, SameLow}
use Rattle.lts.proofs.LowLaws.{simulation_allows}
use Rattle.lts.specs.Decided.{Decided, answered?, simulation?, within?}
use Rattle.lts.proofs.DecidedLaws.{simulation?→Answered}
use Rattle.lts.specs.Checked.{low_step?}
use Rattle.lts.proofs.CheckedLaws.{decided_low}
use Rattle.model.specs.Laws.Store.SystemLaws.{head_start}
use Rattle.lts.specs.Run.{begin}
use Rattle.model.specs.System.{ReachableIn, DeterministicModel, view}
use Rattle.verdicts.specs.declared.judging.Verdict.TheVariants.{Passed}
use Rattle.model.specs.Inner.StepTest.{tests, step?, start?}
use Rattle.model.specs.Laws.System.StepTestLaws.{decided_view}
use Rattle.verdicts.proofs.Laws.VerdictTestLaws.{Reachable→reachable?}
use Rattle.tell.specs.BenchModels.{worked, worked_text, scanned_once, scanned_once_text, released, released_text}
use Rattle.tell.specs.BenchModels.{scan, close}
use Rattle.tell.specs.BenchModels.{close_low, close_low_text, branching, branching_text, no_steps, no_steps_text}
use Rattle.tell.specs.BenchModels.{print_loop, print_loop_text, unreached_print, unreached_print_text}
use Rattle.tell.specs.BenchModels.{woken_print, woken_print_text}
use Rattle.tell.specs.Bench.{refused_at, JointFact, SecondStart}
use Rattle.letters.specs.declared.word.End.TheVariants.{Source, Target}
use Rattle.letters.specs.Words.{FirstBranch}
use Rattle.tell.specs.Laws.WordTestLaws.{unbranched?→DeterministicModel, still?→NoSilentStep, word_of?→WordOf}
use Rattle.lts.specs.Weak.{LowStep}
use Rattle.tell.specs.Laws.BenchTestsLaws.{read, computed, words, unbranched, none-silent, stored_of_read}
use Rattle.tell.specs.Laws.BenchTestsLaws.{judged_of_computed}

-- Each end of the print step follows the other: where 0 stops in 3, 1 goes on to 2.
branching_same-words : SameLow (view branching) 0 1
unfolding simulation? answered? all any step?
branching_same-words w l = (
  simulation_allows (view branching) (λ x y. (x < 4) × (y < 4) × T (there x y))
      (simulation?→Answered (LowStep (view branching)) 4 3 moved? decides there tt) w l 0 1
      (omega arith, omega arith, tt),
  simulation_allows (view branching) (λ x y. (x < 4) × (y < 4) × T (back x y))
      (simulation?→Answered (LowStep (view branching)) 4 3 moved? decides back tt) w l 1 0
      (omega arith, omega arith, tt),
)
  where
    moved? : ℕ → ℕ → ℕ → Bool
    moved? = low_step? (view branching) (tests branching)

    decides : Decided (LowStep (view branching)) 4 3 moved?
    decides = decided_low (view branching) (tests branching)
        (decided_view (stored_of_read branching_text branching read.branching))

    there : ℕ → ℕ → Bool
    there x y = (eqb x 0 && eqb y 1) || ((eqb x 2 && eqb y 2) || eqb x 3)

    back : ℕ → ℕ → Bool
    back x y = (eqb x 1 && eqb y 0) || ((eqb x 2 && eqb y 2) || eqb x 3)

-- Steps 0 and 1 leave the start with scan.
branching_not_deterministic : ¬ (DeterministicModel branching)
branching_not_deterministic det =
    let e = det.one_step 0 1 (omega arith) (omega arith) (begin (head_start branching)) refl refl in
    omega arith

branching_first : FirstBranch branching 1
branching_first = record {
  holds = record {
    before = 0;
    next_is = refl;
    number_lt = omega arith;
    reachable = begin (head_start branching);
    same_source = refl;
    same_action = refl;
  };
  first = λ i b. omega (arith, b.next_is);
}

print-unreachable : ¬ (ReachableIn unreached_print 1)
unfolding within? all any step? start?
print-unreachable r =
    Reachable→reachable? (stored_of_read unreached_print_text unreached_print read.unreached_print_is) 1 r

pub joint-fact : JointFact
unfolding thin released?
joint-fact = record {
  worked_refused = judged_of_computed worked_text worked read.worked (refused_at 1 2) computed.worked;
  worked_deterministic = unbranched?→DeterministicModel worked unbranched.worked;
  worked_still = still?→NoSilentStep worked none-silent.worked;
  worked_word = word_of?→WordOf (stored_of_read worked_text worked read.worked) 1 (scan ∷ scan ∷ []) Source
      words.worked;
  scanned_once_passed =
      judged_of_computed scanned_once_text scanned_once read.scanned_once_is (Passed 1) computed.scanned_once_is;
  scanned_once_deterministic = unbranched?→DeterministicModel scanned_once unbranched.scanned_once_is;
  scanned_once_still = still?→NoSilentStep scanned_once none-silent.scanned_once_is;
  released_passed = judged_of_computed released_text released read.released (Passed 1) computed.released;
  released_deterministic = unbranched?→DeterministicModel released unbranched.released;
  released_still = still?→NoSilentStep released none-silent.released;
  close-low-refused = judged_of_computed close_low_text close_low read.close_low_is (refused_at 0 1)
      computed.close_low_is;
  close_low_deterministic = unbranched?→DeterministicModel close_low unbranched.close_low_is;
  close_low_still = still?→NoSilentStep close_low none-silent.close_low_is;
  close_low_word = word_of?→WordOf (stored_of_read close_low_text close_low read.close_low_is) 0 (close ∷ []) Target
      words.close_low_is;
  branching-refused =
      judged_of_computed branching_text branching read.branching (refused_at 2 2) computed.branching;
  branching_same-words = branching_same-words;
  branching_not_deterministic = branching_not_deterministic;
  branching_first = branching_first;
  no_steps_passed = judged_of_computed no_steps_text no_steps read.no_steps_is (Passed 0) computed.no_steps_is;
  no_steps_deterministic = unbranched?→DeterministicModel no_steps unbranched.no_steps_is;
  no_steps_still = still?→NoSilentStep no_steps none-silent.no_steps_is;
  print_loop_passed = judged_of_computed print_loop_text print_loop read.print_loop_is (Passed 0)
      computed.print_loop_is;
  print_loop_deterministic = unbranched?→DeterministicModel print_loop unbranched.print_loop_is;
  print_loop_still = still?→NoSilentStep print_loop none-silent.print_loop_is;
  unreached_print_passed =
      judged_of_computed unreached_print_text unreached_print read.unreached_print_is (Passed 1)
      computed.unreached_print_is;
  unreached_print_deterministic = unbranched?→DeterministicModel unreached_print unbranched.unreached_print_is;
  unreached_print_still = still?→NoSilentStep unreached_print none-silent.unreached_print_is;
  print-unreachable = print-unreachable;
  thinned = refl;
  thinned_empty = refl;
}

pub second-start : SecondStart
second-start = record {
  first_passed = joint-fact.unreached_print_passed;
  woken_refused =
      judged_of_computed woken_print_text woken_print read.woken_print_is (refused_at 0 1) computed.woken_print_is;
  woken_deterministic = unbranched?→DeterministicModel woken_print unbranched.woken_print_is;
  woken_still = still?→NoSilentStep woken_print none-silent.woken_print_is;
  woken_word = word_of?→WordOf (stored_of_read woken_print_text woken_print read.woken_print_is) 0 (scan ∷ []) Target
      words.woken_print_is;
}
