-- The fact on the two models with ticks, by what evaluation finds of them.
-- Document 02, (vii). Assumes nothing.
use Rattle.std.specs.Prelude.{ℕ}
use Rattle.std.proofs.Common.{arith}
use Rattle.text.specs.Model.{Model}
use Rattle.model.specs.System.{DeterministicModel}
use Rattle.verdicts.specs.declared.judging.Verdict.TheVariants.{Passed}
use Rattle.letters.specs.Words.{FirstSilent}
use Rattle.tell.specs.TickModels.{ticks_before_scan, ticks_before_scan_text, tick_depth_one, tick_depth_one_text}
use Rattle.tell.specs.Bench.{refused_at, WordRefuses, TicksFact}
use Rattle.tell.specs.Laws.WordTestLaws.{unbranched?→DeterministicModel, first_silent?→FirstSilent}
use Rattle.tell.specs.Laws.BenchTestsLaws.{read, computed, unbranched, firsts-silent, stored_of_read}
use Rattle.tell.specs.Laws.BenchTestsLaws.{judged_of_computed}

word_refuses : {m : Model} {j : ℕ} → DeterministicModel m → FirstSilent m j → WordRefuses m 36 j
word_refuses {j = j} det first = record { answer = λ w. (w.silent det j first).0; kept = λ w. (w.silent det j first).1 }

before-scan_deterministic : DeterministicModel ticks_before_scan
before-scan_deterministic = unbranched?→DeterministicModel ticks_before_scan unbranched.before_scan

before-scan-silent : FirstSilent ticks_before_scan 3
before-scan-silent =
    first_silent?→FirstSilent (stored_of_read ticks_before_scan_text ticks_before_scan read.before_scan) 3 (omega arith)
    firsts-silent.before_scan

depth_one_deterministic : DeterministicModel tick_depth_one
depth_one_deterministic = unbranched?→DeterministicModel tick_depth_one unbranched.depth_one

depth_one-silent : FirstSilent tick_depth_one 1
depth_one-silent =
    first_silent?→FirstSilent (stored_of_read tick_depth_one_text tick_depth_one read.depth_one) 1 (omega arith)
    firsts-silent.depth_one

pub ticks-fact : TicksFact
ticks-fact = record {
  before_scan_passed =
      judged_of_computed ticks_before_scan_text ticks_before_scan read.before_scan (Passed 1) computed.before_scan;
  before-scan_deterministic = before-scan_deterministic;
  before-scan-silent = before-scan-silent;
  before_scan_word = word_refuses before-scan_deterministic before-scan-silent;
  depth_one_refused =
      judged_of_computed tick_depth_one_text tick_depth_one read.depth_one (refused_at 0 1) computed.depth_one;
  depth_one_deterministic = depth_one_deterministic;
  depth_one-silent = depth_one-silent;
  depth_one_word = word_refuses depth_one_deterministic depth_one-silent;
}
