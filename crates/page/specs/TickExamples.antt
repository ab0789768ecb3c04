-- The two models with ticks, from their texts to the bytes of their pages, as they stand in
-- examples/ticks_before_scan.page and examples/tick_depth_one.page.
-- Document 02, (vii): "Page prints `N` for it if it is refused". Assumes nothing.
use Rattle.std.specs.Prelude.{List, [], ◌∷◌, ℕ}
use Rattle.std.proofs.Math.Option.{some}
use Rattle.verdicts.specs.declared.judging.Verdict.TheVariants.{Passed}
use Rattle.tell.specs.Bench.{refused_at}
use Rattle.tell.specs.TickModels.{ticks_before_scan_text, tick_depth_one_text}
use Rattle.lines.specs.PageLines.{PageLine, verdict_line, state_line, no_word_line, last_line}
use Rattle.lines.specs.declared.lines.Form.TheVariants.{Page}
use Rattle.page.specs.Examples.{PrintsBytes}

-- A scan before which a tick stands is as good as one before which none does: 0, 2 and 3 are one class.
unfoldable pub before_scan_lines : List PageLine
before_scan_lines =
    verdict_line (Passed 1)
    ∷ state_line 0 (some 0) 0
    ∷ state_line 1 (some 1) 1
    ∷ state_line 2 (some 1) 0
    ∷ state_line 3 (some 2) 0
    ∷ last_line
    ∷ []

-- V,pass,1 / C,0,0,0 / C,1,1,1 / C,2,1,0 / C,3,2,0 / E
unfoldable pub before_scan_page : List ℕ
before_scan_page =
    86 ∷ 44 ∷ 112 ∷ 97 ∷ 115 ∷ 115 ∷ 44 ∷ 49 ∷ 10
    ∷ 67 ∷ 44 ∷ 48 ∷ 44 ∷ 48 ∷ 44 ∷ 48 ∷ 10
    ∷ 67 ∷ 44 ∷ 49 ∷ 44 ∷ 49 ∷ 44 ∷ 49 ∷ 10
    ∷ 67 ∷ 44 ∷ 50 ∷ 44 ∷ 49 ∷ 44 ∷ 48 ∷ 10
    ∷ 67 ∷ 44 ∷ 51 ∷ 44 ∷ 50 ∷ 44 ∷ 48 ∷ 10
    ∷ 69 ∷ 10
    ∷ []

unfoldable pub depth_one_lines : List PageLine
depth_one_lines =
    verdict_line (refused_at 0 1)
    ∷ state_line 0 (some 0) 0
    ∷ state_line 1 (some 1) 1
    ∷ state_line 2 (some 2) 1
    ∷ no_word_line
    ∷ last_line
    ∷ []

-- V,refuse,0,1 / C,0,0,0 / C,1,1,1 / C,2,2,1 / N / E
unfoldable pub depth_one_page : List ℕ
depth_one_page =
    86 ∷ 44 ∷ 114 ∷ 101 ∷ 102 ∷ 117 ∷ 115 ∷ 101 ∷ 44 ∷ 48 ∷ 44 ∷ 49 ∷ 10
    ∷ 67 ∷ 44 ∷ 48 ∷ 44 ∷ 48 ∷ 44 ∷ 48 ∷ 10
    ∷ 67 ∷ 44 ∷ 49 ∷ 44 ∷ 49 ∷ 44 ∷ 49 ∷ 10
    ∷ 67 ∷ 44 ∷ 50 ∷ 44 ∷ 50 ∷ 44 ∷ 49 ∷ 10
    ∷ 78 ∷ 10
    ∷ 69 ∷ 10
    ∷ []

-- Byte by byte.
pub record TickPagesPrinted : Type 0 where
  pub before_scan : PrintsBytes Page ticks_before_scan_text before_scan_page
  pub depth_one : PrintsBytes Page tick_depth_one_text depth_one_page
