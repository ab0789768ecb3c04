-- The worked example and the other starred bench models, from their texts to the bytes of their pages, and two to those
-- of their rolls: what the promise of the path from a text makes of each.
-- Document 01, "The page": "Input, then the output whole"; "Bench models"; document 02, (ii) and (iii). Assumes
-- nothing.
use Rattle.std.specs.Prelude.{List, [], ◌∷◌, ◌≡◌, ℕ, length, take, drop}
use Rattle.std.proofs.Math.Option.{none, some}
use Rattle.text.specs.Faults.{Outcome, answers}
use Rattle.verdicts.specs.declared.judging.Verdict.TheVariants.{Passed}
use Rattle.letters.specs.declared.word.End.TheVariants.{Target}
use Rattle.tell.specs.Bench.{refused_at}
use Rattle.tell.specs.BenchModels.{worked_text, scanned_once_text, released_text, close_low_text, branching_text}
use Rattle.tell.specs.BenchModels.{no_steps_text}
use Rattle.tell.specs.BenchModels.{print_loop_text, unreached_print_text, woken_print_text}
use Rattle.columns.specs.Rows.{rows_bytes}
use Rattle.lines.specs.Examples.{worked_page, worked_roll}
use Rattle.lines.specs.PageLines.{PageLine, verdict_line, state_line, word_line, allows_line, no_word_line, last_line}
use Rattle.lines.specs.PageLines.{page_bytes}
use Rattle.lines.specs.declared.lines.Form.{Form}
use Rattle.lines.specs.declared.lines.Form.TheVariants.{Page, Roll}
use Rattle.page.specs.RollClaim.{other_texts}
use Rattle.page.specs.PrintPromise.{print_lists, PrintPromise}

-- The bytes stand at the front of `out`, the answer is how many they are, and behind them stands what stood there.
pub record BytesPrinted (bytes : List ℕ) (outcome : Outcome) (out out' : List ℕ) : Type 0 where
  pub outcome_is : outcome ≡ answers (length bytes ∷ [])
  pub printed : take (length bytes) out' ≡ bytes
  pub kept : drop (length bytes) out' ≡ drop (length bytes) out

-- Whatever the lists held, if none is too short the promise gives these bytes for the text.
pub record PrintsBytes (form : Form) (text bytes : List ℕ) : Type 0 where
  pub by_promise : {store distances table run word out : List ℕ} {outcome : Outcome}
      {store' distances' table' run' word' out' : List ℕ}
      → print_lists form text store distances table run word out ≡ none
      → PrintPromise form text store distances table run word out outcome store' distances' table' run' word' out'
      → BytesPrinted bytes outcome out out'

-- ---- the pages of the other models; document 01 gives their verdicts alone

unfoldable pub scanned_once_lines : List PageLine
scanned_once_lines =
    verdict_line (Passed 1)
    ∷ state_line 0 (some 0) 0
    ∷ state_line 1 (some 1) 1
    ∷ state_line 2 (some 1) 0
    ∷ state_line 3 (some 2) 1
    ∷ last_line
    ∷ []

unfoldable pub released_lines : List PageLine
released_lines =
    verdict_line (Passed 1)
    ∷ state_line 0 (some 0) 0
    ∷ state_line 1 (some 1) 0
    ∷ state_line 2 (some 2) 2
    ∷ last_line
    ∷ []

-- its word is close
unfoldable pub close_low_lines : List PageLine
close_low_lines =
    verdict_line (refused_at 0 1)
    ∷ state_line 0 (some 0) 0
    ∷ state_line 1 (some 1) 1
    ∷ state_line 2 (some 2) 2
    ∷ word_line (99 ∷ 108 ∷ 111 ∷ 115 ∷ 101 ∷ [])
    ∷ allows_line Target
    ∷ last_line
    ∷ []

unfoldable pub branching_lines : List PageLine
branching_lines =
    verdict_line (refused_at 2 2)
    ∷ state_line 0 (some 0) 0
    ∷ state_line 1 (some 1) 1
    ∷ state_line 2 (some 1) 2
    ∷ state_line 3 (some 1) 3
    ∷ no_word_line
    ∷ last_line
    ∷ []

-- of both models with one state
unfoldable pub one_state_lines : List PageLine
one_state_lines = verdict_line (Passed 0) ∷ state_line 0 (some 0) 0 ∷ last_line ∷ []

-- "distance `-` if unreachable"
unfoldable pub unreached_print_lines : List PageLine
unreached_print_lines =
    verdict_line (Passed 1)
    ∷ state_line 0 (some 0) 0
    ∷ state_line 1 none 0
    ∷ state_line 2 none 2
    ∷ last_line
    ∷ []

-- the same, waking in 1 too (document 02, (iii)): its print step is reached, from a start, so that no `R` line stands
unfoldable pub woken_print_lines : List PageLine
woken_print_lines =
    verdict_line (refused_at 0 1)
    ∷ state_line 0 (some 0) 0
    ∷ state_line 1 (some 0) 0
    ∷ state_line 2 (some 1) 2
    ∷ word_line (115 ∷ 99 ∷ 97 ∷ 110 ∷ [])
    ∷ allows_line Target
    ∷ last_line
    ∷ []

-- ---- a roll, line by line without its padding

--     V,pass,1
--       0   0   0
--       1   -   0
--       2   -   2 scan
--     E
unfoldable pub unreached_print_rows : List (List ℕ)
unreached_print_rows =
    (86 ∷ 44 ∷ 112 ∷ 97 ∷ 115 ∷ 115 ∷ 44 ∷ 49 ∷ [])
    ∷ (32 ∷ 32 ∷ 48 ∷ 32 ∷ 32 ∷ 32 ∷ 48 ∷ 32 ∷ 32 ∷ 32 ∷ 48 ∷ [])
    ∷ (32 ∷ 32 ∷ 49 ∷ 32 ∷ 32 ∷ 32 ∷ 45 ∷ 32 ∷ 32 ∷ 32 ∷ 48 ∷ [])
    ∷ (32 ∷ 32 ∷ 50 ∷ 32 ∷ 32 ∷ 32 ∷ 45 ∷ 32 ∷ 32 ∷ 32 ∷ 50 ∷ 32 ∷ 115 ∷ 99 ∷ 97 ∷ 110 ∷ [])
    ∷ (69 ∷ [])
    ∷ []

-- ---- the facts

pub record PagesPrinted : Type 0 where
  -- "Input, then the output whole", byte by byte
  pub worked : PrintsBytes Page worked_text worked_page
  pub scanned_once_is : PrintsBytes Page scanned_once_text (page_bytes scanned_once_lines)
  pub released : PrintsBytes Page released_text (page_bytes released_lines)
  pub close_low_is : PrintsBytes Page close_low_text (page_bytes close_low_lines)
  pub branching : PrintsBytes Page branching_text (page_bytes branching_lines)
  pub no_steps_is : PrintsBytes Page no_steps_text (page_bytes one_state_lines)
  pub print_loop_is : PrintsBytes Page print_loop_text (page_bytes one_state_lines)
  pub unreached_print_is : PrintsBytes Page unreached_print_text (page_bytes unreached_print_lines)
  pub woken_print_is : PrintsBytes Page woken_print_text (page_bytes woken_print_lines)

pub record RollsPrinted : Type 0 where
  -- byte by byte
  pub worked : PrintsBytes Roll worked_text worked_roll
  -- states that are not reachable
  pub unreached_print_is : PrintsBytes Roll unreached_print_text (rows_bytes unreached_print_rows)
  -- the texts of its lines that are no state's: V,pass,1 / E
  pub unreached_print_others : other_texts (rows_bytes unreached_print_rows)
      ≡ (86 ∷ 44 ∷ 112 ∷ 97 ∷ 115 ∷ 115 ∷ 44 ∷ 49 ∷ []) ∷ (69 ∷ []) ∷ []
