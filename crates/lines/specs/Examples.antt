-- The page of the worked example, and its receipt roll, by evaluation from what its lines say.
-- Document 01, "The page"; document 02, (ii). Assumes nothing.
use Rattle.std.specs.Prelude.{List, [], ◌∷◌, ◌≡◌, refl, ℕ, ◌+◌, ◌*◌, length}
use Rattle.std.proofs.Math.Option.{some}
use Rattle.lts.specs.Tests.{any}
use Rattle.text.specs.Numbers.{digits, digits_up_to}
use Rattle.model.specs.Examples.{worked}
use Rattle.verdicts.specs.declared.judging.Verdict.TheVariants.{Refused}
use Rattle.letters.specs.declared.word.End.TheVariants.{Source}
use Rattle.columns.specs.LowNames.{passing}
use Rattle.columns.specs.Rows.{roll_width, flush_left, flush_right, rows_bytes, fill}
use Rattle.columns.specs.StateRows.{state_columns}
use Rattle.lines.specs.declared.lines.Form.TheVariants.{Roll}
use Rattle.lines.specs.PageLines.{PageLine, verdict_line, state_line, word_line, allows_line, last_line}
use Rattle.lines.specs.PageLines.{distance_text, end_text, line_text, page_bytes}
use Rattle.lines.specs.Roll.{roll_rows, roll_bytes, form_bytes}

abbrev scan : List ℕ
scan = 115 ∷ 99 ∷ 97 ∷ 110 ∷ []

unfoldable pub worked_lines : List PageLine
worked_lines =
    verdict_line (Refused (record { 0 = 1 }) 2)
    ∷ state_line 0 (some 0) 0
    ∷ state_line 1 (some 1) 0
    ∷ state_line 2 (some 1) 2
    ∷ state_line 3 (some 2) 3
    ∷ word_line scan
    ∷ word_line scan
    ∷ allows_line Source
    ∷ last_line
    ∷ []

-- V,refuse,1,2 / C,0,0,0 / C,1,1,0 / C,2,1,2 / C,3,2,3 / W,scan / W,scan / B,source / E
pub worked_page : List ℕ
worked_page =
    86 ∷ 44 ∷ 114 ∷ 101 ∷ 102 ∷ 117 ∷ 115 ∷ 101 ∷ 44 ∷ 49 ∷ 44 ∷ 50 ∷ 10
    ∷ 67 ∷ 44 ∷ 48 ∷ 44 ∷ 48 ∷ 44 ∷ 48 ∷ 10
    ∷ 67 ∷ 44 ∷ 49 ∷ 44 ∷ 49 ∷ 44 ∷ 48 ∷ 10
    ∷ 67 ∷ 44 ∷ 50 ∷ 44 ∷ 49 ∷ 44 ∷ 50 ∷ 10
    ∷ 67 ∷ 44 ∷ 51 ∷ 44 ∷ 50 ∷ 44 ∷ 51 ∷ 10
    ∷ 87 ∷ 44 ∷ 115 ∷ 99 ∷ 97 ∷ 110 ∷ 10
    ∷ 87 ∷ 44 ∷ 115 ∷ 99 ∷ 97 ∷ 110 ∷ 10
    ∷ 66 ∷ 44 ∷ 115 ∷ 111 ∷ 117 ∷ 114 ∷ 99 ∷ 101 ∷ 10
    ∷ 69 ∷ 10
    ∷ []

pub worked_bytes : page_bytes worked_lines ≡ worked_page
unfolding page_bytes line_text distance_text end_text digits digits_up_to worked_lines worked_page
worked_bytes = refl

-- ---- on the roll

-- Each line has 42 columns and its end; here columns 1 to 21 of a line stand above the rest of it.
--
--              1         2         3         4
--     123456789012345678901234567890123456789012
--     V,refuse,1,2
--       0   0   0 scan
--       1   1   0 scan
--       2   1   2 scan
--       3   2   3
--     W,scan
--     W,scan
--     B,source
--     E
pub worked_roll : List ℕ
worked_roll =
    86 ∷ 44 ∷ 114 ∷ 101 ∷ 102 ∷ 117 ∷ 115 ∷ 101 ∷ 44 ∷ 49 ∷ 44 ∷ 50 ∷ 32 ∷ 32 ∷ 32 ∷ 32 ∷ 32 ∷ 32 ∷ 32 ∷ 32 ∷ 32
    ∷ 32 ∷ 32 ∷ 32 ∷ 32 ∷ 32 ∷ 32 ∷ 32 ∷ 32 ∷ 32 ∷ 32 ∷ 32 ∷ 32 ∷ 32 ∷ 32 ∷ 32 ∷ 32 ∷ 32 ∷ 32 ∷ 32 ∷ 32 ∷ 32 ∷ 10
    ∷ 32 ∷ 32 ∷ 48 ∷ 32 ∷ 32 ∷ 32 ∷ 48 ∷ 32 ∷ 32 ∷ 32 ∷ 48 ∷ 32 ∷ 115 ∷ 99 ∷ 97 ∷ 110 ∷ 32 ∷ 32 ∷ 32 ∷ 32 ∷ 32
    ∷ 32 ∷ 32 ∷ 32 ∷ 32 ∷ 32 ∷ 32 ∷ 32 ∷ 32 ∷ 32 ∷ 32 ∷ 32 ∷ 32 ∷ 32 ∷ 32 ∷ 32 ∷ 32 ∷ 32 ∷ 32 ∷ 32 ∷ 32 ∷ 32 ∷ 10
    ∷ 32 ∷ 32 ∷ 49 ∷ 32 ∷ 32 ∷ 32 ∷ 49 ∷ 32 ∷ 32 ∷ 32 ∷ 48 ∷ 32 ∷ 115 ∷ 99 ∷ 97 ∷ 110 ∷ 32 ∷ 32 ∷ 32 ∷ 32 ∷ 32
    ∷ 32 ∷ 32 ∷ 32 ∷ 32 ∷ 32 ∷ 32 ∷ 32 ∷ 32 ∷ 32 ∷ 32 ∷ 32 ∷ 32 ∷ 32 ∷ 32 ∷ 32 ∷ 32 ∷ 32 ∷ 32 ∷ 32 ∷ 32 ∷ 32 ∷ 10
    ∷ 32 ∷ 32 ∷ 50 ∷ 32 ∷ 32 ∷ 32 ∷ 49 ∷ 32 ∷ 32 ∷ 32 ∷ 50 ∷ 32 ∷ 115 ∷ 99 ∷ 97 ∷ 110 ∷ 32 ∷ 32 ∷ 32 ∷ 32 ∷ 32
    ∷ 32 ∷ 32 ∷ 32 ∷ 32 ∷ 32 ∷ 32 ∷ 32 ∷ 32 ∷ 32 ∷ 32 ∷ 32 ∷ 32 ∷ 32 ∷ 32 ∷ 32 ∷ 32 ∷ 32 ∷ 32 ∷ 32 ∷ 32 ∷ 32 ∷ 10
    ∷ 32 ∷ 32 ∷ 51 ∷ 32 ∷ 32 ∷ 32 ∷ 50 ∷ 32 ∷ 32 ∷ 32 ∷ 51 ∷ 32 ∷ 32 ∷ 32 ∷ 32 ∷ 32 ∷ 32 ∷ 32 ∷ 32 ∷ 32 ∷ 32
    ∷ 32 ∷ 32 ∷ 32 ∷ 32 ∷ 32 ∷ 32 ∷ 32 ∷ 32 ∷ 32 ∷ 32 ∷ 32 ∷ 32 ∷ 32 ∷ 32 ∷ 32 ∷ 32 ∷ 32 ∷ 32 ∷ 32 ∷ 32 ∷ 32 ∷ 10
    ∷ 87 ∷ 44 ∷ 115 ∷ 99 ∷ 97 ∷ 110 ∷ 32 ∷ 32 ∷ 32 ∷ 32 ∷ 32 ∷ 32 ∷ 32 ∷ 32 ∷ 32 ∷ 32 ∷ 32 ∷ 32 ∷ 32 ∷ 32 ∷ 32
    ∷ 32 ∷ 32 ∷ 32 ∷ 32 ∷ 32 ∷ 32 ∷ 32 ∷ 32 ∷ 32 ∷ 32 ∷ 32 ∷ 32 ∷ 32 ∷ 32 ∷ 32 ∷ 32 ∷ 32 ∷ 32 ∷ 32 ∷ 32 ∷ 32 ∷ 10
    ∷ 87 ∷ 44 ∷ 115 ∷ 99 ∷ 97 ∷ 110 ∷ 32 ∷ 32 ∷ 32 ∷ 32 ∷ 32 ∷ 32 ∷ 32 ∷ 32 ∷ 32 ∷ 32 ∷ 32 ∷ 32 ∷ 32 ∷ 32 ∷ 32
    ∷ 32 ∷ 32 ∷ 32 ∷ 32 ∷ 32 ∷ 32 ∷ 32 ∷ 32 ∷ 32 ∷ 32 ∷ 32 ∷ 32 ∷ 32 ∷ 32 ∷ 32 ∷ 32 ∷ 32 ∷ 32 ∷ 32 ∷ 32 ∷ 32 ∷ 10
    ∷ 66 ∷ 44 ∷ 115 ∷ 111 ∷ 117 ∷ 114 ∷ 99 ∷ 101 ∷ 32 ∷ 32 ∷ 32 ∷ 32 ∷ 32 ∷ 32 ∷ 32 ∷ 32 ∷ 32 ∷ 32 ∷ 32 ∷ 32 ∷ 32
    ∷ 32 ∷ 32 ∷ 32 ∷ 32 ∷ 32 ∷ 32 ∷ 32 ∷ 32 ∷ 32 ∷ 32 ∷ 32 ∷ 32 ∷ 32 ∷ 32 ∷ 32 ∷ 32 ∷ 32 ∷ 32 ∷ 32 ∷ 32 ∷ 32 ∷ 10
    ∷ 69 ∷ 32 ∷ 32 ∷ 32 ∷ 32 ∷ 32 ∷ 32 ∷ 32 ∷ 32 ∷ 32 ∷ 32 ∷ 32 ∷ 32 ∷ 32 ∷ 32 ∷ 32 ∷ 32 ∷ 32 ∷ 32 ∷ 32 ∷ 32
    ∷ 32 ∷ 32 ∷ 32 ∷ 32 ∷ 32 ∷ 32 ∷ 32 ∷ 32 ∷ 32 ∷ 32 ∷ 32 ∷ 32 ∷ 32 ∷ 32 ∷ 32 ∷ 32 ∷ 32 ∷ 32 ∷ 32 ∷ 32 ∷ 32 ∷ 10
    ∷ []

pub worked_roll_lem : form_bytes Roll worked worked_lines ≡ worked_roll
unfolding form_bytes roll_bytes roll_rows rows_bytes flush_left flush_right state_columns fill passing any line_text
    distance_text end_text digits digits_up_to worked_lines worked_roll
worked_roll_lem = refl

-- nine lines
worked_roll-length : length worked_roll ≡ 9 * (roll_width + 1)
unfolding worked_roll
worked_roll-length = refl
