-- The most bytes that the lines of a page take in a form, each with its end. Only the contracts of inner functions cite
-- it.
-- Document 01, "The page", for the lines, and "The text" for the widths: of up to 128 states, a state or a distance has
-- at most 3 digits; a name has at most 12 bytes. Any other number has at most 5 digits: `digits` (text/Numbers) writes
-- no more.
-- Document 02, (ii), for the roll: each line has 42 columns and its end; (vii) for models that have no word.
use Rattle.std.specs.Prelude.{ℕ, zero, suc, ◌+◌, ◌*◌}
use Rattle.text.specs.Limits.{run_length}
use Rattle.text.specs.Model.{Model}
use Rattle.verdicts.specs.declared.judging.Verdict.{Verdict}
use Rattle.verdicts.specs.declared.judging.Verdict.TheVariants.{Passed, Refused}
use Rattle.letters.specs.declared.word.Shown.{Shown}
use Rattle.letters.specs.declared.word.Shown.TheVariants.{Word, NotDeterministic, Silent, NoLeak}
use Rattle.columns.specs.Rows.{roll_width}
use Rattle.columns.specs.Inner.LineCount.{line_count, letter_count}
use Rattle.lines.specs.declared.lines.Form.{Form}
use Rattle.lines.specs.declared.lines.Form.TheVariants.{Page, Roll}

-- ---- widths of texts

-- `V,refuse,step,depth`
abbrev pub verdict_width : ℕ
verdict_width = 20

-- `C,state,distance,class`
abbrev pub state_width : ℕ
state_width = 13

-- `R,step`
abbrev pub run_width : ℕ
run_width = 7

-- `W,name`
abbrev pub name_width : ℕ
name_width = 14

-- `B,source` or `B,target`
abbrev pub allows_width : ℕ
allows_width = 8

-- `N` or `E`
abbrev pub letter_width : ℕ
letter_width = 1

-- ---- room for lines

-- A line whose text has at most `width` bytes.
unfoldable pub line_room : Form → ℕ → ℕ
line_room Page width = width + 1
line_room Roll width = roll_width + 1

-- `F,number,place` and its end, which is no line of a page
abbrev pub fault_room : ℕ
fault_room = 14

-- The lines of state p: one on a page.
unfoldable pub state_room : Form → Model → ℕ → ℕ
state_room Page m p = state_width + 1
state_room Roll m p = (roll_width + 1) * line_count m p

-- The lines of the states below n.
unfoldable pub states_room : Form → Model → ℕ → ℕ
states_room form m zero = zero
states_room form m (suc n) = states_room form m n + state_room form m n

-- A word of n letters, and the end that allows it.
abbrev pub word_room : Form → ℕ → ℕ
word_room form n = line_room form name_width * n + line_room form allows_width

-- What is shown: a word, or `N`.
abbrev pub shown_room : Form → Shown → ℕ
shown_room form (Word n end) = word_room form n
shown_room form (NotDeterministic j) = line_room form letter_width
shown_room form (Silent j) = line_room form letter_width
shown_room form NoLeak = line_room form letter_width

-- What follows the states: all steps of a run, and a word of as many letters as the depth says, but of none where a
-- silent step can be reached; nothing where the model passed.
abbrev pub leak_room : Form → Model → Verdict → ℕ
leak_room form m (Passed rank) = 0
leak_room form m (Refused j depth) = line_room form run_width * run_length + word_room form (letter_count m depth)
