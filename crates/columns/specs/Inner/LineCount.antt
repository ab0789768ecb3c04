-- How many lines states have on the roll, and how many letters follow them. Only the contracts of inner functions and
-- laws on room cite it.
-- Document 02, (ii) and (vii).
use Rattle.std.specs.Prelude.{Bool, cond, ◌&&◌, List, ℕ, zero, suc, ◌+◌, ◌≤◌, ◌<◌, eqb, length}
use Rattle.std.proofs.Math.Option.{Option}
use Rattle.lts.specs.Tests.{any}
use Rattle.text.specs.All.{All}
use Rattle.text.specs.Limits.{name_limit}
use Rattle.text.specs.Model.{Model, silent}
use Rattle.text.specs.Numbers.{digits}
use Rattle.model.specs.System.{source, action, level, name_of}
use Rattle.verdicts.specs.Inner.VerdictTest.{reachable?}
use Rattle.columns.specs.LowNames.{low_names}
use Rattle.columns.specs.Rows.{roll_width, blanks, fill}
use Rattle.columns.specs.StateRows.{distance_text, number_width}

-- The columns of the state, its distance and its class, with a blank between two: names stand behind them.
abbrev pub columns_width : ℕ
columns_width = 11

-- The lines of state p: the names alone decide how many.
abbrev pub line_count : Model → ℕ → ℕ
line_count m p = length (fill (blanks columns_width) (low_names m p))

-- The lines of the states below n.
unfoldable pub lines_below : Model → ℕ → ℕ
lines_below m zero = zero
lines_below m (suc n) = lines_below m n + line_count m n

-- Step j is a silent step that can be reached.
abbrev pub silent_step? : Model → ℕ → Bool
silent_step? m j = eqb (level m (action m j)) silent && reachable? m (source m j)

-- The letters that a refused model of some depth has at most: none where a silent step can be reached, for it has `N`
-- then.
unfoldable pub letter_count : Model → ℕ → ℕ
letter_count m depth = cond (any (length m.steps) (silent_step? m)) 0 depth

-- ---- what fits

-- Names of at most 12 bytes, and lines of at most 42 columns.
abbrev pub ShortNames : List (List ℕ) → Type 0
ShortNames names = All (λ (name : List ℕ). length name ≤ name_limit) names

abbrev pub ShortRows : List (List ℕ) → Type 0
ShortRows rows = All (λ (row : List ℕ). length row ≤ roll_width) rows

-- A state, its distance and its class have at most 3 digits.
pub record ShortColumns (p : ℕ) (distance : Option ℕ) (class : ℕ) : Type 0 where
  pub state_le : length (digits p) ≤ number_width
  pub distance_le : length (distance_text distance) ≤ number_width
  pub class_le : length (digits class) ≤ number_width

-- "A name is 1 to 12 bytes" (document 01, "The text"): each name of the model fits.
abbrev pub NamesFit : Model → Type 0
NamesFit m = (a : ℕ) → a < length m.actions → length (name_of m a) ≤ name_limit

-- ---- the room of the roll

-- The lines of all states, at most. Each line but the last of a state has at least two names, and each name a low step
-- of its own: twice the lines are at most the low steps and the states, with one more for each state without a name.
-- That is 1,024 + 128 + 128.
abbrev pub passed_rows : ℕ
passed_rows = 640

-- With the lines of the sequence. A refused model has a high step, and if no silent step can be reached, at least as
-- many states with a name as the depth, which is at most 127: twice the lines are at most 1,023 + 128 + 128 - 127 and
-- twice 127.
abbrev pub refused_rows : ℕ
refused_rows = 703
