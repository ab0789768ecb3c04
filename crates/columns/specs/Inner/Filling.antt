-- Names that are filled into lines one by one, and the steps that they come from. Only the contracts of inner functions
-- and laws on them cite it.
-- Document 02, (ii): "the names of the low actions with a step there, in action order, one blank between".
use Rattle.std.specs.Prelude.{Bool, cond, not, ◌&&◌, List, [], ◌∷◌, ◌++◌, map, ◌≡◌, ℕ, ◌+◌, ◌-◌, ◌≤◌, ◌<◌, T, length}
use Rattle.lts.specs.Tests.{any}
use Rattle.text.specs.Model.{Model}
use Rattle.model.specs.System.{source, action, view, name_of}
use Rattle.model.specs.Inner.Index.{Begins}
use Rattle.writer.specs.Wrote.{Wrote}
use Rattle.columns.specs.declared.line.RollLine.{RollLine}
use Rattle.columns.specs.LowNames.{leaves?, low_from?, passing}
use Rattle.columns.specs.Rows.{roll_width, rows_bytes, fill}

-- ---- steps

-- The steps of step j's state begin at step `from`.
pub record StepFrom (m : Model) (from j : ℕ) : Type 0 where
  pub from_le : from ≤ j
  pub number_lt : j < length m.steps
  pub begins : Begins m (source m j) from

-- Step j is low, and no step before it leaves its source with its action.
pub record FirstLow (m : Model) (j : ℕ) : Type 0 where
  pub is_low : T ((view m).levels.low? (action m j))
  pub none_before : (i : ℕ) → i < j → source m i ≡ source m j → ¬ (action m i ≡ action m j)

abbrev pub first_low? : Model → ℕ → Bool
first_low? m j = (view m).levels.low? (action m j) && not (any j (leaves? m (source m j) (action m j)))

-- The name that step j adds to those of the steps before it.
abbrev pub name_added : Model → ℕ → List (List ℕ)
name_added m j = cond (first_low? m j) (name_of m (action m j) ∷ []) []

-- The names of the low actions with which one of the first n steps leaves p.
abbrev pub low_names_to : Model → ℕ → ℕ → List (List ℕ)
low_names_to m p n = map (name_of m) (passing (length m.actions) (low_from? m p n))

-- ---- lines

-- Names were filled into lines behind `head`, which was written from place `from` of `entry` on: lines that ended, and
-- the one that goes on. `filled` says that more names go on from there.
pub record Filling (head : List ℕ) (names : List (List ℕ)) (entry : List ℕ) (from : ℕ) (exit : List ℕ) (row : RollLine)
    : Type 0 where
  pub closed : List (List ℕ)
  pub last : List ℕ
  pub filled : (more : List (List ℕ)) → fill head (names ++ more) ≡ closed ++ fill last more
  pub wrote : Wrote entry from (rows_bytes closed ++ last) exit row.at.at
  pub begin_is : row.begin ≡ from + length (rows_bytes closed)
  pub last_le : length last ≤ roll_width

-- A writer that took the line `row` and handed back `next` filled in these names, whatever stood on the line.
pub record NamesFilled (names : List (List ℕ)) (entry : List ℕ) (row : RollLine) (exit : List ℕ) (next : RollLine)
    : Type 0 where
  pub filling : (head : List ℕ) (before : List (List ℕ)) (first : List ℕ) (from : ℕ)
      → Filling head before first from entry row → Filling head (before ++ names) first from exit next

-- There is room for the line up to its end, and for a next one if a name of n bytes goes there.
pub record NameRoom (row : RollLine) (n room : ℕ) : Type 0 where
  pub begin_le : row.begin ≤ row.at.at
  pub at_le : row.at.at ≤ row.begin + roll_width
  pub line_lt : row.begin + roll_width < room
  pub next_lt : roll_width < row.at.at - row.begin + 1 + n → row.begin + roll_width + 1 + roll_width < room
