-- What one line of a text states, or its fault.
-- Document 01, "The text". The tests of a line stand in the order of document 02, (i): "in a line 32 is tested first,
-- then 2, then 31, then 3", each over the whole line, and then 4, 5 or 33. 32, a line that is absent or has no line
-- end, is told before a line is looked at, and 35 after all of the last `A` line's tests (model/Reading).
use Rattle.std.specs.Prelude.{Bool, true, false, cond, ◌&&◌, ◌||◌, List, [], ◌∷◌, ℕ, ltb, eqb, length, get_or}
use Rattle.std.specs.Prelude.{Result, Ok, Err}
use Rattle.text.specs.declared.Fault.{Fault}
use Rattle.text.specs.declared.Fault.TheVariants.{Shape, Digits, Range, Repeated, Order, StartOrder}
use Rattle.text.specs.declared.Head.{Head}
use Rattle.text.specs.declared.StepLine.{StepLine}
use Rattle.text.specs.declared.number.Bounds.{Bounds}
use Rattle.text.specs.declared.number.NumberFault.{NumberFault}
use Rattle.text.specs.declared.number.NumberFault.TheVariants.{BadDigits, Outside}
use Rattle.text.specs.declared.row.Row.{Row}
use Rattle.text.specs.declared.row.Row.TheVariants.{HeadRow, StartRow, StepRow}
use Rattle.text.specs.Bytes.{byte_m, byte_a, byte_i, byte_s, byte_l, byte_d, byte_h, byte_t}
use Rattle.text.specs.Bytes.{digit, small_letter, comma, between?, kind_of}
use Rattle.text.specs.Numbers.{from_to, below, in_bounds?, number_in}
use Rattle.text.specs.Split.{split, same?}
use Rattle.text.specs.Limits.{state_limit, action_limit, step_limit, name_limit}
use Rattle.text.specs.Model.{low, release, high, silent, ActionLine, above_last?, last_start}

-- what a line, or a part of it, states; or its fault
pub data Line (A : Type 0) : Type 0 where
  good : A → Line A
  bad : Fault → Line A

-- a, if it passes a test
unfoldable pub checked : {A : Type 0} → Fault → Bool → A → Line A
checked fault true a = good a
checked fault false a = bad fault

-- ---- fields

-- the fields after the first, where the first is one letter and n more follow
unfoldable pub fields_from : ℕ → ℕ → List (List ℕ) → Line (List (List ℕ))
fields_from letter n [] = bad Shape
fields_from letter n (f ∷ fs) = checked Shape (same? f (letter ∷ []) && eqb (length fs) n) fs

unfoldable pub fields_of : ℕ → ℕ → List ℕ → Line (List (List ℕ))
fields_of letter n line = fields_from letter n (split comma line)

-- ---- numbers

-- One number in front of the others of its line. A field with bad digits gets 31, a number outside its range 3, and 31
-- is tested first, over all of them.
unfoldable pub cons_number : Result ℕ NumberFault → Line (List ℕ) → Line (List ℕ)
cons_number (Ok n) (good ns) = good (n ∷ ns)
cons_number (Ok n) (bad fault) = bad fault
cons_number (Err BadDigits) line = bad Digits
cons_number (Err Outside) (good ns) = bad Range
cons_number (Err Outside) (bad fault) = bad fault

-- the numbers of fields, one to a field, each with its bounds; there are as many bounds as fields
unfoldable pub numbers_of : List Bounds → List (List ℕ) → Line (List ℕ)
numbers_of (b ∷ bs) (f ∷ fs) = cons_number (number_in b f) (numbers_of bs fs)
numbers_of [] fs = good []
numbers_of (b ∷ bs) [] = good []

-- each number is within its bounds, of which there are as many
unfoldable pub fits? : List Bounds → List ℕ → Bool
fits? (b ∷ bs) (n ∷ ns) = in_bounds? b n && fits? bs ns
fits? [] ns = true
fits? (b ∷ bs) [] = true

-- ---- rows: lines that are a letter and numbers

-- "States 1 to 128, actions 1 to 64, steps 0 to 1,024, start below states."
unfoldable pub head_bounds : ℕ → List Bounds
head_bounds states = from_to 1 state_limit ∷ from_to 1 action_limit ∷ from_to 0 step_limit ∷ below states ∷ []

-- the state is there
unfoldable pub start_bounds : Head → List Bounds
start_bounds h = below h.states ∷ []

-- source, action and target are there
unfoldable pub step_bounds : Head → List Bounds
step_bounds h = below h.states ∷ below h.actions ∷ below h.states ∷ []

-- `M,states,actions,steps,start`, `I,state` and `S,source,action,target`
unfoldable pub row_letter : Row → ℕ
row_letter HeadRow = byte_m
row_letter (StartRow h) = byte_i
row_letter (StepRow h) = byte_s

unfoldable pub row_count : Row → ℕ
row_count HeadRow = 4
row_count (StartRow h) = 1
row_count (StepRow h) = 3

-- the bounds of its numbers, which in line 1 depend on the states that it gives
unfoldable pub row_bounds : Row → ℕ → List Bounds
row_bounds HeadRow states = head_bounds states
row_bounds (StartRow h) states = start_bounds h
row_bounds (StepRow h) states = step_bounds h

-- the number that a field holds within its bounds, else 0
unfoldable pub value_or0 : Result ℕ NumberFault → ℕ
value_or0 (Ok n) = n
value_or0 (Err fault) = 0

-- the states that line 1 gives; where its first field gives none, the line is refused whatever its start is
unfoldable pub states_of : List (List ℕ) → ℕ
states_of fs = value_or0 (number_in (from_to 1 state_limit) (get_or fs 0 []))

unfoldable pub row_from : Row → Line (List (List ℕ)) → Line (List ℕ)
row_from row (good fs) = numbers_of (row_bounds row (states_of fs)) fs
row_from row (bad fault) = bad fault

-- the numbers of a row
unfoldable pub row_of : Row → List ℕ → Line (List ℕ)
row_of row line = row_from row (fields_of (row_letter row) (row_count row) line)

-- ---- line 1: `M,states,actions,steps,start`

unfoldable pub head_fits? : Head → Bool
head_fits? h = fits? (head_bounds h.states) (h.states ∷ h.actions ∷ h.steps ∷ h.start.0 ∷ [])

abbrev pub head_numbers : List ℕ → Head
head_numbers ns = record {
  states = get_or ns 0 0;
  actions = get_or ns 1 0;
  steps = get_or ns 2 0;
  start = record { 0 = get_or ns 3 0 };
}

unfoldable pub head_from : Line (List ℕ) → Line Head
head_from (good ns) = good (head_numbers ns)
head_from (bad fault) = bad fault

unfoldable pub head_of : List ℕ → Line Head
head_of line = head_from (row_of HeadRow line)

-- ---- `A,level,name`

-- "Level is L, D or H", or T, which "marks a silent action" (document 02, (vii))
unfoldable pub level_of : List ℕ → Line ℕ
level_of f =
    cond (same? f (byte_l ∷ [])) (good low)
    (cond (same? f (byte_d ∷ [])) (good release)
    (cond (same? f (byte_h ∷ [])) (good high)
    (cond (same? f (byte_t ∷ [])) (good silent) (bad Shape))))

unfoldable pub all_of : (ℕ → Bool) → List ℕ → Bool
all_of test [] = true
all_of test (b ∷ bs) = test b && all_of test bs

unfoldable pub name_byte? : ℕ → Bool
name_byte? b = eqb (kind_of b) digit || eqb (kind_of b) small_letter

-- "A name is 1 to 12 bytes of a to z and 0 to 9"
unfoldable pub name? : List ℕ → Bool
name? f = between? 1 name_limit (length f) && all_of name_byte? f

unfoldable pub name_from : Line ℕ → List ℕ → Line ActionLine
name_from (good level) f = checked Shape (name? f) (record { level = level; name = f })
name_from (bad fault) f = bad fault

-- level and name, whether or not the name was used before
unfoldable pub action_fields : Line (List (List ℕ)) → Line ActionLine
action_fields (good fs) = name_from (level_of (get_or fs 0 [])) (get_or fs 1 [])
action_fields (bad fault) = bad fault

-- some action has the name
unfoldable pub used? : List ℕ → List ActionLine → Bool
used? name [] = false
used? name (a ∷ rest) = same? a.name name || used? name rest

-- "used once": a name of none of the actions before it
unfoldable pub action_from : List ActionLine → Line ActionLine → Line ActionLine
action_from before (good a) = cond (used? a.name before) (bad Repeated) (good a)
action_from before (bad fault) = bad fault

unfoldable pub action_of : List ActionLine → List ℕ → Line ActionLine
action_of before line = action_from before (action_fields (fields_of byte_a 2 line))

-- ---- `I,state`

unfoldable pub start_fits? : Head → ℕ → Bool
start_fits? h p = fits? (start_bounds h) (p ∷ [])

-- "strictly rising and above the start in line 1": above the starts before it
unfoldable pub above_starts? : Head → List ℕ → ℕ → Bool
above_starts? h before p = ltb (last_start h.start.0 before) p

unfoldable pub start_from : Head → List ℕ → Line (List ℕ) → Line ℕ
start_from h before (good ns) = checked StartOrder (above_starts? h before (get_or ns 0 0)) (get_or ns 0 0)
start_from h before (bad fault) = bad fault

-- the extra start that a line names, after those `before` it
unfoldable pub start_of : Head → List ℕ → List ℕ → Line ℕ
start_of h before line = start_from h before (row_of (StartRow h) line)

-- ---- `S,source,action,target`

unfoldable pub step_fits? : Head → StepLine → Bool
step_fits? h s = fits? (step_bounds h) (s.source.0 ∷ s.action.0 ∷ s.target.0 ∷ [])

abbrev pub step_numbers : List ℕ → StepLine
step_numbers ns = record {
  source = record { 0 = get_or ns 0 0 };
  action = record { 0 = get_or ns 1 0 };
  target = record { 0 = get_or ns 2 0 };
}

-- "strictly rising": above the steps before it
unfoldable pub step_from : List StepLine → Line (List ℕ) → Line StepLine
step_from before (good ns) = checked Order (above_last? before (step_numbers ns)) (step_numbers ns)
step_from before (bad fault) = bad fault

unfoldable pub step_of : Head → List StepLine → List ℕ → Line StepLine
step_of h before line = step_from before (row_of (StepRow h) line)
