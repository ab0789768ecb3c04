-- What an operation tells, and the numbers of refusals.
-- Document 01, "Refused because of the input" and "Refused because of the state"; document 02, (i), (iii) and
-- (vi).
use Rattle.std.specs.Prelude.{cond, List, [], ◌∷◌, ℕ, suc, ltb}
use Rattle.std.proofs.Math.Option.{Option, none, some}
use Rattle.text.specs.declared.Fault.{Fault}
use Rattle.text.specs.declared.Fault.TheVariants.{Absent, Shape, Digits, Range, Repeated, Order, StartOrder}
use Rattle.text.specs.declared.Fault.TheVariants.{NoHigh}

-- the values of an answer, or the number and the place of a refusal
pub data Outcome : Type 0 where
  answers : List ℕ → Outcome
  refuses : (number place : ℕ) → Outcome

-- The number of each fault of a line.
-- Document 02, (i): "A field that isn't 1 to 5 digits without a leading zero gets its own refusal. So does a line that
-- is absent or has no line end, and bytes after `E`. All else under 2 stays 2 [..]. Such fields get 31, such lines and
-- bytes 32".
-- Document 01: "2: wrong letter, field count, [..] level or name", "3: a number outside its range", "4: a name used
-- before", "5: a step not above the one before it".
-- Document 02, (iii): "An `I` line not above the one before it, the first not above line 1's start, is refused as 33".
-- Document 02, (vi): "A text without an H action is refused [..]. The number is 35".
abbrev pub fault_number : Fault → ℕ
fault_number Absent = 32
fault_number Shape = 2
fault_number Digits = 31
fault_number Range = 3
fault_number Repeated = 4
fault_number Order = 5
fault_number StartOrder = 33
fault_number NoHigh = 35

-- "21: a lent list below its least length; place: the first such list, from 1".
-- The lists' lengths, and their least lengths, in the order in which 21 counts them, the first being list k.
unfoldable pub first_short : ℕ → List ℕ → List ℕ → Option ℕ
first_short k (n ∷ ns) (least ∷ leasts) = cond (ltb n least) (some k) (first_short (suc k) ns leasts)
first_short k [] leasts = none
first_short k (n ∷ ns) [] = none
