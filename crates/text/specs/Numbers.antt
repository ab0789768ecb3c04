-- Number fields.
-- Document 01, "The text": "Numbers have 1 to 5 digits and no leading zero, except `0` itself."
-- Document 02, (i): "Reading a number shall tell bad digits from a number that is too large".
use Rattle.std.specs.Prelude.{Bool, true, false, cond, not, ◌&&◌, List, [], ◌∷◌, ◌++◌, ℕ, zero, suc, ◌+◌, ◌-◌, ◌*◌, ◌/◌}
use Rattle.std.specs.Prelude.{◌%◌, leb, ltb, eqb, length, Result, Ok, Err}
use Rattle.std.proofs.Math.Option.{Option, none, some}
use Rattle.text.specs.declared.number.Bounds.{Bounds}
use Rattle.text.specs.declared.number.NumberFault.{NumberFault}
use Rattle.text.specs.declared.number.NumberFault.TheVariants.{BadDigits, Outside}
use Rattle.text.specs.Limits.{digit_limit}
use Rattle.text.specs.Bytes.{byte_zero, digit, kind_of}

-- the value of digits that follow those of the value v; none where one is no digit
unfoldable pub digits_value : ℕ → List ℕ → Option ℕ
digits_value v [] = some v
digits_value v (b ∷ bs) = cond (eqb (kind_of b) digit) (digits_value (v * 10 + (b - byte_zero)) bs) none

-- 1 to 5 bytes, and the first of several is not 0
unfoldable pub number_shape? : List ℕ → Bool
number_shape? [] = false
number_shape? (b ∷ []) = true
number_shape? (b ∷ c ∷ bs) = leb (length (b ∷ c ∷ bs)) digit_limit && not (eqb b byte_zero)

-- the number that a field holds, if it "is 1 to 5 digits without a leading zero"
unfoldable pub number_of : List ℕ → Option ℕ
number_of field = cond (number_shape? field) (digits_value 0 field) none

-- ---- within bounds

-- "1 to 128", "below states"
abbrev pub from_to : ℕ → ℕ → Bounds
from_to least most = record { least = least; limit = suc most }

abbrev pub below : ℕ → Bounds
below limit = record { least = 0; limit = limit }

-- from the least on, and below the limit
unfoldable pub in_bounds? : Bounds → ℕ → Bool
in_bounds? bounds n = leb bounds.least n && ltb n bounds.limit

-- the number of a field, or none, by its bounds
unfoldable pub bounded : Bounds → Option ℕ → Result ℕ NumberFault
bounded bounds none = Err BadDigits
bounded bounds (some n) = cond (in_bounds? bounds n) (Ok n) (Err Outside)

-- what a field holds, where its number has bounds
unfoldable pub number_in : Bounds → List ℕ → Result ℕ NumberFault
number_in bounds field = bounded bounds (number_of field)

-- ---- the digits of a number

-- the last k decimal digits of n, fewer where n has fewer
unfoldable pub digits_up_to : ℕ → ℕ → List ℕ
digits_up_to zero n = []
digits_up_to (suc k) n = cond (ltb n 10) ((byte_zero + n) ∷ []) (digits_up_to k (n / 10) ++ ((byte_zero + n % 10) ∷ []))

-- the field of a number below 100,000
unfoldable pub digits : ℕ → List ℕ
digits n = digits_up_to digit_limit n
