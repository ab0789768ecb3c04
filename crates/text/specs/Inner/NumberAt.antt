-- What a number field holds that is read digit by digit as it stands in a text. Only the contracts of inner functions
-- cite it.
-- Document 01, "The text"; document 02, (i).
use Rattle.std.specs.Prelude.{cond, ◌||◌, List, [], ◌∷◌, ◌++◌, ◌⊎◌, ◌≡◌, ℕ, ◌+◌, ◌≤◌, ◌<◌, eqb, length, drop, get_or}
use Rattle.std.specs.Prelude.{Option, Some, None, Result, Err}
use Rattle.std.proofs.Math.Option.{none, some}
use Rattle.text.specs.declared.number.Bounds.{Bounds}
use Rattle.text.specs.declared.number.Digits.{Digits}
use Rattle.text.specs.declared.number.NumberFault.{NumberFault}
use Rattle.text.specs.declared.number.NumberFault.TheVariants.{BadDigits}
use Rattle.text.specs.All.{All}
use Rattle.text.specs.Limits.{digit_limit}
use Rattle.text.specs.Bytes.{byte_zero, digit, comma, line_end, kind_of}
use Rattle.text.specs.Numbers.{digits_value, number_of, number_in}

-- each byte is a digit
abbrev pub AllDigits : List ℕ → Type 0
AllDigits f = All (λ b. kind_of b ≡ digit) f

-- digits of value v stand from place `at` on and below place e
pub record DigitsTo (s : List ℕ) (at e v : ℕ) : Type 0 where
  pub field : List ℕ
  pub rest : drop at s ≡ field ++ drop e s
  pub place : at + length field ≡ e
  pub digits : AllDigits field
  pub value : digits_value 0 field ≡ some v

-- at most five, and no further digit follows fewer; k is the kind of the byte that follows, and past the text's end
-- there is none: `get_or` is 0 there, which is of no kind
pub record DigitsAt (s : List ℕ) (at v e k : ℕ) : Type 0 where
  pub follows : k ≡ kind_of (get_or s e 0)
  pub run : DigitsTo s at e v
  pub short : e ≤ at + digit_limit
  pub inside : e ≤ length s
  pub stopped : e < length s → kind_of (get_or s e 0) ≡ digit → e ≡ at + digit_limit

-- what ends a field of a line
abbrev pub Separator : ℕ → Type 0
Separator due = (due ≡ comma) ⊎ (due ≡ line_end)

-- a comma, a line end or nothing stands at place e
abbrev pub FieldEnds : List ℕ → ℕ → Type 0
FieldEnds s e = e < length s → (kind_of (get_or s e 0) ≡ comma) ⊎ (kind_of (get_or s e 0) ≡ line_end)

-- the digits from place `at` on and below place e are a field, and the first of several is not 0
pub record NumberShape (s : List ℕ) (at e : ℕ) : Type 0 where
  pub ends : FieldEnds s e
  pub one : at < e
  pub led : at + 1 < e → get_or s at 0 ≡ byte_zero → ⊥

-- the field at the front of a text: the bytes before the next comma or line end
unfoldable pub field_of : List ℕ → List ℕ
field_of [] = []
field_of (b ∷ bs) = cond (eqb (kind_of b) comma || eqb (kind_of b) line_end) [] (b ∷ field_of bs)

-- a byte of the kind `due` follows the field at a place
abbrev pub Followed : ℕ → List ℕ → ℕ → Type 0
Followed due s at = kind_of (get_or s (at + length (field_of (drop at s))) 0) ≡ due

-- what the digits at a place come to: they stand before a byte of the kind `due`; or the bytes up to such a byte, if
-- the field ends there, are no number
unfoldable pub DigitsFound : ℕ → List ℕ → ℕ → Option Digits → Type 0
DigitsFound due s at (Some digits) = DigitsAt s at digits.value digits.end due
DigitsFound due s at None = Followed due s at → number_of (field_of (drop at s)) ≡ none

-- The bytes from a place on, up to the next byte of the kind `due`, hold this number, and, if it is one, that byte
-- stands at place e. If it ends the field, this is what the field holds; else there are other bytes than digits before
-- it.
pub record NumberRead (bounds : Bounds) (due : ℕ) (s : List ℕ) (at : ℕ) (number : Result ℕ NumberFault) (e : ℕ)
    : Type 0 where
  pub read : Followed due s at → number_in bounds (field_of (drop at s)) ≡ number
  pub other : ¬ (Followed due s at) → number ≡ Err BadDigits
  pub place : (number ≡ Err BadDigits → ⊥) → e ≡ at + length (field_of (drop at s))
