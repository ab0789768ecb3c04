-- The value of digits, byte by byte, and the number of a field, by the field's shape.
-- Document 01, "The text": "Numbers have 1 to 5 digits and no leading zero, except `0` itself." Assumes nothing.
use Rattle.std.specs.Prelude.{Bool, true, false, cond, List, [], ◌∷◌, ◌≡◌, refl, ℕ, ◌+◌, ◌-◌, ◌*◌, ◌^◌, ◌≤◌, ◌<◌, leb}
use Rattle.std.specs.Prelude.{length, get_or}
use Rattle.std.proofs.Math.Option.{Option, none, some}
use Rattle.std.proofs.Common.{pow-suc, add-one, arith, le-leb, eq-eqb, ne_eqb}
use Rattle.std.proofs.lemmas.Bool.{lt-leb}
use Rattle.text.specs.Limits.{digit_limit}
use Rattle.text.specs.Bytes.{byte_zero, digit, kind_of}
use Rattle.text.specs.Numbers.{digits_value, number_shape?, number_of}
use Rattle.text.specs.Laws.SameLaws.{and-false}

pub pow_next : (i : ℕ) → 10 ^ (i + 1) ≡ 10 * 10 ^ i
pow_next i = rw (add-one, pow-suc) (omega arith)

pub digits_value-nil : (v : ℕ) → digits_value v [] ≡ some v
unfolding digits_value
digits_value-nil v = refl

pub digits_value-cons : (v b : ℕ) (bs : List ℕ) → kind_of b ≡ digit
    → digits_value v (b ∷ bs) ≡ digits_value (v * 10 + (b - byte_zero)) bs
unfolding digits_value
digits_value-cons v b bs h = rw (eq-eqb (kind_of b) digit h)

pub digits_value_bad : (v b : ℕ) (bs : List ℕ) → (kind_of b ≡ digit → ⊥) → digits_value v (b ∷ bs) ≡ none
unfolding digits_value
digits_value_bad v b bs h = rw (ne_eqb (kind_of b) digit h)

-- a byte that is no digit
pub number_of_bad : (f : List ℕ) → digits_value 0 f ≡ none → number_of f ≡ none
unfolding number_of
number_of_bad f h = rw h (either (number_shape? f))
  where
    either : (t : Bool) → ◌≡◌ {A = Option ℕ} (cond t none none) none
    either true = refl
    either false = refl

pub number_of-nil : (f : List ℕ) → length f ≡ 0 → number_of f ≡ none
unfolding number_of number_shape?
number_of-nil [] h = refl
number_of-nil (b ∷ bs) h = absurd (omega arith)

pub number_of_long : (f : List ℕ) → digit_limit < length f → number_of f ≡ none
unfolding number_of number_shape?
number_of_long [] h = absurd (omega arith)
number_of_long (b ∷ []) h = absurd (omega arith)
number_of_long (b ∷ c ∷ bs) h = rw (lt-leb (length (b ∷ c ∷ bs)) digit_limit h)

pub number_of_one : (f : List ℕ) → length f ≡ 1 → number_of f ≡ digits_value 0 f
unfolding number_of number_shape?
number_of_one [] h = absurd (omega arith)
number_of_one (b ∷ []) h = refl
number_of_one (b ∷ c ∷ bs) h = absurd (omega arith)

-- 0 before other digits
pub number_of-zero : (f : List ℕ) → 1 < length f → get_or f 0 0 ≡ byte_zero → number_of f ≡ none
unfolding number_of number_shape?
number_of-zero [] h z = absurd (omega arith)
number_of-zero (b ∷ []) h z = absurd (omega arith)
number_of-zero (b ∷ c ∷ bs) h z = rw (eq-eqb b byte_zero z, and-false (leb (length (b ∷ c ∷ bs)) digit_limit))

pub number_of_some : (f : List ℕ) → 1 < length f → length f ≤ digit_limit → (get_or f 0 0 ≡ byte_zero → ⊥)
    → number_of f ≡ digits_value 0 f
unfolding number_of number_shape?
number_of_some [] h l z = absurd (omega arith)
number_of_some (b ∷ []) h l z = absurd (omega arith)
number_of_some (b ∷ c ∷ bs) h l z = rw (le-leb (length (b ∷ c ∷ bs)) digit_limit l, ne_eqb b byte_zero z)
