-- The field at the front of a text, byte by byte, and the number that is read digit by digit at a place.
-- Document 01, "The text": "Numbers have 1 to 5 digits and no leading zero, except `0` itself." Assumes nothing.
use Rattle.std.proofs.Math.Bool.{or-true}
use Rattle.std.specs.Prelude.{List, [], ◌∷◌, ◌++◌, ◌⊎◌, ◌≡◌, refl, ℕ, ◌+◌, ◌-◌, ◌*◌, ◌≤◌, ◌<◌, eqb, length, drop}
use Rattle.std.specs.Prelude.{get_or, Option, Some, None}
use Rattle.std.proofs.Common.{append_assoc, append-nil, inl, inr, sym, ap, ◌∙◌, subst, arith, length-append}
use Rattle.std.proofs.Common.{drop_of_length-le, get_or-drop, eq-eqb, ne_eqb}
use Rattle.std.proofs.Math.Option.{none, some}
use Rattle.std.proofs.Math.ListN.{get_or-append, get_or-eq_default}
use Rattle.lts.proofs.TestsLaws.{lt_or_le}
use Rattle.text.specs.Bytes.{byte_zero, digit, comma, line_end, kind_of}
use Rattle.text.specs.Bytes as bytes
use Rattle.text.specs.Numbers.{digits_value, number_of}
use Rattle.text.specs.Inner.NumberAt.{AllDigits, DigitsTo, DigitsAt, Separator, FieldEnds, NumberShape}
use Rattle.text.specs.Inner.NumberAt.{field_of, Followed, DigitsFound}
use Rattle.text.specs.declared.number.Digits.{Digits}
use Rattle.text.specs.Laws.AllLaws.{all_append}
use Rattle.text.specs.Laws.DigitsLaws.{value-append}
use Rattle.text.specs.Laws.ListLaws.{drop_next}
use Rattle.text.specs.Laws.NumbersLaws.{digits_value-nil, digits_value-cons, digits_value_bad}
use Rattle.text.specs.Laws.NumbersLaws.{number_of-nil, number_of_long, number_of_one, number_of-zero, number_of_some}
use Rattle.text.specs.Laws.NumbersLaws.{number_of_bad}
use Rattle.text.specs.Laws.SplitLaws.{is, Is, same, other}

-- ---- the field at the front of a text

pub field_of-nil : field_of [] ≡ []
unfolding field_of
field_of-nil = refl

-- a comma or a line end
pub field_of-end : (b : ℕ) (bs : List ℕ) → (kind_of b ≡ comma) ⊎ (kind_of b ≡ line_end) → field_of (b ∷ bs) ≡ []
unfolding field_of
field_of-end b bs (inl h) = rw (eq-eqb (kind_of b) comma h)
field_of-end b bs (inr h) = rw (eq-eqb (kind_of b) line_end h, or-true (eqb (kind_of b) comma))

-- any other byte
pub field_of-cons : (b : ℕ) (bs : List ℕ) → (kind_of b ≡ comma → ⊥) → (kind_of b ≡ line_end → ⊥)
    → field_of (b ∷ bs) ≡ b ∷ field_of bs
unfolding field_of
field_of-cons b bs h l = rw (ne_eqb (kind_of b) comma h, ne_eqb (kind_of b) line_end l)

-- digits belong to the field that they begin
pub field_of-digits : (f rest : List ℕ) → AllDigits f → field_of (f ++ rest) ≡ f ++ field_of rest
field_of-digits [] rest h = refl
field_of-digits (b ∷ bs) rest h =
    let k = h.0 in
    field_of-cons b (bs ++ rest) (λ z. omega arith) (λ z. omega arith) ∙ ap (λ l. b ∷ l) (field_of-digits bs rest h.1)

-- the field at a place where one ends
pub field_of_ended : (s : List ℕ) (e : ℕ) → FieldEnds s e → field_of (drop e s) ≡ []
field_of_ended s e ends = go (lt_or_le e (length s))
  where
    go : (e < length s) ⊎ (length s ≤ e) → field_of (drop e s) ≡ []
    go (inl l) = ap field_of (drop_next s e l) ∙ field_of-end (get_or s e 0) (drop (e + 1) s) (ends l)
    go (inr g) = ap field_of (drop_of_length-le s {i = e} g) ∙ field_of-nil

-- whether a field ends at a place; where none does, the byte there is one of the field
pub data EndsAt (s : List ℕ) (e : ℕ) : Type 0 where
  ended : FieldEnds s e → EndsAt s e
  goes_on : e < length s → field_of (drop e s) ≡ get_or s e 0 ∷ field_of (drop (e + 1) s) → EndsAt s e

pub ends_at : (s : List ℕ) (e : ℕ) → EndsAt s e
ends_at s e = go (lt_or_le e (length s)) (is (kind_of (get_or s e 0)) comma) (is (kind_of (get_or s e 0)) line_end)
  where
    go : (e < length s) ⊎ (length s ≤ e) → Is (kind_of (get_or s e 0)) comma → Is (kind_of (get_or s e 0)) line_end
        → EndsAt s e
    go (inr g) c l = ended (λ h. absurd (omega arith))
    go (inl h) (same c) l = ended (λ z. inl c)
    go (inl h) (other c) (same l) = ended (λ z. inr l)
    go (inl h) (other c) (other l) = goes_on h (ap field_of (drop_next s e h) ∙ field_of-cons _ _ c l)

-- past the end of a text `get_or` is 0, which is of no kind
pub kind_past : (s : List ℕ) (e : ℕ) → length s ≤ e → kind_of (get_or s e 0) ≡ bytes.other
unfolding kind_of
kind_past s e g = ap kind_of (get_or-eq_default s 0 g)

-- so where a byte of a kind stands there is one
pub kind-inside : (s : List ℕ) (e k : ℕ) → kind_of (get_or s e 0) ≡ k → (k ≡ bytes.other → ⊥) → e < length s
kind-inside s e k h n = go (lt_or_le e (length s))
  where
    go : (e < length s) ⊎ (length s ≤ e) → e < length s
    go (inl l) = l
    go (inr g) = absurd (n (sym h ∙ kind_past s e g))

-- ---- digit by digit

pub digits_none : (s : List ℕ) (at : ℕ) → DigitsTo s at at 0
digits_none s at = record { field = []; rest = refl; place = omega arith; digits = tt; value = digits_value-nil 0 }

-- one more digit
pub digits_next : (s : List ℕ) (at e v : ℕ) → DigitsTo s at e v → e < length s → kind_of (get_or s e 0) ≡ digit
    → DigitsTo s at (e + 1) (v * 10 + (get_or s e 0 - byte_zero))
digits_next s at e v d h k =
    let b = get_or s e 0 in
    let n = length-append d.field (b ∷ []) in
    let p = d.place in
    record {
      field = d.field ++ (b ∷ []);
      rest = d.rest ∙ rw (drop_next s e h, append_assoc);
      place = omega arith;
      digits = all_append (λ x. kind_of x ≡ digit) d.field (b ∷ []) d.digits (k, tt);
      value = value-append d.field (b ∷ []) 0 v d.value ∙ digits_value-cons v b [] k ∙ digits_value-nil _;
    }

-- ---- the number of the field at a place

module _ (s : List ℕ) (at v e k : ℕ) (d : DigitsAt s at v e k) where
  abbrev f : List ℕ
  f = d.run.field

  -- the digits begin the field
  field_digits : field_of (drop at s) ≡ f ++ field_of (drop e s)
  field_digits = ap field_of d.run.rest ∙ field_of-digits f (drop e s) d.run.digits

  -- and are the whole field where it ends after them
  field_ended : FieldEnds s e → field_of (drop at s) ≡ f
  field_ended ends = field_digits ∙ ap (λ l. f ++ l) (field_of_ended s e ends) ∙ append-nil f

  first_digit : 0 < length f → get_or s at 0 ≡ get_or f 0 0
  first_digit h =
      let a : at + 0 ≡ at = omega arith in
      ap (λ i. get_or s i 0) (sym a) ∙ sym (get_or-drop at s 0 0) ∙ ap (λ l. get_or l 0 0) d.run.rest
      ∙ get_or-append f (drop e s) 0 0 h

  -- digits that are a field hold their value
  pub number_some : NumberShape s at e
      → (number_of (field_of (drop at s)) ≡ some v) × (e ≡ at + length (field_of (drop at s)))
  number_some shape =
      let w = field_ended shape.ends in
      let p = d.run.place in
      let n = ap length w in
      (ap number_of w ∙ go (lt_or_le 1 (length f)) ∙ d.run.value, omega arith)
    where
      go : (1 < length f) ⊎ (length f ≤ 1) → number_of f ≡ digits_value 0 f
      go (inl l) =
          let p = d.run.place in
          let m = d.short in
          let z = shape.led (omega arith) in
          number_of_some f l (omega arith) (λ x. z (first_digit (omega arith) ∙ x))
      go (inr g) = let p = d.run.place in let o = shape.one in number_of_one f (omega arith)

  -- digits that are no field, or of which the first of several is 0, are no number
  pub number_none : (NumberShape s at e → ⊥) → number_of (field_of (drop at s)) ≡ none
  number_none not-shape = by_end (ends_at s e)
    where
      by_led : FieldEnds s e → 1 < length f → Is (get_or s at 0) byte_zero → number_of f ≡ none
      by_led ends l (same z) = number_of-zero f l (sym (first_digit (omega arith)) ∙ z)
      by_led ends l (other z) =
          let p = d.run.place in
          absurd (not-shape (record { ends = ends; one = omega arith; led = λ h. z }))

      by_length : FieldEnds s e → (1 < length f) ⊎ (length f ≤ 1) → (0 < length f) ⊎ (length f ≤ 0)
          → number_of f ≡ none
      by_length ends (inl l) m = by_led ends l (is (get_or s at 0) byte_zero)
      by_length ends (inr g) (inl m) =
          let p = d.run.place in
          absurd (not-shape (record { ends = ends; one = omega arith; led = λ h. absurd (omega arith) }))
      by_length ends (inr g) (inr m) = number_of-nil f (omega arith)

      by_kind : e < length s → (bs : List ℕ) → Is (kind_of (get_or s e 0)) digit
          → number_of (f ++ (get_or s e 0 ∷ bs)) ≡ none
      by_kind h bs (same z) =
          let p = d.run.place in
          let five = d.stopped h z in
          let n = length-append f (get_or s e 0 ∷ bs) in
          number_of_long _ (omega arith)
      by_kind h bs (other z) =
          number_of_bad _ (value-append f (get_or s e 0 ∷ bs) 0 v d.run.value ∙ digits_value_bad v _ bs z)

      by_end : EndsAt s e → number_of (field_of (drop at s)) ≡ none
      by_end (ended ends) =
          ap number_of (field_ended ends) ∙ by_length ends (lt_or_le 1 (length f)) (lt_or_le 0 (length f))
      by_end (goes_on h w) =
          ap number_of (field_digits ∙ ap (λ l. f ++ l) w) ∙ by_kind h _ (is (kind_of (get_or s e 0)) digit)

  -- where the digits end the field, what follows them follows it
  pub digits_followed : FieldEnds s e → Followed k s at
  digits_followed ends =
      let p = d.run.place in
      let n = ap length (field_ended ends) in
      let z : at + length (field_of (drop at s)) ≡ e = omega arith in
      ap (λ i. kind_of (get_or s i 0)) z ∙ sym d.follows

  -- another byte follows them than is due
  pub number_other : (due : ℕ) → (k ≡ due → ⊥) → Followed due s at → number_of (field_of (drop at s)) ≡ none
  number_other due differs followed = by_end (ends_at s e)
    where
      by_end : EndsAt s e → number_of (field_of (drop at s)) ≡ none
      by_end (ended ends) = absurd (differs (sym (digits_followed ends) ∙ followed))
      by_end (goes_on h w) =
          number_none (λ shape. let n = ap length (sym w ∙ field_of_ended s e shape.ends) in omega arith)

-- a separator ends a field
pub separator-ends : (s : List ℕ) (e due : ℕ) → Separator due → due ≡ kind_of (get_or s e 0) → FieldEnds s e
separator-ends s e due (inl c) h l = inl (sym h ∙ c)
separator-ends s e due (inr c) h l = inr (sym h ∙ c)

pub separator_some : (due : ℕ) → Separator due → due ≡ bytes.other → ⊥
separator_some due (inl c) h = omega (arith, c, h)
separator_some due (inr c) h = omega (arith, c, h)

pub separator-digit : (due : ℕ) → Separator due → due ≡ digit → ⊥
separator-digit due (inl c) h = omega (arith, c, h)
separator-digit due (inr c) h = omega (arith, c, h)

-- what was found, by the answer
pub digits-found : (due : ℕ) (s : List ℕ) (at : ℕ) (r : Option Digits) {d : Digits} → r ≡ Some d
    → DigitsFound due s at r → DigitsAt s at d.value d.end due
unfolding DigitsFound
digits-found due s at r h f = subst (DigitsFound due s at) h f

pub digits_bad : (due : ℕ) (s : List ℕ) (at : ℕ) (r : Option Digits) → r ≡ None → DigitsFound due s at r
    → Followed due s at → number_of (field_of (drop at s)) ≡ none
unfolding DigitsFound
digits_bad due s at r h f = subst (DigitsFound due s at) h f
