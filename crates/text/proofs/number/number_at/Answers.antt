-- `number_at` reads the digits, and they are a number where they have a number's shape.
use Rattle.std.proofs.Common.{refl, sym, ap, ◌∙◌, arith}
use Rattle.text.specs.Numbers.{bounded, number_in}
use Rattle.text.specs.Inner.NumberAt.{DigitsAt, DigitsFound, FieldEnds}
use Rattle.text.specs.Laws.NumberAtLaws.{number_some, number_none, digits_followed, separator-ends}
use Rattle.text.specs.Laws.NumberAtLaws.{digits_bad}
use Rattle.text.proofs.number.number_at.Goals as goal
use Rattle.text.proofs.number.number_at.Goals.{In-Some}

-- the digits that were found
found : (c : In-Some) → let a = c.args in
    DigitsAt a.s.now a.at c.in-Some.field-0.value c.in-Some.field-0.end a.due
unfolding DigitsFound
found c = c.in-Some.ensures

ends : (c : In-Some) → FieldEnds c.args.s.now c.in-Some.field-0.end
ends c = separator-ends _ _ c.args.due c.requires.1 (found c).follows

pub is_number-requires : goal.is_number-requires
is_number-requires c = let d = found c in let p = d.run.place in (omega arith, d.inside, ends c)

pub returns-in-Some : goal.returns-in-Some
unfolding number_in
returns-in-Some c =
    let d = found (goal.at.returns-in-Some c).In-Some in
    let w = number_some _ _ _ _ _ d c.if-is_number.ensures in
    record {
      read = λ followed. ap (bounded _) w.0 ∙ sym c.bounded_number.ensures;
      other = λ z. absurd (z (digits_followed _ _ _ _ _ d (ends (goal.at.returns-in-Some c).In-Some)));
      place = λ z. w.1;
    }

pub returns-in_default : goal.returns-in_default
unfolding bounded number_in
returns-in_default c =
    let d = found (goal.at.returns-in_default c).In-Some in
    record {
      read = λ followed. ap (bounded _) (number_none _ _ _ _ _ d c.if-is_number.ensures);
      other = λ z. refl;
      place = λ z. absurd (z refl);
    }

pub returns-in_default-2 : goal.returns-in_default-2
unfolding bounded number_in
returns-in_default-2 c =
    record {
      read = λ followed. ap (bounded _) (digits_bad _ _ _ _ c.in_default.is c.digits_at.ensures followed);
      other = λ z. refl;
      place = λ z. absurd (z refl);
    }
