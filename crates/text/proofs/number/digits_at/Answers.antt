-- `digits_at` takes up digit by digit: those passed stand from the place on, and the value of i digits is below 10 to
-- the i.
use Rattle.std.proofs.Common.{Bool, true, false, eqb, ◌≡◌, refl, sym, ◌∙◌, ℕ, ◌+◌, ◌-◌, ◌^◌, ◌≤◌, ◌<◌, arith, lit<, get_or}
use Rattle.std.proofs.lemmas.Bool.{eqb-true, eqb-false}
use Rattle.std.specs.Bool.{then_some}
use Rattle.std.proofs.Math.Nat.{pow-le-pow_right}
use Rattle.text.specs.Bytes.{digit, kind_of}
use Rattle.text.specs.Inner.NumberAt.{DigitsAt, DigitsFound}
use Rattle.text.specs.Laws.BytesLaws.{digit_within}
use Rattle.text.specs.Laws.NumbersLaws.{pow_next}
use Rattle.text.specs.Laws.NumberAtLaws.{kind_past, digits_none, digits_next, number_other, separator_some}
use Rattle.text.specs.Laws.NumberAtLaws.{separator-digit}
use Rattle.text.proofs.number.digits_at.Goals as goal
use Rattle.text.proofs.number.digits_at.Goals.{Else-i-at-ge-DIGIT_LIMIT}

-- the byte is a digit, and the value so far has four digits at most
at-digit : (c : Else-i-at-ge-DIGIT_LIMIT)
    → let b = get_or c.args.s.now c.loop-i.i 0 in
    (kind_of b ≡ digit) × (48 ≤ b) × (b ≤ 57) × (c.loop-i.value < 10000)
at-digit c =
    let b = get_or c.args.s.now c.loop-i.i 0 in
    let k : kind_of b ≡ digit = sym c.kind-k.ensures ∙ c.if-k-ne-DIGIT.false in
    let r = digit_within b k in
    let n : c.loop-i.i - c.args.at ≤ 4 = omega arith in
    let p : 10 ^ (c.loop-i.i - c.args.at) ≤ 10 ^ 4 = pow-le-pow_right (lit< tt) n in
    (k, r.0, r.1, omega arith)

pub loop-i-init : goal.loop-i-init
loop-i-init c =
    let z : c.args.at - c.args.at ≡ 0 = omega arith in
    record { short = omega arith; small = rw z (lit< tt); run = digits_none _ _ }

pub returns-then-k-ne-DIGIT : goal.returns-then-k-ne-DIGIT
unfolding DigitsFound
returns-then-k-ne-DIGIT c = rw c.then_some.ensures (go _ refl)
  where
    found : (k : ℕ) → k ≡ c.kind-k.result → DigitsAt c.args.s.now c.args.at c.loop-i.value c.loop-i.i k
    found k e =
        let i = c.loop-i.invariant in
        record {
          follows = e ∙ c.kind-k.ensures;
          run = i.run;
          short = i.short;
          inside = omega arith;
          stopped = λ h z. absurd (c.if-k-ne-DIGIT.true (c.kind-k.ensures ∙ z));
        }

    go : (t : Bool) → eqb c.kind-k.result c.args.due ≡ t
        → DigitsFound c.args.due c.args.s.now c.args.at
        (then_some t (record { value = c.loop-i.value; end = c.loop-i.i }))
    go true t = found _ (sym (eqb-true _ _ t))
    go false t = number_other _ _ _ _ _ (found _ refl) _ (eqb-false _ _ t)

pub returns-then-i-at-ge-DIGIT_LIMIT : goal.returns-then-i-at-ge-DIGIT_LIMIT
unfolding DigitsFound
returns-then-i-at-ge-DIGIT_LIMIT c =
    let i = c.loop-i.invariant in
    number_other _ _ _ _ _ (record {
      follows = c.kind-k.ensures;
      run = i.run;
      short = i.short;
      inside = omega arith;
      stopped = λ h z. omega arith;
    }) _ (λ z. separator-digit _ c.requires.1 (sym z ∙ c.if-k-ne-DIGIT.false))

pub overflow_mul-value : goal.overflow_mul-value
overflow_mul-value c = omega (arith, at-digit c)

pub overflow_sub-b : goal.overflow_sub-b
overflow_sub-b c = (at-digit c).1

pub overflow_add-value : goal.overflow_add-value
overflow_add-value c = omega (arith, at-digit (goal.at.overflow_add-value c).Else-i-at-ge-DIGIT_LIMIT)

pub loop-i-preserved : goal.loop-i-preserved
loop-i-preserved c =
    let a = c.args in
    let d = at-digit (goal.at.loop-i-preserved c).Else-i-at-ge-DIGIT_LIMIT in
    let s = pow_next (c.loop-i.i - a.at) in
    let e : c.loop-i.i + 1 - a.at ≡ c.loop-i.i - a.at + 1 = omega arith in record {
      short = omega arith;
      small = rw e (omega (arith, d));
      run = rw c.from.ensures (digits_next _ _ _ _ c.loop-i.invariant.run c.loop-i-test.true d.0);
    }

pub returns : goal.returns
unfolding DigitsFound
returns c =
    let i = c.loop-i.invariant in
    number_other _ _ _ _ _ (record {
      follows = sym (kind_past c.args.s.now c.loop-i.i (omega arith));
      run = i.run;
      short = i.short;
      inside = omega arith;
      stopped = λ h z. absurd (omega arith);
    }) _ (λ z. separator_some _ c.requires.1 (sym z))
