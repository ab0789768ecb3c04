-- The last bit of the second word, or else of the first.
use native.Mathlib.Omega.{arith}
use Rattle.sets.specs.Laws.EndsLaws.{leading_lt, greatest-high, greatest-low, greatest_none}
use Rattle.sets.proofs.set.greatest.Goals as goal

pub overflow_cast-result : goal.overflow_cast-result
overflow_cast-result c =
    let a = c.args.a in
    omega (arith, leading_lt a.1 (omega arith) c.if-a-ne0.true)

pub overflow_sub-result : goal.overflow_sub-result
overflow_sub-result c =
    let a = c.args.a in
    omega (arith, leading_lt a.1 (omega arith) c.if-a-ne0.true)

pub returns-then-a-ne0 : goal.returns-then-a-ne0
returns-then-a-ne0 c = greatest-high (omega arith) c.if-a-ne0.true

pub overflow_cast-result-then-a-ne0-2 : goal.overflow_cast-result-then-a-ne0-2
overflow_cast-result-then-a-ne0-2 c =
    let a = c.args.a in
    omega (arith, leading_lt a.0 (omega arith) c.if-a-ne0-2.true)

pub overflow_sub-result-then-a-ne0-2 : goal.overflow_sub-result-then-a-ne0-2
overflow_sub-result-then-a-ne0-2 c =
    let a = c.args.a in
    omega (arith, leading_lt a.0 (omega arith) c.if-a-ne0-2.true)

pub returns-then-a-ne0-2 : goal.returns-then-a-ne0-2
returns-then-a-ne0-2 c =
    greatest-low c.if-a-ne0.false (omega arith) c.if-a-ne0-2.true

pub returns : goal.returns
returns c = greatest_none c.if-a-ne0.false c.if-a-ne0-2.false
