-- The first bit of the first word, or else of the second.
use Prim.Native.Nat.{◌^◌, ◌<◌}
use native.Mathlib.Omega.{arith}
use Rattle.sets.specs.Inner.Sets.{word_bits}
use Rattle.sets.specs.Laws.EndsLaws.{first_bit_trailing, first_bit_lt, least-low, least-high}
use Rattle.sets.proofs.set.least.Goals as goal

pub overflow_cast-result : goal.overflow_cast-result
overflow_cast-result c =
    let a = c.args.a in
    let n = first_bit_trailing a.0 (omega arith) in
    omega (arith, n.first_le)

pub returns-then-a-ne0 : goal.returns-then-a-ne0
returns-then-a-ne0 c =
    let a = c.args.a in
    let fits : a.0 < 2 ^ word_bits = omega arith in
    let n = first_bit_trailing a.0 fits in
    least-low n (first_bit_lt fits c.if-a-ne0.true n)

pub overflow_cast-result-2 : goal.overflow_cast-result-2
overflow_cast-result-2 c =
    let a = c.args.a in
    let n = first_bit_trailing a.1 (omega arith) in
    omega (arith, n.first_le)

pub overflow_add-result : goal.overflow_add-result
overflow_add-result c =
    let a = c.args.a in
    let n = first_bit_trailing a.1 (omega arith) in
    omega (arith, n.first_le)

pub returns : goal.returns
returns c =
    let a = c.args.a in
    least-high c.if-a-ne0.false (first_bit_trailing a.1 (omega arith))
