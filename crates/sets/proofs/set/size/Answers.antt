-- A word has at most 64 ones.
use native.Mathlib.Omega.{arith}
use lib.Count.{ones-le}
use Rattle.sets.specs.Inner.Sets.{word_bits}
use Rattle.sets.proofs.set.size.Goals as goal

pub overflow_add-result : goal.overflow_add-result
overflow_add-result c =
    let a = c.args.a in
    let low = ones-le word_bits a.0 (omega arith) in
    let high = ones-le word_bits a.1 (omega arith) in
    omega (arith, low, high)
