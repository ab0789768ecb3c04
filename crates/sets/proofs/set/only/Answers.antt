-- The word of x has the bit of x alone.
use Prim.Native.Nat.{◌-◌, ◌<◌}
use native.Mathlib.Omega.{arith}
use Rattle.sets.specs.Inner.Sets.{word_bits}
use Rattle.sets.specs.Laws.BitsLaws.{one_shl}
use Rattle.sets.specs.Laws.OperationsLaws.{set_of-low, set_of-high}
use Rattle.sets.proofs.set.only.Goals as goal

pub returns-then-x-lt-WORD_BITS : goal.returns-then-x-lt-WORD_BITS
returns-then-x-lt-WORD_BITS c =
    let x = c.args.x in
    rw (one_shl x c.if-x-lt-WORD_BITS.true) (set_of-low x c.if-x-lt-WORD_BITS.true)

pub returns : goal.returns
returns c =
    let x = c.args.x in
    let l : x - word_bits < word_bits = omega arith in
    rw (one_shl (x - word_bits) l) (set_of-high x c.if-x-lt-WORD_BITS.false c.requires)
