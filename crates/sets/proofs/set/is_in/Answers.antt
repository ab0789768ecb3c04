-- The bit of x in its word is tested.
use Prim.Native.Nat.{◌-◌, ◌/◌, ◌%◌, ◌^◌}
use native.Mathlib.Omega.{arith}
use Rattle.text.specs.Laws.DecidesLaws.{decides_eqb}
use Rattle.sets.specs.Inner.Sets.{word_bits}
use Rattle.sets.specs.Laws.SetValuesLaws.{in_of_word, word_of_in}
use Rattle.sets.proofs.set.is_in.Goals as goal

pub returns-then-x-lt-WORD_BITS : goal.returns-then-x-lt-WORD_BITS
returns-then-x-lt-WORD_BITS c =
    let l = c.if-x-lt-WORD_BITS.true in
    decides_eqb (c.args.a.0 / 2 ^ c.args.x % 2) 1
    (λ b. in_of_word 0 (omega arith) (omega arith) l b) (λ m. word_of_in 0 (omega arith) l m)

pub returns : goal.returns
returns c =
    decides_eqb (c.args.a.1 / 2 ^ (c.args.x - word_bits) % 2) 1
    (λ b. in_of_word 1 (omega arith) (omega arith) (omega arith) b)
    (λ m. word_of_in 1 (omega arith) (omega arith) m)
