-- No word has a bit.
use lib.Bits.{bit_or}
use native.Mathlib.Omega.{arith}
use Rattle.text.specs.Laws.DecidesLaws.{decides_eqb}
use Rattle.sets.specs.Laws.SetValuesLaws.{none_of_or, or_of_none}
use Rattle.sets.proofs.set.is_empty.Goals as goal

pub returns : goal.returns
returns c =
    decides_eqb (bit_or c.args.a.0 c.args.a.1) 0 none_of_or (or_of_none (omega arith) (omega arith))
