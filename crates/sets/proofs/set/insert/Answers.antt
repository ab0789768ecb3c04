-- The word of x takes the bit of x.
use mathlib.Core.Path.{refl}
use Prim.Native.Nat.{◌+◌, ◌*◌, ◌/◌, ◌%◌, ◌<◌}
use native.Mathlib.Omega.{arith}
use lib.ListN.{length}
use Rattle.sets.specs.Inner.Sets.{word_bits}
use Rattle.sets.specs.Laws.BitsLaws.{one_shl}
use Rattle.sets.specs.Laws.SetsLaws.{joined_one}
use Rattle.sets.proofs.set.insert.Goals as goal

pub returns : goal.returns
returns c =
    let x = c.args.x in
    let l : 2 * c.args.k + x / word_bits < length c.args.sets.now = omega arith in
    rw (one_shl (x % word_bits) (omega arith)) (joined_one refl c.requires.1 l)
