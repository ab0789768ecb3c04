-- The stores one after the other are those that `sets` computes to.
use Rattle.std.proofs.Common.{refl}
use Rattle.model.specs.Store.{head_row}
use Rattle.model.proofs.put.put_head.Goals as goal

pub returns : goal.returns
unfolding head_row
returns c = refl
