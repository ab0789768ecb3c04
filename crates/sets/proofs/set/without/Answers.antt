-- Bit by bit, with the complement of b.
use native.Mathlib.Omega.{arith}
use Rattle.sets.specs.Laws.OperationsLaws.{set_of_without}
use Rattle.sets.proofs.set.without.Goals as goal

pub returns : goal.returns
returns c =
    set_of_without c.args.a c.args.b (omega arith) (omega arith)
