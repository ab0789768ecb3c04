-- Bit by bit.
use Rattle.sets.specs.Laws.OperationsLaws.{set_of_both}
use Rattle.sets.proofs.set.both.Goals as goal

pub returns : goal.returns
returns c =
    set_of_both c.args.a c.args.b
