-- Bit by bit.
use Rattle.sets.specs.Laws.OperationsLaws.{set_of_either}
use Rattle.sets.proofs.set.either.Goals as goal

pub returns : goal.returns
returns c =
    set_of_either c.args.a c.args.b
