-- Both words are zero.
use Rattle.sets.specs.Laws.OperationsLaws.{set_of_none}
use Rattle.sets.proofs.set.none.Goals as goal

pub returns : goal.returns
returns c = set_of_none
