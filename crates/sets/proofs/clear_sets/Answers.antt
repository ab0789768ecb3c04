-- All words are zero.
use Rattle.sets.specs.Laws.SetsLaws.{empty-zeros}
use Rattle.sets.proofs.clear_sets.Goals as goal

pub returns : goal.returns
returns c = empty-zeros 256
