-- The words fall with each member.
use Rattle.sets.specs.Laws.WalkLaws.{pop_goes}
use Rattle.sets.proofs.set.MembersIterator.next.Goals as goal

pub returns-clause-goes : goal.returns-clause-goes
returns-clause-goes c = pop_goes c.pop.result c.pop.ensures
