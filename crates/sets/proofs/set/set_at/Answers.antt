-- Both words are those of set k.
use Rattle.sets.specs.Laws.SetValuesLaws.{set_of_at}
use Rattle.sets.proofs.set.set_at.Goals as goal

pub returns : goal.returns
returns c =
    set_of_at c.args.sets.now c.args.k
