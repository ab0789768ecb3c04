-- Both words of set k are written.
use Rattle.sets.specs.Laws.SetValuesLaws.{set_put-words}
use Rattle.sets.proofs.set.put_set.Goals as goal

pub returns : goal.returns
returns c = set_put-words c.args.s c.requires
