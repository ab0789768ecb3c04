-- Places that are good have all that is kept of a good store.
use Rattle.text.specs.Laws.DecidesLaws.{decides_true}
use Rattle.model.proofs.Laws.System.GoodStoredLaws.{good→Stored}
use Rattle.model.proofs.good_store.GoodStore.new.Goals as goal

pub invariant_of-result : goal.invariant_of-result
invariant_of-result c = record { stored = good→Stored _ c.requires (decides_true _ _ c.good.ensures c.if-good.true) }
