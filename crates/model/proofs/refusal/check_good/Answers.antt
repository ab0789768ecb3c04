-- A good store of full length holds a model.
use Rattle.model.proofs.Laws.System.GoodStoredLaws.{good→Stored}
use Rattle.model.proofs.refusal.check_good.Goals as goal

pub returns-then-good : goal.returns-then-good
returns-then-good c = (c.if-good.ensures, good→Stored _ c.requires c.if-good.ensures)
