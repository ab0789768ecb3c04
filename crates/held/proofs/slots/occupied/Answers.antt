-- The set stands behind those of slots.
use Rattle.held.specs.Laws.PoolLaws.{set_of_number}
use Rattle.held.proofs.slots.occupied.Goals as goal

pub returns : goal.returns
returns c = set_of_number c.row_set.ensures c.set_at.ensures
