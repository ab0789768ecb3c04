-- The set of the class before without that of the class after.
use Rattle.std.proofs.Common.{arith}
use Rattle.held.specs.Laws.PoolLaws.{set_of_number}
use Rattle.weak_books.specs.Laws.EnteringLaws.{separated_below-set}
use Rattle.weak_books.proofs.entering.separated_from.Goals as goal

pub set_at-requires : goal.set_at-requires
set_at-requires c =
    omega (arith, c.requires.class_sets.0.class_lt _ c.requires.p_lt_n.0, c.class_at-before.ensures)

pub set_at-requires-2 : goal.set_at-requires-2
set_at-requires-2 c =
    omega (arith, c.requires.class_sets.1.class_lt _ c.requires.p_lt_n.0, c.class_at-after.ensures)

pub returns : goal.returns
returns c =
    separated_below-set c.requires.class_sets.0 c.requires.class_sets.1 c.requires.p_lt_n.0
    (set_of_number c.class_at-before.ensures c.set_at.ensures)
    (set_of_number c.class_at-after.ensures c.set_at-2.ensures) c.without.ensures
