-- With the same slot, each target of p is one of q.
use Rattle.weak_books.specs.Laws.FirstApartLaws.{lowest_to_same_slot}
use Rattle.weak_books.proofs.apart.lowest_apart.Goals as goal

pub returns-then-same_slot : goal.returns-then-same_slot
returns-then-same_slot c =
    let a = c.args in
    lowest_to_same_slot a.moves.slots.now a.moves.pool.now a.class.now a.row a.p.0 a.q.0
    c.if-same_slot.ensures

pub returns : goal.returns
returns c = c.lowest_by_class.ensures
