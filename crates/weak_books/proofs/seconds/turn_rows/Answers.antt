-- The entries of the states below p are written.
use Rattle.std.proofs.Common.{arith}
use Rattle.weak_books.specs.Laws.TurnedLaws.{all_turned_none, all_turned_row, all_turned_to}
use Rattle.weak_books.proofs.seconds.turn_rows.Goals as goal

pub loop-p-init : goal.loop-p-init
loop-p-init c = (omega arith, all_turned_none _ (λ u v lu lv l h. omega (arith, l, h)))

pub turn_row-requires : goal.turn_row-requires
turn_row-requires c =
    (c.requires.0, c.loop-p-test.true, c.requires.1, omega (arith, c.loop-p.invariant.1.past.same_length, c.requires.2))

pub loop-p-preserved : goal.loop-p-preserved
loop-p-preserved c =
    let le = c.requires.0 in
    let inv = c.loop-p.invariant in
    (omega (arith, c.loop-p-test.true), all_turned_row c.loop-p.p le (omega arith) inv.1 c.turn_row.ensures)

pub shape_of-book : goal.shape_of-book
shape_of-book c = c.loop-p.invariant.1.past.same_length

pub returns : goal.returns
returns c = let inv = c.loop-p.invariant in all_turned_to (omega (arith, inv.0, c.loop-p-test.false)) inv.1
