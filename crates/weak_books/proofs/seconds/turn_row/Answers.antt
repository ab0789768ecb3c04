-- The entries before that of p and q are written.
use Rattle.std.proofs.Common.{arith}
use Rattle.weak_books.specs.Laws.TurnedLaws.{all_turned_none, all_turned_then, all_turned_pair, all_turned_to}
use Rattle.weak_books.proofs.seconds.turn_row.Goals as goal

pub loop-q-init : goal.loop-q-init
loop-q-init c = (omega arith, all_turned_none _ (λ u v lu lv l h. omega (arith, l, h)))

pub turn_pair-requires : goal.turn_pair-requires
turn_pair-requires c =
    let l = c.loop-q-test.true in (
      omega (arith, c.requires.0, c.requires.1),
      omega (arith, c.requires.0, l),
      c.requires.2,
      omega (arith, c.loop-q.invariant.1.past.same_length, c.requires.3),
    )

pub loop-q-preserved : goal.loop-q-preserved
loop-q-preserved c =
    let l = c.loop-q-test.true in (
      omega (arith, l),
      all_turned_then (omega arith) (omega arith) c.loop-q.invariant.1
          (all_turned_pair c.requires.0 c.requires.1 l c.turn_pair.ensures),
    )

pub shape_of-book : goal.shape_of-book
shape_of-book c = c.loop-q.invariant.1.past.same_length

pub returns : goal.returns
returns c = let inv = c.loop-q.invariant in all_turned_to (omega (arith, inv.0, c.loop-q-test.false)) inv.1
