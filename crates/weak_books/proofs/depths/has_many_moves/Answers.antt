-- No label before the i-th is one with which a state has many moves.
use Rattle.held.specs.Laws.ListedLaws.{held_list}
use native.Mathlib.Omega.{arith}
use lib.ListN.{get_or}
use borrow.Author.Count.{below_more}
use Rattle.text.specs.Laws.DecidesLaws.{decides_true, decides_false}
use Rattle.weak_books.specs.Inner.ManyMoves.{ManyMoves}
use Rattle.weak_books.proofs.depths.has_many_moves.Goals as goal

pub loop-i-init : goal.loop-i-init
loop-i-init c = (omega arith, λ j l. absurd (omega (arith, l)))

pub has_many_moves_with-requires : goal.has_many_moves_with-requires
has_many_moves_with-requires c =
    (held_list c.args.moves).label c.loop-i.i c.loop-i-test.true

pub returns-then-has_many_moves_with : goal.returns-then-has_many_moves_with
returns-then-has_many_moves_with c =
    record {
      number = c.loop-i.i;
      number_lt = c.loop-i-test.true;
      many = decides_true c.has_many_moves_with.result _ c.has_many_moves_with.ensures c.if-has_many_moves_with.true;
    }

pub loop-i-preserved : goal.loop-i-preserved
loop-i-preserved c =
    let a = c.args in (
      omega (arith, c.loop-i-test.true),
      below_more (λ j. ¬ (ManyMoves a.moves.slots.now a.moves.pool.now (get_or a.moves.labels.now j 0))) c.loop-i.i
          c.loop-i.invariant.1 (decides_false c.has_many_moves_with.result _ c.has_many_moves_with.ensures
          c.if-has_many_moves_with.false),
    )

pub returns : goal.returns
returns c w =
    c.loop-i.invariant.1 w.number (omega (arith, w.number_lt, c.loop-i-test.false)) w.many
