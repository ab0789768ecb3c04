-- The entries of p and the states below q are written.
use Rattle.std.proofs.Common.{arith}
use Rattle.books.specs.Laws.RowsLaws.{row_filled_zero, row_filled_suc, row_filled_at, row_empty}
use Rattle.books.proofs.book.fill_row.Goals as goal

pub loop-q-init : goal.loop-q-init
loop-q-init c = row_filled_zero _

pub fill_pair-requires : goal.fill_pair-requires
fill_pair-requires c =
    let inv = c.loop-q.invariant in
    let l = c.loop-q-test.true in
    record {
      ordered = c.requires.ordered;
      ranks = c.requires.ranks;
      p_lt_n = (c.requires.p_lt_n.0, l, omega (arith, inv.past.same_length, c.requires.p_lt_n.1));
      q_value = row_empty c.requires.row_empty l inv;
    }

pub loop-q-preserved : goal.loop-q-preserved
loop-q-preserved c = row_filled_suc c.loop-q.invariant c.fill_pair.ensures

pub returns : goal.returns
returns c = row_filled_at (omega (arith, c.loop-q-test.false)) c.loop-q.invariant
