-- The entries of the states below p are written.
use Rattle.std.proofs.Common.{arith}
use Rattle.books.specs.Laws.RowsLaws.{entries_filled_zero, entries_filled_suc, entries_filled_at, rows_empty}
use Rattle.books.proofs.book.fill_rows.Goals as goal

pub loop-p-init : goal.loop-p-init
loop-p-init c = entries_filled_zero _

pub fill_row-requires : goal.fill_row-requires
fill_row-requires c =
    let inv = c.loop-p.invariant in
    let l = c.loop-p-test.true in
    record {
      ordered = c.requires.ordered;
      ranks = c.requires.ranks;
      p_lt_n = (l, omega (arith, inv.past.same_length, c.requires.book_length_in_bounds));
      row_empty = rows_empty c.args.indexed.listed.states_le c.requires.book_empty l inv;
    }

pub loop-p-preserved : goal.loop-p-preserved
loop-p-preserved c =
    entries_filled_suc c.args.indexed.listed.states_le c.loop-p.invariant c.fill_row.ensures

pub returns : goal.returns
returns c = entries_filled_at (omega (arith, c.loop-p-test.false)) c.loop-p.invariant
