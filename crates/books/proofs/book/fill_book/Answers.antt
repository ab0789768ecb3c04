-- Each entry of the cleared book is written, by the index of the moves.
use Rattle.std.proofs.Common.{arith}
use Rattle.std.proofs.lemmas.Grind.{merely}
use Rattle.books.specs.Laws.GroupsLaws.{index_of_of_groups_at}
use Rattle.books.specs.Laws.RowsLaws.{empty_of_cleared, book_filled}
use Rattle.books.proofs.book.fill_book.Goals as goal

pub fill_rows-requires : goal.fill_rows-requires
fill_rows-requires c =
    record {
      ordered = c.args.moves.now.ordered;
      ranks = c.requires.ranks;
      book_length_in_bounds = omega (arith, c.clear.ensures.past.same_length, c.requires.book_length_in_bounds);
      book_empty = empty_of_cleared c.clear.ensures;
    }

pub invariant_of-indexed-clause-grouped : goal.invariant_of-indexed-clause-grouped
invariant_of-indexed-clause-grouped c = merely (index_of_of_groups_at c.args.moves.now.listed c.index_moves.ensures)

pub returns : goal.returns
returns c = book_filled c.args.moves.now.listed.states_le c.clear.ensures c.fill_rows.ensures
