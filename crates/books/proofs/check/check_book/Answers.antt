-- The groups are those of the moves, so the same books are sound.
use Rattle.std.proofs.lemmas.Grind.{merely}
use Rattle.books.specs.Laws.ChecksLaws.{check_done_same}
use Rattle.books.specs.Laws.GroupsLaws.{index_of_of_groups_at}
use Rattle.books.specs.Laws.StillLaws.{still_move_of_still, still_of_still_move}
use Rattle.books.proofs.check.check_book.Goals as goal

pub invariant_of-indexed-clause-grouped : goal.invariant_of-indexed-clause-grouped
invariant_of-indexed-clause-grouped c = merely (index_of_of_groups_at c.args.moves.now.listed c.index_moves.ensures)

pub returns : goal.returns
returns c =
    let listed = c.args.moves.now.listed in
    let index = index_of_of_groups_at listed c.index_moves.ensures in
    check_done_same (still_move_of_still listed index) (still_of_still_move listed index) c.check_entries.ensures
