-- Sets that are made here are empty.
use Rattle.text.specs.Laws.ListLaws.{get_or-zeros}
use Rattle.sets.specs.Laws.SetsLaws.{empty-zeros}
use Rattle.held.specs.Held.{slots_length, pool_length}
use Rattle.held.specs.Laws.ZeroLaws.{separate_zero}
use Rattle.moves.specs.Laws.HoldingLaws.{low_held-zero}
use Rattle.moves.proofs.table.fill_plain_table.Goals as goal

pub rank_low-requires-clause-separate : goal.rank_low-requires-clause-separate
rank_low-requires-clause-separate c =
    let none = empty-zeros pool_length in (separate_zero (get_or-zeros slots_length) none, low_held-zero none)
