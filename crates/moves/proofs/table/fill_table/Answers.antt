-- Where no action is silent no step is, and the ranks of the low steps are the ranks.
use Rattle.text.specs.Laws.DecidesLaws.{decides_false}
use Rattle.text.specs.Laws.ListLaws.{get_or-zeros}
use Rattle.sets.specs.Laws.SetsLaws.{empty-zeros}
use Rattle.held.specs.Held.{slots_length, pool_length}
use Rattle.held.specs.Laws.ZeroLaws.{pooled_zero, separate_zero}
use Rattle.moves.specs.Laws.HoldingLaws.{low_held-zero}
use Rattle.moves.specs.Laws.LabellingLaws.{no-tick}
use Rattle.moves.specs.Laws.LabelsLaws.{ranked_of_steps}
use Rattle.moves.proofs.table.fill_table.Goals as goal

pub fill_label_table-requires-clause-pooled : goal.fill_label_table-requires-clause-pooled
fill_label_table-requires-clause-pooled c = pooled_zero (get_or-zeros slots_length) (empty-zeros pool_length)

pub rank_low-requires-clause-separate : goal.rank_low-requires-clause-separate
rank_low-requires-clause-separate c =
    let none = empty-zeros pool_length in (separate_zero (get_or-zeros slots_length) none, low_held-zero none)

pub returns : goal.returns
returns c =
    let F = c.args.store.store.stored in
    ranked_of_steps F (no-tick F (decides_false _ _ c.some_silent.ensures c.if-some_silent.false)) c.rank_low.ensures
