-- The table is cleared, the rounds begin with all states in one class, and the table is filled from the tree that the
-- last of them leaves.
-- ---- places of the function
use Rattle.held.specs.Laws.ListedLaws.{held_list}
use Rattle.std.proofs.Common.{refl, ◌∙◌}
use Rattle.held.specs.Laws.HeldLaws.{held_move_game}
use Rattle.ranking.specs.Laws.RoundsLaws.{ranked_of_finished}
use Rattle.splitters.specs.Laws.PartitionLaws.{partition_of}
use Rattle.splitters.specs.Laws.RoundLaws.{rounds-zero, finished_of_last}
use Rattle.splitters.specs.Laws.StatesLaws.{partition_at}
use Rattle.splitters.proofs.rounds.rank_held.Goals as goal

pub rounds-last-requires-clause-rounds : goal.rounds-last-requires-clause-rounds
rounds-last-requires-clause-rounds c =
    let one = c.one_class-tree in (
      one.ensures.states,
      rounds-zero one.ensures.no_round one.ensures.zeros
          (partition_at one.ensures.states (partition_of one.result.parts.partition)),
    )

pub returns : goal.returns
returns c =
    let done = finished_of_last c.rounds-last.ensures.rounded refl c.rounds-last.ensures.separates
    c.fill_table.ensures.by_index c.fill_table.ensures.outside in
    ranked_of_finished (held_move_game (held_list c.args.moves)) (held_list c.args.moves).some_state
    (held_list c.args.moves).states_le c.clear.ensures done
    (c.fill_table.auto.table ∙ c.clear.ensures.past.same_length)
