-- The moves made of the lists by label are the moves that are played, so their ranks are the ranks, held or not.
use Rattle.splitters.specs.Laws.HeldRanksLaws.{ranked_of_held}
use Rattle.moves.specs.Laws.LabelsLaws.{ranked_of_labels}
use Rattle.moves.proofs.table.fill_label_table.Goals as goal

pub returns-in_default : goal.returns-in_default
returns-in_default c = ranked_of_labels c.list_labels.ensures c.states-n.ensures c.rank_labels.ensures

pub returns : goal.returns
returns c =
    ranked_of_labels c.list_labels.ensures c.states-n.ensures
    (ranked_of_held c.in-Some.ensures.held_as c.rank_held.ensures)
