-- The low steps are the moves that are held, so their ranks are the ranks.
use Rattle.std.proofs.lemmas.Grind.{merely}
use Rattle.splitters.specs.Laws.HeldRanksLaws.{ranked_of_held}
use Rattle.moves.specs.Laws.HeldStepsLaws.{held_list_at, ranked_at}
use Rattle.moves.proofs.table.rank_low.Goals as goal

pub invariant_of-moves : goal.invariant_of-moves
invariant_of-moves c = record { held = merely (held_list_at c.states-n.ensures c.hold_low-count.ensures.held_list) }

pub returns : goal.returns
returns c = ranked_at c.states-n.ensures (ranked_of_held c.hold_low-count.ensures.held_as c.rank_held.ensures)
