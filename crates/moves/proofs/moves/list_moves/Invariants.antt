-- The lists have the moves of the states below p, and place `at` does not overtake the steps of p.
use Rattle.std.proofs.Common.{◌≤◌, get_or}
use Rattle.lts.specs.Weak.{LowStep}
use Rattle.model.specs.Inner.ModelOf.{model_of}
use Rattle.model.specs.System.{view}
use Rattle.by_state.specs.MoveList.{Ordered}
use Rattle.moves.specs.Inner.Listing.{ListedTo}
use Rattle.moves.proofs.moves.list_moves.Given as goal

abbrev pub invariant-loop-p : goal.invariant-loop-p
invariant-loop-p l = record {
  at_le : l.at ≤ get_or l.begins l.p 0;
  listed : ListedTo (LowStep (view (model_of l.store.store))) l.p l.at l.first l.actions l.targets;
  ordered : Ordered l.p l.first l.actions l.targets;
}
