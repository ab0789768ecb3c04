-- The low steps of p up to j stand in the lists; place `at` does not overtake j.
use Rattle.std.proofs.Common.{◌≤◌}
use Rattle.model.specs.Inner.ModelOf.{model_of}
use Rattle.by_state.specs.MoveList.{Rising}
use Rattle.moves.specs.Inner.Listing.{Appended, Among, LowAs}
use Rattle.moves.proofs.moves.list_state.Given as goal

abbrev pub invariant-loop-j : goal.invariant-loop-j
invariant-loop-j l = record {
  at_le : l.at ≤ l.j;
  appended : Appended (Among (LowAs (model_of l.store.store)) l.initial.j l.j) l.from l.at l.initial.actions
      l.initial.targets l.actions l.targets;
  rising : Rising l.from l.at l.actions l.targets;
}
