-- The steps with this label before j stand in the lists, each placed only once; step j is the next with it.
use Rattle.std.proofs.Common.{◌≤◌, ◌<◌, ◌-◌}
use Rattle.model.specs.Inner.ModelOf.{model_of}
use Rattle.moves.specs.Inner.Listing.{Appended, Among}
use Rattle.moves.specs.Inner.Labelling.{StepLabel, LabelledAs, PlacedTo}
use Rattle.moves.proofs.labels.list_label.Given as goal

abbrev pub invariant-loop-j : goal.invariant-loop-j
invariant-loop-j l = record {
  number_le : l.j ≤ l.n;
  has_label : l.j < l.n → StepLabel (model_of l.store) l.label l.j;
  appended : Appended (Among (LabelledAs (model_of l.store) l.label) 0 l.j) l.begin l.at l.initial.sources
      l.initial.targets l.sources l.targets;
  placed : PlacedTo (model_of l.store) l.label l.j l.at;
}

abbrev pub decreases-loop-j : goal.decreases-loop-j
decreases-loop-j l = l.n - l.j
