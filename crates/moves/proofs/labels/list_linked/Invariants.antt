-- The lists have the steps of the labels below `label`, each placed only once.
use Rattle.model.specs.Inner.ModelOf.{model_of}
use Rattle.moves.specs.Inner.Listing.{ListedTo}
use Rattle.moves.specs.Inner.Labelling.{Labelled, PlacedTo}
use Rattle.moves.proofs.labels.list_linked.Given as goal

abbrev pub invariant-loop-label : goal.invariant-loop-label
invariant-loop-label l = record {
  listed : ListedTo (Labelled (model_of l.store)) l.label l.at l.from l.sources l.targets;
  placed : PlacedTo (model_of l.store) l.label 0 l.at;
}
