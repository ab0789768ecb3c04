-- The steps from step j on are linked.
use Rattle.model.specs.Inner.ModelOf.{model_of}
use Rattle.moves.specs.Inner.Labelling.{Linked}
use Rattle.moves.proofs.labels.link_steps.Given as goal

abbrev pub invariant-loop-j : goal.invariant-loop-j
invariant-loop-j l = Linked (model_of l.store.store) l.j l.heads l.nexts
