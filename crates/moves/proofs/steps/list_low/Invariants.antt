-- The low actions below a are listed.
use Rattle.model.specs.Inner.ModelOf.{model_of}
use Rattle.moves.specs.Inner.Holding.{LowLabels}
use Rattle.moves.proofs.steps.list_low.Given as goal

abbrev pub invariant-loop-a : goal.invariant-loop-a
invariant-loop-a l = LowLabels (model_of l.store.store) l.a l.labels l.count
