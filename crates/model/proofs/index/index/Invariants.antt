-- The index is right up to q, and `from` is where the steps of q begin.
use Rattle.model.specs.StoredModel.{model_at}
use Rattle.model.specs.Inner.Index.{Begins, Index}
use Rattle.model.proofs.index.index.Given as goal

abbrev pub invariant-loop-q : goal.invariant-loop-q
invariant-loop-q l = Begins (model_at l.store.places.now) l.q l.from × Index (model_at l.store.places.now) l.q l.begins
