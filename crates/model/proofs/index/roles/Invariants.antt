-- The list has the levels of the actions up to a.
use Rattle.std.proofs.Common.{◌≡◌, ℕ, ◌<◌, get_or}
use Rattle.model.specs.StoredModel.{model_at}
use Rattle.model.specs.System.{level}
use Rattle.model.proofs.index.roles.Given as goal

abbrev pub invariant-loop-a : goal.invariant-loop-a
invariant-loop-a l = (b : ℕ) → b < l.a → get_or l.out b 0 ≡ level (model_at l.store.places.now) b
