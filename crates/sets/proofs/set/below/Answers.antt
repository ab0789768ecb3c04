-- The numbers below x are in the set.
use native.Mathlib.Omega.{arith}
use Rattle.sets.specs.Laws.OperationsLaws.{set_of_next}
use Rattle.sets.specs.Laws.SetValuesLaws.{set_of-map}
use Rattle.sets.proofs.set.below.Goals as goal

pub loop-x-init : goal.loop-x-init
loop-x-init c =
    (omega arith, set_of-map (λ y b. absurd b) (λ y l. absurd (omega (arith, l))) c.none-set.ensures)

pub loop-x-preserved : goal.loop-x-preserved
loop-x-preserved c =
    let at = c.loop-x in
    (omega arith, set_of_next at.invariant.1 c.only.ensures c.either-set.ensures)

pub returns : goal.returns
returns c = set_of-map (λ y l. omega (arith, l)) (λ y l. omega (arith, l)) c.loop-x.invariant.1
