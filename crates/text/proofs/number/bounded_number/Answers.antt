-- `bounded_number` leaves the decision to `within`; a number within its bounds fits 16 bits, as the bounds do.
use Rattle.std.proofs.Common.{arith, sym, ◌∙◌}
use Rattle.text.specs.Numbers.{bounded}
use Rattle.text.specs.Laws.DecidesLaws.{T_of_true}
use Rattle.text.specs.Laws.RangesLaws.{in_bounds?→lt}
use Rattle.text.proofs.number.bounded_number.Goals as goal

pub overflow_cast-result : goal.overflow_cast-result
overflow_cast-result c =
    let b = in_bounds?→lt _ _ (T_of_true _ (sym c.within.ensures ∙ c.if-within.true)) in
    omega arith

pub returns-then-within : goal.returns-then-within
unfolding bounded
returns-then-within c = rw (sym c.within.ensures ∙ c.if-within.true)

pub returns-else-within : goal.returns-else-within
unfolding bounded
returns-else-within c = rw (sym c.within.ensures ∙ c.if-within.false)
