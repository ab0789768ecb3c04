-- `head_fits` makes the tests of `head_fits?`, in their order.
use Rattle.std.proofs.Common.{◌≡◌, sym, ◌∙◌, ◌&&◌}
use Rattle.text.specs.Numbers.{from_to, below, in_bounds?}
use Rattle.text.specs.Limits.{state_limit, action_limit, step_limit}
use Rattle.text.specs.Lines.{head_bounds}
use Rattle.text.specs.Laws.RangesLaws.{tested, and_tested, and_failed, head_fits?-tests}
use Rattle.text.proofs.row.head_fits.Goals as goal
use Rattle.text.proofs.row.head_fits.Goals.{then-within, else-within, then-within-2, else-within-2}

pub returns-then-within-3 : goal.returns-then-within-3
unfolding head_bounds
returns-then-within-3 c =
    let h = c.args.h in
    let one = tested {b = from_to 1 state_limit} {n = h.states} c.head_bounds.ensures c.from.ensures c.within.ensures in
    let two : c.if-within.value
    ≡ (in_bounds? (from_to 1 state_limit) h.states && in_bounds? (from_to 1 action_limit) h.actions) =
    rw (← one) (elim c.if-within.branch [
      | then-within w ↦ and_tested w.if-within.true (w.value-is ∙ tested w.head_bounds-then-within.ensures
          w.from-then-within.ensures w.within-then-within.ensures)
      | else-within w ↦ and_failed _ w.if-within.false w.value-is
    ]) in
    let three : c.if-within-2.value
    ≡ (in_bounds? (from_to 1 state_limit) h.states && in_bounds? (from_to 1 action_limit) h.actions
    && in_bounds? (from_to 0 step_limit) h.steps) =
    rw (← two) (elim c.if-within-2.branch [
      | then-within-2 w ↦ and_tested w.if-within-2.true (w.value-is ∙ tested w.head_bounds-then-within-2.ensures
          w.from-then-within-2.ensures w.within-then-within-2.ensures)
      | else-within-2 w ↦ and_failed _ w.if-within-2.false w.value-is
    ]) in
    and_tested (sym three ∙ c.if-within-3.true) (tested c.head_bounds-then-within-3.ensures
    c.from-then-within-3.ensures c.within-then-within-3.ensures) ∙ head_fits?-tests h

pub returns-else-within-3 : goal.returns-else-within-3
unfolding head_bounds
returns-else-within-3 c =
    let h = c.args.h in
    let one = tested {b = from_to 1 state_limit} {n = h.states} c.head_bounds.ensures c.from.ensures c.within.ensures in
    let two : c.if-within.value
    ≡ (in_bounds? (from_to 1 state_limit) h.states && in_bounds? (from_to 1 action_limit) h.actions) =
    rw (← one) (elim c.if-within.branch [
      | then-within w ↦ and_tested w.if-within.true (w.value-is ∙ tested w.head_bounds-then-within.ensures
          w.from-then-within.ensures w.within-then-within.ensures)
      | else-within w ↦ and_failed _ w.if-within.false w.value-is
    ]) in
    let three : c.if-within-2.value
    ≡ (in_bounds? (from_to 1 state_limit) h.states && in_bounds? (from_to 1 action_limit) h.actions
    && in_bounds? (from_to 0 step_limit) h.steps) =
    rw (← two) (elim c.if-within-2.branch [
      | then-within-2 w ↦ and_tested w.if-within-2.true (w.value-is ∙ tested w.head_bounds-then-within-2.ensures
          w.from-then-within-2.ensures w.within-then-within-2.ensures)
      | else-within-2 w ↦ and_failed _ w.if-within-2.false w.value-is
    ]) in
    and_failed (in_bounds? (below h.states) h.start.0) (sym three ∙ c.if-within-3.false) three ∙ head_fits?-tests h
