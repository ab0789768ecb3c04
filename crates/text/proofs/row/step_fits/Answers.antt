-- `step_fits` makes the tests of `step_fits?`, in their order.
use Rattle.std.proofs.Common.{◌≡◌, sym, ◌∙◌, ◌&&◌}
use Rattle.text.specs.Numbers.{below, in_bounds?}
use Rattle.text.specs.Lines.{step_bounds}
use Rattle.text.specs.Laws.RangesLaws.{tested, and_tested, and_failed, step_fits?-tests}
use Rattle.text.proofs.row.step_fits.Goals as goal
use Rattle.text.proofs.row.step_fits.Goals.{then-within, else-within}

pub returns-then-within-2 : goal.returns-then-within-2
unfolding step_bounds
returns-then-within-2 c =
    let h = c.args.head in
    let s = c.args.s in
    let one = tested {b = below h.states} {n = s.source.0} c.step_bounds.ensures c.from.ensures c.within.ensures in
    let two : c.if-within.value ≡ (in_bounds? (below h.states) s.source.0 && in_bounds? (below h.actions) s.action.0) =
    rw (← one) (elim c.if-within.branch [
      | then-within w ↦ and_tested w.if-within.true (w.value-is ∙ tested w.step_bounds-then-within.ensures
          w.from-then-within.ensures w.within-then-within.ensures)
      | else-within w ↦ and_failed _ w.if-within.false w.value-is
    ]) in
    and_tested (sym two ∙ c.if-within-2.true) (tested c.step_bounds-then-within-2.ensures
    c.from-then-within-2.ensures c.within-then-within-2.ensures) ∙ step_fits?-tests h s

pub returns-else-within-2 : goal.returns-else-within-2
unfolding step_bounds
returns-else-within-2 c =
    let h = c.args.head in
    let s = c.args.s in
    let one = tested {b = below h.states} {n = s.source.0} c.step_bounds.ensures c.from.ensures c.within.ensures in
    let two : c.if-within.value ≡ (in_bounds? (below h.states) s.source.0 && in_bounds? (below h.actions) s.action.0) =
    rw (← one) (elim c.if-within.branch [
      | then-within w ↦ and_tested w.if-within.true (w.value-is ∙ tested w.step_bounds-then-within.ensures
          w.from-then-within.ensures w.within-then-within.ensures)
      | else-within w ↦ and_failed _ w.if-within.false w.value-is
    ]) in
    and_failed (in_bounds? (below h.states) s.target.0) (sym two ∙ c.if-within-2.false) two ∙ step_fits?-tests h s
