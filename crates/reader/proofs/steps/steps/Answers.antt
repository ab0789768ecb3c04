-- After j lines the store holds j steps, and what remains reads as the whole does: `ReadStepsLaws` takes that past a
-- line.
use Rattle.std.proofs.Common.{◌≡◌, arith, rules}
use Rattle.std.proofs.lemmas.Result.{err_from_is_err_and}
use Rattle.text.specs.Laws.ScanLaws.{step_at_good, step_at_bad}
use Rattle.reader.specs.Inner.ReadSoFar.{Further}
use Rattle.reader.specs.Laws.FaultLaws.{err_of_map, ok_of_map}
use Rattle.reader.specs.Laws.ReadStepsLaws.{step_refused, step_taken, after_step-length, after_steps}
use Rattle.reader.proofs.steps.steps.Goals as goal

pub step_at-requires : goal.step_at-requires
step_at-requires c = c.loop-j.invariant.inside.place

pub returns-in_err-step : goal.returns-in_err-step
unfolding Further
returns-in_err-step c =
    let b = c.loop-j.invariant in
    let p = err_from_is_err_and c.from_residual.result c.from_residual.ensures.1 in
    let m = err_of_map _ _ _ c.map_err.ensures.cases c.in_err-step.was in
    let same : c.in_err-step.field-0.0 ≡ record { fault = m.0; line = c.loop-j.from.line } = search (rules, m.2) in
    rw (p.1, p.2, same) (step_refused _ _ _ c.loop-j.j _ _ b c.loop-j-test.true _
    (step_at_bad _ _ _ _ (c.step_at.ensures b.steps b.last_step) m.1))

pub put_step-requires : goal.put_step-requires
put_step-requires c =
    let b = c.loop-j.invariant in
    let n = after_step-length _ _ _ c.loop-j.j _ _ b (omega arith) in
    let m = b.ranges.steps in
    (omega arith, omega arith)

pub next-from-requires : goal.next-from-requires
next-from-requires c = let i = c.loop-j.invariant.inside in omega (arith, i.place, i.line_le)

pub loop-j-preserved : goal.loop-j-preserved
loop-j-preserved c =
    let b = c.loop-j.invariant in
    let read = ok_of_map _ _ _ c.map_err.ensures.cases c.in_ok-step.was in
    rw (c.put_step.ensures, c.next-from.ensures)
    (step_taken _ _ _ c.loop-j.j _ _ b c.loop-j-test.true _ _
    (step_at_good _ _ _ _ (c.step_at.ensures b.steps b.last_step) read))

pub returns : goal.returns
unfolding Further
returns c = after_steps _ _ _ c.loop-j.j _ _ c.loop-j.invariant (omega arith)
