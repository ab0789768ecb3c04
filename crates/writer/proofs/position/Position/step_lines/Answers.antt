-- Behind the loop stand the lines of the first i steps, and each round writes one more. Assumes nothing.
use Rattle.std.proofs.Common.{◌<◌, ◌≡◌, arith, rules}
use Rattle.model.specs.StoredModel.{head_at, listed, step_at, model_at}
use Rattle.model.specs.Text.{steps_text}
use Rattle.writer.specs.Laws.WroteLaws.{wrote-nil, wrote-append}
use Rattle.writer.specs.Laws.WritingLaws.{steps_text_next, steps_text-room}
use Rattle.writer.specs.Laws.WritableLaws.{steps_le}
use Rattle.writer.proofs.position.Position.step_lines.Goals as goal

pub loop-j-init : goal.loop-j-init
unfolding listed steps_text
loop-j-init c = (search rules, wrote-nil)

pub step_line-requires : goal.step_line-requires
step_line-requires c =
    let l = steps_le c.args.store.now c.requires.writable in
    (c.requires.writable.long, omega (arith, c.steps-j-end.ensures, c.loop-j-test.true))

pub step_line-at-requires : goal.step_line-at-requires
unfolding model_at
step_line-at-requires c =
    let i = c.loop-j.j in
    let store = c.args.store.now in
    let h : i < (head_at store).steps = omega (arith, c.steps-j-end.ensures, c.loop-j-test.true) in
    let room = steps_text-room (step_at store) i (head_at store).steps h in
    rw c.step_line.ensures (omega (arith, c.requires.store_in_bounds))

pub loop-j-preserved : goal.loop-j-preserved
loop-j-preserved c =
    let line = rw c.step_line.ensures at c.step_line-at.ensures in
    (search rules, rw (← steps_text_next) (wrote-append c.loop-j.invariant.1 line))

pub returns : goal.returns
unfolding model_at
returns c =
    let e : c.loop-j.j ≡ (head_at c.args.store.now).steps = omega (arith, c.steps-j-end.ensures) in
    rw (← e) c.loop-j.invariant.1
