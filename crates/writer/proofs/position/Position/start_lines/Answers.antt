-- Behind the loop stand the lines of the first i extra starts, and each round writes one more. Assumes nothing.
use Rattle.std.proofs.Common.{◌<◌, ◌≡◌, arith, rules}
use Rattle.model.specs.StoredModel.{listed, extra_count_at, extra_start_at, model_at}
use Rattle.model.specs.Text.{starts_text}
use Rattle.writer.specs.Laws.WroteLaws.{wrote-nil, wrote-append}
use Rattle.writer.specs.Laws.WritingLaws.{starts_text_next, starts_text-room}
use Rattle.writer.specs.Laws.WritableLaws.{extra_starts_le}
use Rattle.writer.proofs.position.Position.start_lines.Goals as goal

pub loop-i-init : goal.loop-i-init
unfolding listed starts_text
loop-i-init c = (search rules, wrote-nil)

pub extra_start-requires : goal.extra_start-requires
extra_start-requires c =
    let l = extra_starts_le c.args.store.now c.requires.writable in
    (c.requires.writable.long, omega (arith, c.extra_count-i-end.ensures, c.loop-i-test.true))

pub start_line-at-requires : goal.start_line-at-requires
unfolding model_at
start_line-at-requires c =
    let i = c.loop-i.i in
    let store = c.args.store.now in
    let h : i < extra_count_at store = omega (arith, c.extra_count-i-end.ensures, c.loop-i-test.true) in
    let room = starts_text-room (extra_start_at store) i (extra_count_at store) h in
    rw c.extra_start.ensures (omega (arith, c.requires.store_in_bounds))

pub loop-i-preserved : goal.loop-i-preserved
loop-i-preserved c =
    let line = rw c.extra_start.ensures at c.start_line-at.ensures in
    (search rules, rw (← starts_text_next) (wrote-append c.loop-i.invariant.1 line))

pub returns : goal.returns
unfolding model_at
returns c =
    let e : c.loop-i.i ≡ extra_count_at c.args.store.now = omega (arith, c.extra_count-i-end.ensures) in
    rw (← e) c.loop-i.invariant.1
