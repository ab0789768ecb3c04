-- After i lines the store holds i extra starts, and what remains reads as the whole does: `ReadStartsLaws` takes that
-- past a line. The starts rise below the states, so the store has room for each.
use Rattle.std.proofs.Common.{◌≡◌, ◌<◌, arith, rules}
use Rattle.std.proofs.lemmas.Result.{err_from_is_err_and}
use Rattle.text.specs.Limits.{extra_limit}
use Rattle.text.specs.Lines.{start_of}
use Rattle.text.specs.Inner.Row.{LineTaken}
use Rattle.text.specs.Laws.ScanLaws.{start_at_good, start_at_bad}
use Rattle.reader.specs.Inner.ReadSoFar.{Further}
use Rattle.reader.specs.Laws.FaultLaws.{err_of_map, ok_of_map}
use Rattle.reader.specs.Laws.ReadStartsLaws.{after_start_length, after_starts}
use Rattle.reader.specs.Laws.ReadStartsLaws.{start_refused, start-room, start_taken}
use Rattle.reader.proofs.starts.starts.Goals as goal
use Rattle.reader.proofs.starts.starts.Goals.{In_ok-p}

-- where the line names a start
named : (c : In_ok-p)
    → let s = c.args in
    LineTaken (start_of s.head c.loop-head.invariant.extra_starts) s.text.now c.loop-head.from.at
    c.in_ok-p.p.stated.0 c.in_ok-p.p.next
named c =
    let b = c.loop-head.invariant in
    start_at_good _ _ _ _ (c.start_at.ensures b.extra_starts b.last_start_is)
    (ok_of_map _ _ _ c.map_err.ensures.cases c.in_ok-p.was)

room : (c : In_ok-p) → c.loop-head.i < extra_limit
room c = start-room _ _ _ c.loop-head.i _ _ c.loop-head.invariant _ _ (named c)

pub returns-in_err-p : goal.returns-in_err-p
unfolding Further
returns-in_err-p c =
    let b = c.loop-head.invariant in
    let p = err_from_is_err_and c.from_residual.result c.from_residual.ensures.1 in
    let m = err_of_map _ _ _ c.map_err.ensures.cases c.in_err-p.was in
    let same : c.in_err-p.field-0.0 ≡ record { fault = m.0; line = c.loop-head.from.line } = search (rules, m.2) in
    rw (p.1, p.2, same) (start_refused _ _ _ c.loop-head.i _ _ b c.loop-head-test.ensures _
    (start_at_bad _ _ _ _ (c.start_at.ensures b.extra_starts b.last_start_is) m.1))

pub put_extra_start-requires : goal.put_extra_start-requires
put_extra_start-requires c =
    let b = c.loop-head.invariant in
    (omega (arith, after_start_length _ _ _ c.loop-head.i _ _ b), room (goal.at.put_extra_start-requires c).In_ok-p)

pub next-from-requires : goal.next-from-requires
next-from-requires c = let i = c.loop-head.invariant.inside in omega (arith, i.place, i.line_le)

pub overflow_add-i : goal.overflow_add-i
overflow_add-i c = omega (arith, room (goal.at.overflow_add-i c).In_ok-p)

pub loop-head-smaller : goal.loop-head-smaller
loop-head-smaller c = omega (arith, room (goal.at.loop-head-smaller c).In_ok-p)

pub loop-head-preserved : goal.loop-head-preserved
loop-head-preserved c =
    rw (c.put_extra_start.ensures, c.next-from.ensures)
    (start_taken _ _ _ c.loop-head.i _ _ c.loop-head.invariant _ _
    (named (goal.at.loop-head-preserved c).In_ok-p) c.loop-head-test.ensures)

pub returns : goal.returns
unfolding Further
returns c = after_starts _ _ _ c.loop-head.i _ _ c.loop-head.invariant c.loop-head-test.ensures
