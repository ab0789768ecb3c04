-- Each turn tells of the least state that is left: those that lead into the goal are found, or left.
use Rattle.std.proofs.Common.{arith}
use Rattle.sets.specs.Laws.WithinLaws.{words_le}
use Rattle.splitters.specs.Laws.LeadingLaws.{leading_to_start, leading_to_next, leading_to_end}
use Rattle.splitters.specs.Laws.LeadingLaws.{leading_turn_none, leading_turn_told}
use Rattle.splitters.proofs.leading.leading.Goals as goal

pub loop-p-init : goal.loop-p-init
loop-p-init c = leading_to_start c.none-found.ensures

pub held-requires : goal.held-requires
held-requires c =
    let P = c.requires.row_lt_slot_rows in
    (P.0, c.in-Some.ensures.taken.member_lt, P.2.slot_lt)

pub held-told-requires : goal.held-told-requires
held-told-requires c =
    let P = c.requires.row_lt_slot_rows in
    (P.1, omega (arith, c.if-t-lt-STATE_LIMIT.true), P.2.slot_lt)

pub loop-p-smaller-then-t-lt-STATE_LIMIT : goal.loop-p-smaller-then-t-lt-STATE_LIMIT
loop-p-smaller-then-t-lt-STATE_LIMIT c =
    let no_more = words_le (omega arith) (omega arith) (λ x i. (c.without-left.ensures.only x i).0) in
    omega (arith, no_more, c.in-Some.ensures.fewer)

pub loop-p-preserved-then-t-lt-STATE_LIMIT : goal.loop-p-preserved-then-t-lt-STATE_LIMIT
loop-p-preserved-then-t-lt-STATE_LIMIT c =
    let next = c.in-Some.ensures in
    leading_to_next c.loop-p.invariant
    (leading_turn_told c.requires.turned next.taken.member_lt c.held.ensures c.both.ensures c.greatest-t.ensures
    c.if-t-lt-STATE_LIMIT.true c.held-told.ensures next.left c.either-found.ensures c.without-left.ensures)

pub loop-p-preserved : goal.loop-p-preserved
loop-p-preserved c =
    leading_to_next c.loop-p.invariant
    (leading_turn_none c.held.ensures c.both.ensures c.greatest-t.ensures c.if-t-lt-STATE_LIMIT.false
    c.in-Some.ensures.left)

pub returns : goal.returns
returns c = leading_to_end c.loop-p.invariant c.in_default.ensures.none c.both-2.ensures
