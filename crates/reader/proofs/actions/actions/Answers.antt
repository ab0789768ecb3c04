-- After i lines the store holds i actions, and what remains reads as the whole does. Behind the last, the levels that
-- the store holds decide whether one is high.
use Rattle.std.proofs.Common.{arith}
use Rattle.std.proofs.lemmas.Result.{err_from_is_err_and}
use Rattle.reader.specs.Inner.ReadSoFar.{AfterActions, Further}
use Rattle.reader.specs.Laws.ReadLaws.{after_actions-count, after_actions-length}
use Rattle.reader.specs.Laws.ReadLevelsLaws.{no_high_refused, after_actions}
use Rattle.reader.proofs.actions.actions.Goals as goal
use Rattle.reader.proofs.actions.actions.Goals.{After-loop-i}

pub returns-in_err-from : goal.returns-in_err-from
unfolding Further
returns-in_err-from c =
    let p = err_from_is_err_and c.from_residual.result c.from_residual.ensures.1 in
    rw (p.1, p.2) c.in_err-from.ensures

pub loop-i-preserved : goal.loop-i-preserved
unfolding Further
loop-i-preserved c = c.in_ok-from.ensures

-- after the last action
all : (c : After-loop-i)
    → AfterActions c.args.head c.args.text.now c.loop-i.from c.args.head.actions c.loop-i.out
all c = after_actions-count _ _ _ c.loop-i.i _ _ (omega arith) c.loop-i.invariant

pub some_high-requires : goal.some_high-requires
some_high-requires c =
    let b = all c in
    let n = after_actions-length _ _ _ _ _ b (omega arith) in
    (omega (arith, n), b.ranges.actions)

pub returns-then-not-some_high : goal.returns-then-not-some_high
unfolding Further
returns-then-not-some_high c =
    no_high_refused _ _ _ _ (all (goal.at.returns-then-not-some_high c).After-loop-i) c.if-not-some_high.ensures

pub returns : goal.returns
unfolding Further
returns c = after_actions _ _ _ _ (all (goal.at.returns c).After-loop-i) c.if-not-some_high.ensures
