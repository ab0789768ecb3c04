-- Each refusal is a way of the promise; on a good store it is what `judge_good` leaves.
use Rattle.std.proofs.lemmas.Result.{err_from_is_err_and}
use Rattle.judge.specs.Laws.JudgePromiseLaws.{judge_first_short, judge_second_short, judge_third_short}
use Rattle.judge.specs.Laws.JudgePromiseLaws.{judge_not_good, judge_done}
use Rattle.judge.proofs.judge.judge.Goals as goal

pub returns-in_err-long_enough : goal.returns-in_err-long_enough
returns-in_err-long_enough c =
    let e = c.in_err-long_enough.ensures in
    let t = c.from_residual in
    let r = err_from_is_err_and t.result t.ensures.1 in
    rw (r.1, r.2, e.1) (judge_first_short _ _ _ e.0)

pub returns-in_err-long_enough-2 : goal.returns-in_err-long_enough-2
returns-in_err-long_enough-2 c =
    let a = c.in_ok-long_enough.ensures in
    let e = c.in_err-long_enough-2.ensures in
    let t = c.from_residual-in_err-long_enough-2 in
    let r = err_from_is_err_and t.result t.ensures.1 in
    rw (r.1, r.2, e.1) (judge_second_short _ _ _ a e.0)

pub returns-in_err-long_enough-3 : goal.returns-in_err-long_enough-3
returns-in_err-long_enough-3 c =
    let a = c.in_ok-long_enough.ensures in
    let b = c.in_ok-long_enough-2.ensures in
    let e = c.in_err-long_enough-3.ensures in
    let t = c.from_residual-in_err-long_enough-3 in
    let r = err_from_is_err_and t.result t.ensures.1 in
    rw (r.1, r.2, e.1) (judge_third_short _ _ _ a b e.0)

pub returns-in_err-check_good : goal.returns-in_err-check_good
returns-in_err-check_good c =
    let a = c.in_ok-long_enough.ensures in
    let b = c.in_ok-long_enough-2.ensures in
    let d = c.in_ok-long_enough-3.ensures in
    let e = c.in_err-check_good.ensures in
    let t = c.from_residual-in_err-check_good in
    let r = err_from_is_err_and t.result t.ensures.1 in
    rw (r.1, r.2, e.1) (judge_not_good _ _ _ a b d e.0)

pub returns : goal.returns
returns c =
    let good = c.in_ok-check_good.ensures.0 in
    let a = c.in_ok-long_enough.ensures in
    let b = c.in_ok-long_enough-2.ensures in
    let d = c.in_ok-long_enough-3.ensures in
    judge_done _ _ _ a b d good _ _ _ _ _ c.judge_good.ensures
