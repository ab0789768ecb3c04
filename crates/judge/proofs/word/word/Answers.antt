-- Each refusal is a way of the promise; on a good store it is what `judge_good` fills and `show` shows.
use Rattle.std.proofs.Common.{arith}
use Rattle.std.proofs.lemmas.Result.{err_from_is_err_and}
use Rattle.letters.specs.Laws.ShowableLaws.{judging→Showable}
use Rattle.judge.proofs.WordAnswers.{short_store_promised, short_distances_promised, short_table_promised}
use Rattle.judge.proofs.WordAnswers.{short_word_promised, not_good_promised, done_promised}
use Rattle.judge.proofs.word.word.Goals as goal

pub returns-in_err-long_enough : goal.returns-in_err-long_enough
returns-in_err-long_enough c =
    let e = c.in_err-long_enough.ensures in
    let t = c.from_residual in
    let r = err_from_is_err_and t.result t.ensures.1 in
    rw (r.1, r.2, e.1) (short_store_promised _ _ _ _ e.0)

pub returns-in_err-long_enough-2 : goal.returns-in_err-long_enough-2
returns-in_err-long_enough-2 c =
    let a = c.in_ok-long_enough.ensures in
    let e = c.in_err-long_enough-2.ensures in
    let t = c.from_residual-in_err-long_enough-2 in
    let r = err_from_is_err_and t.result t.ensures.1 in
    rw (r.1, r.2, e.1) (short_distances_promised _ _ _ _ a e.0)

pub returns-in_err-long_enough-3 : goal.returns-in_err-long_enough-3
returns-in_err-long_enough-3 c =
    let a = c.in_ok-long_enough.ensures in
    let b = c.in_ok-long_enough-2.ensures in
    let e = c.in_err-long_enough-3.ensures in
    let t = c.from_residual-in_err-long_enough-3 in
    let r = err_from_is_err_and t.result t.ensures.1 in
    rw (r.1, r.2, e.1) (short_table_promised _ _ _ _ a b e.0)

pub returns-in_err-long_enough-4 : goal.returns-in_err-long_enough-4
returns-in_err-long_enough-4 c =
    let a = c.in_ok-long_enough.ensures in
    let b = c.in_ok-long_enough-2.ensures in
    let d = c.in_ok-long_enough-3.ensures in
    let e = c.in_err-long_enough-4.ensures in
    let t = c.from_residual-in_err-long_enough-4 in
    let r = err_from_is_err_and t.result t.ensures.1 in
    rw (r.1, r.2, e.1) (short_word_promised _ _ _ _ a b d e.0)

pub returns-in_err-check_good : goal.returns-in_err-check_good
returns-in_err-check_good c =
    let a = c.in_ok-long_enough.ensures in
    let b = c.in_ok-long_enough-2.ensures in
    let d = c.in_ok-long_enough-3.ensures in
    let f = c.in_ok-long_enough-4.ensures in
    let e = c.in_err-check_good.ensures in
    let t = c.from_residual-in_err-check_good in
    let r = err_from_is_err_and t.result t.ensures.1 in
    rw (r.1, r.2, e.1) (not_good_promised _ _ _ _ a b d f e.0)

pub show-requires : goal.show-requires
show-requires c =
    judging→Showable c.judge_good-verdict.ensures c.in_ok-long_enough-2.ensures c.in_ok-long_enough-3.ensures _ _
    c.in_ok-check_good.ensures.1 (omega (arith, c.judge_good-verdict.auto)) (omega (arith, c.judge_good-verdict.auto))
    c.in_ok-long_enough-4.ensures

pub returns : goal.returns
returns c =
    let good = c.in_ok-check_good.ensures.0 in
    let a = c.in_ok-long_enough.ensures in
    let b = c.in_ok-long_enough-2.ensures in
    let d = c.in_ok-long_enough-3.ensures in
    let f = c.in_ok-long_enough-4.ensures in
    done_promised _ _ _ _ a b d f c.show.result _ _ _ good c.judge_good-verdict.ensures.filled c.show.ensures
