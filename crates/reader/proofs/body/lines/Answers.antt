-- Each phase begins where the one before it ended, or its refusal is the answer.
use Rattle.std.proofs.lemmas.Result.{err_from_is_err_and}
use Rattle.reader.specs.Inner.ReadSoFar.{Further, Through}
use Rattle.reader.proofs.body.lines.Goals as goal

pub returns-in_err-acted : goal.returns-in_err-acted
unfolding Further Through
returns-in_err-acted c =
    let r = c.from_residual in
    let p = err_from_is_err_and r.result r.ensures.1 in rw (p.1, p.2) c.in_err-acted.ensures

pub starts-requires : goal.starts-requires
unfolding Further
starts-requires c = c.in_ok-acted.ensures

pub returns-in_err-started : goal.returns-in_err-started
unfolding Further Through
returns-in_err-started c =
    let r = c.from_residual-in_err-started in
    let p = err_from_is_err_and r.result r.ensures.1 in rw (p.1, p.2) c.in_err-started.ensures

pub steps-requires : goal.steps-requires
unfolding Further
steps-requires c = c.in_ok-started.ensures

pub returns-in_err-stepped : goal.returns-in_err-stepped
unfolding Further Through
returns-in_err-stepped c =
    let r = c.from_residual-in_err-stepped in
    let p = err_from_is_err_and r.result r.ensures.1 in rw (p.1, p.2) c.in_err-stepped.ensures

pub last_line-requires : goal.last_line-requires
unfolding Further
last_line-requires c = c.in_ok-stepped.ensures
