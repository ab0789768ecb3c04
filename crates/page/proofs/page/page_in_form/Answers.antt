-- Each refusal is a way of the promise; on a good store it is what `page_good` makes. Assumes nothing.
use Rattle.std.proofs.lemmas.Result.{err_from_is_err_and}
use Rattle.page.proofs.PageAnswers.{short_promised, not_good_promised, printed_promised}
use Rattle.page.proofs.page.page_in_form.Goals as goal

pub returns-in-Some : goal.returns-in-Some
returns-in-Some c = short_promised _ _ _ _ _ _ _ c.in-Some.place c.in-Some.ensures

pub returns-in_err-check_good : goal.returns-in_err-check_good
returns-in_err-check_good c =
    let p = err_from_is_err_and c.from_residual.result c.from_residual.ensures.1 in
    let e = c.in_err-check_good.ensures in
    rw (p.1, p.2, e.1) (not_good_promised _ _ _ _ _ _ _ c.in_default.ensures e.0)

pub returns : goal.returns
returns c =
    printed_promised _ _ _ _ _ _ _ c.in_default.ensures c.in_ok-check_good.ensures.0 _ _ _ _ _ _ c.page_good-end.ensures
