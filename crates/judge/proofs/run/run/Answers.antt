-- Tested in the order of the refusals; the rest is Run on a good store.
use Rattle.std.proofs.Common.{refl}
use Rattle.std.proofs.lemmas.Result.{err_from_is_err_and}
use Rattle.judge.specs.RunPromise.{run_outcome, RunDone}
use Rattle.text.specs.Laws.FirstShortLaws.{first_short_is, second_short, third_short, none_short_three}
use Rattle.model.proofs.Laws.OnStoreLaws.{on_store_short, on_store_not_good, on_store-model}
use Rattle.judge.proofs.run.run.Goals as goal

pub returns-in_err-long_enough : goal.returns-in_err-long_enough
unfolding run_outcome
returns-in_err-long_enough c =
    let e = c.in_err-long_enough.ensures in
    let t = c.from_residual in
    let r = err_from_is_err_and t.result t.ensures.1 in
    on_store_short (first_short_is _ _ e.0) (rw (r.1, r.2, e.1) refl) (refl, refl)

pub returns-in_err-long_enough-2 : goal.returns-in_err-long_enough-2
unfolding run_outcome
returns-in_err-long_enough-2 c =
    let a = c.in_ok-long_enough.ensures in
    let e = c.in_err-long_enough-2.ensures in
    let t = c.from_residual-in_err-long_enough-2 in
    let r = err_from_is_err_and t.result t.ensures.1 in
    on_store_short (second_short _ _ a e.0) (rw (r.1, r.2, e.1) refl) (refl, refl)

pub returns-in_err-long_enough-3 : goal.returns-in_err-long_enough-3
unfolding run_outcome
returns-in_err-long_enough-3 c =
    let a = c.in_ok-long_enough.ensures in
    let b = c.in_ok-long_enough-2.ensures in
    let e = c.in_err-long_enough-3.ensures in
    let t = c.from_residual-in_err-long_enough-3 in
    let r = err_from_is_err_and t.result t.ensures.1 in
    on_store_short (third_short _ _ a b e.0) (rw (r.1, r.2, e.1) refl) (refl, refl)

pub returns-in_err-check_good : goal.returns-in_err-check_good
unfolding run_outcome
returns-in_err-check_good c =
    let a = c.in_ok-long_enough.ensures in
    let b = c.in_ok-long_enough-2.ensures in
    let d = c.in_ok-long_enough-3.ensures in
    let e = c.in_err-check_good.ensures in
    let t = c.from_residual-in_err-check_good in
    let r = err_from_is_err_and t.result t.ensures.1 in
    on_store_not_good (none_short_three a b d) e.0 (rw (r.1, r.2, e.1) refl) (refl, refl)

pub returns : goal.returns
returns c =
    let good = c.in_ok-check_good.ensures.0 in
    let a = c.in_ok-long_enough.ensures in
    let b = c.in_ok-long_enough-2.ensures in
    let d = c.in_ok-long_enough-3.ensures in
    on_store-model (λ m. RunDone m _ (run_outcome c.run_good.result) _ _ _ _) (none_short_three a b d) good
    c.run_good.ensures
