-- Each answer of `print` is told by the same number, place and values. Assumes nothing.
use Rattle.page.specs.PrintPromise.{print_outcome}
use Rattle.till_c.specs.AnswerLaws.{tells_at}
use Rattle.till_c.proofs.answer.print_answer.Goals as goal

pub returns-in-Ok : goal.returns-in-Ok
unfolding print_outcome
returns-in-Ok c = tells_at print_outcome c.in-Ok.is c.value.ensures

pub returns-in-Err : goal.returns-in-Err
unfolding print_outcome
returns-in-Err c = tells_at print_outcome c.in-Err.is c.refusal.ensures
