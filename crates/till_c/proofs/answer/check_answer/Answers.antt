-- Each answer of Check is told by the same number, place and values.
use Rattle.judge.specs.CheckPromise.{check_outcome}
use Rattle.till_c.specs.AnswerLaws.{tells_at}
use Rattle.till_c.proofs.answer.check_answer.Goals as goal

pub returns-in-Ok : goal.returns-in-Ok
unfolding check_outcome
returns-in-Ok c = tells_at check_outcome c.in-Ok.is c.checked_answer.ensures

pub returns-in-Err : goal.returns-in-Err
unfolding check_outcome
returns-in-Err c = tells_at check_outcome c.in-Err.is c.store_refusal.ensures
