-- Each answer of Run is told by the same number, place and values.
use Rattle.judge.specs.RunPromise.{run_outcome}
use Rattle.till_c.specs.AnswerLaws.{tells_at}
use Rattle.till_c.proofs.answer.run_answer.Goals as goal

pub returns-in-Ok : goal.returns-in-Ok
unfolding run_outcome
returns-in-Ok c = tells_at run_outcome c.in-Ok.is c.value.ensures

pub returns-in-Err : goal.returns-in-Err
unfolding run_outcome
returns-in-Err c = tells_at run_outcome c.in-Err.is c.run_refusal.ensures
