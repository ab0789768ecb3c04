-- Each answer of Reach is told by the same number, place and values.
use Rattle.judge.specs.ReachPromise.{reach_outcome}
use Rattle.till_c.specs.AnswerLaws.{tells_at}
use Rattle.till_c.proofs.answer.reach_answer.Goals as goal

pub returns-in-Ok : goal.returns-in-Ok
unfolding reach_outcome
returns-in-Ok c = tells_at reach_outcome c.in-Ok.is c.done.ensures

pub returns-in-Err : goal.returns-in-Err
unfolding reach_outcome
returns-in-Err c = tells_at reach_outcome c.in-Err.is c.store_refusal.ensures
