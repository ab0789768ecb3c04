-- Each answer of Judge is told by the same number, place and values.
use Rattle.judge.specs.JudgePromise.{judge_outcome}
use Rattle.till_c.specs.AnswerLaws.{tells_at}
use Rattle.till_c.proofs.answer.judge_answer.Goals as goal

pub returns-in-Ok : goal.returns-in-Ok
unfolding judge_outcome
returns-in-Ok c = tells_at judge_outcome c.in-Ok.is c.verdict_answer.ensures

pub returns-in-Err : goal.returns-in-Err
unfolding judge_outcome
returns-in-Err c = tells_at judge_outcome c.in-Err.is c.store_refusal.ensures
