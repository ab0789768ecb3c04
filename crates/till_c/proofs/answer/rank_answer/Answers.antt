-- Each answer of Rank is told by the same number, place and values.
use Rattle.judge.specs.RankPromise.{rank_outcome}
use Rattle.till_c.specs.AnswerLaws.{tells_at}
use Rattle.till_c.proofs.answer.rank_answer.Goals as goal

pub returns-in-Ok : goal.returns-in-Ok
unfolding rank_outcome
returns-in-Ok c = tells_at rank_outcome c.in-Ok.is c.value.ensures

pub returns-in-Err : goal.returns-in-Err
unfolding rank_outcome
returns-in-Err c = tells_at rank_outcome c.in-Err.is c.store_refusal.ensures
