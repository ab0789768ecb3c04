-- Each answer of Word is told by the same number, place and values.
use Rattle.judge.specs.WordPromise.{word_outcome}
use Rattle.till_c.specs.AnswerLaws.{tells_at}
use Rattle.till_c.proofs.answer.word_answer.Goals as goal

pub returns-in-Ok : goal.returns-in-Ok
unfolding word_outcome
returns-in-Ok c = tells_at word_outcome c.in-Ok.is c.shown_answer.ensures

pub returns-in-Err : goal.returns-in-Err
unfolding word_outcome
returns-in-Err c = tells_at word_outcome c.in-Err.is c.store_refusal.ensures
