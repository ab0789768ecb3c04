-- Each answer of Write is told by the same number, place and values.
use Rattle.read_write.specs.WritePromise.{write_outcome}
use Rattle.till_c.specs.AnswerLaws.{tells_at}
use Rattle.till_c.proofs.answer.write_answer.Goals as goal

pub returns-in-Ok : goal.returns-in-Ok
unfolding write_outcome
returns-in-Ok c = tells_at write_outcome c.in-Ok.is c.value.ensures

pub returns-in-Err : goal.returns-in-Err
unfolding write_outcome
returns-in-Err c = tells_at write_outcome c.in-Err.is c.store_refusal.ensures
