-- A success with no value; a refusal is told by `unread`.
use Rattle.read_write.specs.ReadPromise.{read_outcome}
use Rattle.till_c.specs.AnswerLaws.{tells_at}
use Rattle.till_c.proofs.answer.read_answer.Goals as goal

pub returns-in-Ok : goal.returns-in-Ok
unfolding read_outcome
returns-in-Ok c = tells_at read_outcome c.in-Ok.is c.done.ensures
