-- Each refusal of Read is told by the same number and place.
use Rattle.std.proofs.Common.{Err}
use Rattle.read_write.specs.ReadPromise.{read_outcome}
use Rattle.till_c.specs.AnswerLaws.{tells_at}
use Rattle.till_c.proofs.answer.unread.Goals as goal

pub returns-in-ShortList : goal.returns-in-ShortList
unfolding read_outcome
returns-in-ShortList c = tells_at (λ r. read_outcome (Err r)) c.in-ShortList.is c.refusal.ensures

pub returns-in-TooLong : goal.returns-in-TooLong
unfolding read_outcome
returns-in-TooLong c = tells_at (λ r. read_outcome (Err r)) c.in-TooLong.is c.refusal-in-TooLong.ensures

pub returns-in-Faulty : goal.returns-in-Faulty
unfolding read_outcome
returns-in-Faulty c = tells_at (λ r. read_outcome (Err r)) c.in-Faulty.is c.fault_answer.ensures
