-- A text that is not read, and one that is.
use Rattle.till_c.proofs.answer.tell_answer.Goals as goal

pub returns-in-Ok : goal.returns-in-Ok
returns-in-Ok c = rw c.in-Ok.is c.judged_answer.ensures

pub returns-in-Err : goal.returns-in-Err
returns-in-Err c = rw c.in-Err.is c.unread_answer.ensures
