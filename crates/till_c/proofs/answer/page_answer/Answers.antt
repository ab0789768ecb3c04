-- Each answer of Page and of Roll is told by the same number, place and values. Assumes nothing.
use Rattle.page.specs.PagePromise.{page_outcome}
use Rattle.till_c.specs.AnswerLaws.{tells_at}
use Rattle.till_c.proofs.answer.page_answer.Goals as goal

pub returns-in-Ok : goal.returns-in-Ok
unfolding page_outcome
returns-in-Ok c = tells_at page_outcome c.in-Ok.is c.value.ensures

pub returns-in-Err : goal.returns-in-Err
unfolding page_outcome
returns-in-Err c = tells_at page_outcome c.in-Err.is c.store_refusal.ensures
