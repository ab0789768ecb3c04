-- What is found of a book is told by the same number and place.
use borrow.Author.Rules.{rules}
use Rattle.books.specs.Checks.{checked_outcome}
use Rattle.till_c.specs.AnswerLaws.{tells_at}
use Rattle.till_c.proofs.answer.checked_answer.Goals as goal

pub enum_told-1 : goal.enum_told-1
unfolding checked_outcome
enum_told-1 c = search rules

pub done-requires : goal.done-requires
unfolding checked_outcome
done-requires c = search rules

pub enum_known-found : goal.enum_known-found
unfolding checked_outcome
enum_known-found c = search rules

pub refusal-requires : goal.refusal-requires
unfolding checked_outcome
refusal-requires c = search rules

pub returns-in-Ok : goal.returns-in-Ok
unfolding checked_outcome
returns-in-Ok c = tells_at checked_outcome c.in-Ok.is c.done.ensures

pub returns-in-Err : goal.returns-in-Err
unfolding checked_outcome
returns-in-Err c = tells_at checked_outcome c.in-Err.is c.refusal.ensures
