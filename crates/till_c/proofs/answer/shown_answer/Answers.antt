-- What is shown is told by the same number, place and values.
use borrow.Author.Rules.{rules}
use Rattle.letters.specs.WordDone.{shown_outcome}
use Rattle.till_c.specs.AnswerLaws.{tells_at}
use Rattle.till_c.proofs.answer.shown_answer.Goals as goal

pub enum_known-shown : goal.enum_known-shown
unfolding shown_outcome
enum_known-shown c = search rules

pub letters_answer-requires : goal.letters_answer-requires
unfolding shown_outcome
letters_answer-requires c = search rules

pub enum_known-shown-in-NotDeterministic-1 : goal.enum_known-shown-in-NotDeterministic-1
unfolding shown_outcome
enum_known-shown-in-NotDeterministic-1 c = search rules

pub overflow_cast-step : goal.overflow_cast-step
unfolding shown_outcome
overflow_cast-step c = search rules

pub refusal-requires : goal.refusal-requires
unfolding shown_outcome
refusal-requires c = search rules

pub enum_known-shown-in-Silent-1 : goal.enum_known-shown-in-Silent-1
unfolding shown_outcome
enum_known-shown-in-Silent-1 c = search rules

pub overflow_cast-step-in-Silent : goal.overflow_cast-step-in-Silent
unfolding shown_outcome
overflow_cast-step-in-Silent c = search rules

pub refusal-requires-in-Silent : goal.refusal-requires-in-Silent
unfolding shown_outcome
refusal-requires-in-Silent c = search rules

pub enum_told-1 : goal.enum_told-1
unfolding shown_outcome
enum_told-1 c = search rules

pub refusal-requires-in-NoLeak : goal.refusal-requires-in-NoLeak
unfolding shown_outcome
refusal-requires-in-NoLeak c = search rules

pub returns-in-Word : goal.returns-in-Word
unfolding shown_outcome
returns-in-Word c = tells_at shown_outcome c.in-Word.is c.letters_answer.ensures

pub returns-in-NotDeterministic : goal.returns-in-NotDeterministic
unfolding shown_outcome
returns-in-NotDeterministic c = tells_at shown_outcome c.in-NotDeterministic.is c.refusal.ensures

pub returns-in-Silent : goal.returns-in-Silent
unfolding shown_outcome
returns-in-Silent c = tells_at shown_outcome c.in-Silent.is c.refusal-in-Silent.ensures

pub returns-in-NoLeak : goal.returns-in-NoLeak
unfolding shown_outcome
returns-in-NoLeak c = tells_at shown_outcome c.in-NoLeak.is c.refusal-in-NoLeak.ensures
