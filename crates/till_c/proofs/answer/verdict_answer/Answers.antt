-- Each verdict is told by the same values.
use borrow.Author.Rules.{rules}
use Rattle.judge.specs.JudgePromise.{verdict_outcome}
use Rattle.till_c.specs.AnswerLaws.{tells_at}
use Rattle.till_c.proofs.answer.verdict_answer.Goals as goal

pub enum_known-v : goal.enum_known-v
unfolding verdict_outcome
enum_known-v c = search rules

pub overflow_cast-top : goal.overflow_cast-top
unfolding verdict_outcome
overflow_cast-top c = search rules

pub value-requires : goal.value-requires
unfolding verdict_outcome
value-requires c = search rules

pub enum_known-v-in-Refused-1 : goal.enum_known-v-in-Refused-1
unfolding verdict_outcome
enum_known-v-in-Refused-1 c = search rules

pub overflow_cast-step : goal.overflow_cast-step
unfolding verdict_outcome
overflow_cast-step c = search rules

pub overflow_cast-depth : goal.overflow_cast-depth
unfolding verdict_outcome
overflow_cast-depth c = search rules

pub two_values-requires : goal.two_values-requires
unfolding verdict_outcome
two_values-requires c = search rules

pub returns-in-Passed : goal.returns-in-Passed
unfolding verdict_outcome
returns-in-Passed c = tells_at verdict_outcome c.in-Passed.is c.value.ensures

pub returns-in-Refused : goal.returns-in-Refused
unfolding verdict_outcome
returns-in-Refused c = tells_at verdict_outcome c.in-Refused.is c.two_values.ensures
