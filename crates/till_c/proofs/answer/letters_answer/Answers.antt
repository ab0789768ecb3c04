-- Each end is told by its number.
use borrow.Author.Rules.{rules}
use Rattle.letters.specs.Words.{end_number}
use Rattle.till_c.proofs.answer.letters_answer.Goals as goal

pub enum_told-1 : goal.enum_told-1
unfolding end_number
enum_told-1 c = search rules

pub two_values-requires : goal.two_values-requires
unfolding end_number
two_values-requires c = search rules

pub enum_told-in-Target : goal.enum_told-in-Target
unfolding end_number
enum_told-in-Target c = search rules

pub two_values-requires-in-Target : goal.two_values-requires-in-Target
unfolding end_number
two_values-requires-in-Target c = search rules

pub returns-in-Source : goal.returns-in-Source
unfolding end_number
returns-in-Source c = rw c.in-Source.is c.two_values.ensures

pub returns-in-Target : goal.returns-in-Target
unfolding end_number
returns-in-Target c = rw c.in-Target.is c.two_values-in-Target.ensures
