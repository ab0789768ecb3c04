-- The two numbers are those of the sides.
use Rattle.books.specs.Inner.Sides.{first_turn, second_turn}
use Rattle.books.proofs.entry.who_opens.Goals as goal

pub returns-in-1 : goal.returns-in-1
returns-in-1 c = first_turn c.in-1.is

pub returns-in-2 : goal.returns-in-2
returns-in-2 c = second_turn c.in-2.is
