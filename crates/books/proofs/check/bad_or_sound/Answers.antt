-- The outcomes are those of the answers.
use Rattle.books.specs.Laws.ChecksLaws.{bad_told_bad, bad_told_sound}
use Rattle.books.proofs.check.bad_or_sound.Goals as goal

pub returns-then-k-lt-TABLE_LENGTH : goal.returns-then-k-lt-TABLE_LENGTH
returns-then-k-lt-TABLE_LENGTH c = bad_told_bad c.if-k-lt-TABLE_LENGTH.true

pub returns : goal.returns
returns c = bad_told_sound c.if-k-lt-TABLE_LENGTH.false
