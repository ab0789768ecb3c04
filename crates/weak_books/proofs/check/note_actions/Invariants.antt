-- The entries before entry k have labels, which are noted.
use Rattle.std.proofs.Common.{◌≤◌}
use Rattle.text.specs.Limits.{table_length}
use Rattle.weak_books.specs.Inner.Noted.{UsedTo}
use Rattle.weak_books.proofs.check.note_actions.Given as goal

abbrev pub invariant-loop-k : goal.invariant-loop-k
invariant-loop-k l = (l.k ≤ table_length) × UsedTo l.book l.used l.k
