-- The entries below entry k are chained.
use Rattle.std.proofs.Common.{◌≤◌}
use Rattle.text.specs.Limits.{table_length}
use Rattle.weak_books.specs.Inner.Depths.{Chained}
use Rattle.weak_books.proofs.depths.chain_entries.Given as goal

abbrev pub invariant-loop-k : goal.invariant-loop-k
invariant-loop-k l = (l.k ≤ table_length) × Chained l.book l.head l.link l.k
