-- The first i labels are flagged.
use Rattle.std.proofs.Common.{◌≤◌}
use Rattle.weak_books.specs.Inner.Depths.{Flagged}
use Rattle.weak_books.proofs.depths.flag_labels.Given as goal

abbrev pub invariant-loop-i : goal.invariant-loop-i
invariant-loop-i l = (l.i ≤ l.count) × Flagged l.labels l.i l.flags
