-- The rows of the first i states of the list are written.
use mathlib.Core.Path.{◌≡◌}
use lib.ListN.{length}
use Rattle.ranking.specs.Inner.TableWrites.{Written, RowsWritten}
use Rattle.ranking.proofs.writes.write_rows.Given as goal

abbrev pub invariant-loop-i : goal.invariant-loop-i
invariant-loop-i l =
    Written l.n l.class l.next l.round l.initial.table l.table × RowsWritten l.class l.next l.round
    l.table l.list l.i l.n
    × (length l.table ≡ length l.initial.table)
