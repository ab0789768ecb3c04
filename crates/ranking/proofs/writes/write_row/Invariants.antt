-- The row is written up to q; a later store leaves the round where it stands.
use mathlib.Core.Path.{◌≡◌}
use lib.ListN.{length}
use Rattle.ranking.specs.Inner.TableWrites.{Written, RowWritten}
use Rattle.ranking.proofs.writes.write_row.Given as goal

abbrev pub invariant-loop-q : goal.invariant-loop-q
invariant-loop-q l =
    Written l.n l.class l.next l.round l.initial.table l.table × RowWritten l.class l.next l.round
    l.table l.p.0 l.q
    × (length l.table ≡ length l.initial.table)
