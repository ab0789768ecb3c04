-- Sets below k have been gathered from their rows.
use Rattle.silent.specs.Inner.Loops.{RowsTo}
use Rattle.silent.proofs.keys.close_by_rows.Given as goal

abbrev pub invariant-loop-k : goal.invariant-loop-k
invariant-loop-k l = RowsTo l.rows l.initial.sets l.k l.sets
