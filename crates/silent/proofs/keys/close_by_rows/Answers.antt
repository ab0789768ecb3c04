-- Sets below k have been gathered from their rows.
use native.Mathlib.Omega.{arith}
use Rattle.silent.specs.Laws.RowsLaws.{rows_to-zero, rows_to-suc, rows_to→Gathered}
use Rattle.silent.proofs.keys.close_by_rows.Goals as goal

pub loop-k-init : goal.loop-k-init
loop-k-init c = rows_to-zero _ _

pub loop-k-preserved : goal.loop-k-preserved
loop-k-preserved c =
    let inv = c.loop-k.invariant in
    rows_to-suc inv c.set_at.ensures c.union.ensures c.put_set.ensures

pub returns : goal.returns
returns c =
    rows_to→Gathered (omega arith) c.requires.1 c.loop-k.invariant
