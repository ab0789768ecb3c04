-- The parts below e are written.
use native.Mathlib.Omega.{arith}
use Rattle.tree.specs.Laws.RowsLaws.{parts_written_one, parts_written-suc, parts_written-end}
use Rattle.tree.proofs.rows.write_parts.Goals as goal

pub loop-e-init : goal.loop-e-init
loop-e-init c = (omega arith, omega arith, parts_written_one _)

pub write_entries-requires : goal.write_entries-requires
write_entries-requires c =
    c.requires.1 c.loop-e.e c.loop-e.invariant.0 (omega arith)

pub loop-e-preserved : goal.loop-e-preserved
loop-e-preserved c =
    let inv = c.loop-e.invariant in
    (omega arith, omega arith, parts_written-suc inv.0 inv.2 c.set_at.ensures c.write_entries.ensures)

pub returns : goal.returns
returns c =
    let inv = c.loop-e.invariant in
    parts_written-end (omega arith) inv.1 inv.2
