-- The rows below c are filled. The row of an origin comes before, and stands.
use native.Mathlib.Omega.{arith}
use Rattle.tree.specs.Laws.RowsLaws.{rows_filled_one, rows_filled_suc, rows_filled-end}
use Rattle.tree.proofs.rows.fill_rows.Goals as goal

pub loop-c-init : goal.loop-c-init
loop-c-init c = (omega arith, omega arith, rows_filled_one _)

pub take_row-requires : goal.take_row-requires
take_row-requires c =
    omega (arith, c.requires.1 c.loop-c.c c.loop-c.invariant.0 (omega arith))

pub loop-c-preserved : goal.loop-c-preserved
loop-c-preserved c =
    let inv = c.loop-c.invariant in
    let lt = c.requires.1 in (
      omega arith,
      omega arith,
      rows_filled_suc inv.0 (λ d p l. lt d p (omega arith)) inv.2 c.take_row.ensures
          c.fill_row.ensures c.set_at.ensures c.write_entries.ensures,
    )

pub returns : goal.returns
returns c =
    let inv = c.loop-c.invariant in
    rows_filled-end (omega arith) inv.1 inv.2
