-- The rows of the first i states of the list are written.
use mathlib.Core.Path.{refl, ◌∙◌}
use native.Mathlib.Omega.{arith}
use Rattle.ranking.specs.Laws.TableWritesLaws.{written_refl, written_trans}
use Rattle.ranking.specs.Laws.TableWritesLaws.{rows_zero, rows_add_one, rows_le, rows_stay}
use Rattle.ranking.proofs.writes.write_rows.Goals as goal

pub loop-i-init : goal.loop-i-init
loop-i-init c = (written_refl _, rows_zero, refl)

pub write_row-requires : goal.write_row-requires
write_row-requires c =
    record {
      table_length_in_bounds = omega (arith, c.requires.table_length_in_bounds, c.loop-i.invariant.2);
      n_le_state_limit = (c.requires.n_le_state_limit.0, c.requires.n_le_state_limit.2 c.loop-i.i (omega arith));
    }

pub loop-i-preserved : goal.loop-i-preserved
loop-i-preserved c =
    let inv = c.loop-i.invariant in
    let below = c.requires.n_le_state_limit.2 in
    let rows = rows_stay c.write_row.ensures.written (λ i l. below i (omega arith)) inv.1 in (
      written_trans inv.0 c.write_row.ensures.written,
      rows_add_one rows c.write_row.ensures.row_written,
      c.write_row.auto.table ∙ inv.2,
    )

pub shape_of-table : goal.shape_of-table
shape_of-table c = c.loop-i.invariant.2

pub returns : goal.returns
returns c =
    let inv = c.loop-i.invariant in
    record {
      written = inv.0;
      rows_written = rows_le (omega arith) inv.1;
    }
