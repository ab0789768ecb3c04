-- The rows of the first p states are copied.
use mathlib.Core.Path.{refl, ◌∙◌}
use native.Mathlib.Omega.{arith}
use Rattle.tree.specs.Laws.RowsLaws.{rows_copied-zero, rows_copied-suc}
use Rattle.tree.proofs.filling.copy_rows.Goals as goal

pub loop-p-init : goal.loop-p-init
loop-p-init c = (omega arith, refl, rows_copied-zero _)

pub copy_row-requires : goal.copy_row-requires
copy_row-requires c =
    let lt = c.requires.by_index c.loop-p.p (omega arith) in record {
      table_length_in_bounds = (
        omega (arith, c.loop-p.invariant.1, c.requires.table_length_in_bounds.0),
        c.requires.table_length_in_bounds.1,
      );
      p_lt_state_limit = (omega arith, omega (arith, lt, c.class_at.ensures));
    }

pub loop-p-preserved : goal.loop-p-preserved
loop-p-preserved c =
    let inv = c.loop-p.invariant in (
      omega arith,
      c.copy_row.auto.table ∙ inv.1,
      rows_copied-suc c.class_at.ensures (omega arith) (omega arith) inv.2
          c.copy_row.ensures,
    )

pub shape_of-table : goal.shape_of-table
shape_of-table c = c.loop-p.invariant.1

pub returns : goal.returns
returns c =
    let inv = c.loop-p.invariant in
    record { copied = λ p x l. inv.2.copied p x (omega (arith, l)); outside = inv.2.outside }
