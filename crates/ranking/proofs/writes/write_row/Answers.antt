-- The row is written up to q; a later store leaves the round where it stands.
use mathlib.Core.Path.{refl, ◌∙◌}
use native.Mathlib.Omega.{arith}
use Rattle.ranking.specs.Laws.TableWritesLaws.{written_refl, written_trans}
use Rattle.ranking.specs.Laws.TableWritesLaws.{row_zero, row_add_one, row_le, row_stays}
use Rattle.ranking.proofs.writes.write_row.Goals as goal

pub loop-q-init : goal.loop-q-init
loop-q-init c = (written_refl _, row_zero, refl)

pub loop-q-preserved : goal.loop-q-preserved
loop-q-preserved c =
    let inv = c.loop-q.invariant in
    let W = c.write_pair.ensures.by_index c.args.n (omega arith) (omega arith) (omega arith) in
    let row = row_stays W (omega arith) (omega arith) inv.1 in (
      written_trans inv.0 W,
      row_add_one row c.write_pair.ensures.separation_written,
      c.write_pair.auto.table ∙ inv.2,
    )

pub shape_of-table : goal.shape_of-table
shape_of-table c = c.loop-q.invariant.2

pub returns : goal.returns
returns c =
    let inv = c.loop-q.invariant in
    record {
      written = inv.0;
      row_written = row_le (omega arith) inv.1;
    }
