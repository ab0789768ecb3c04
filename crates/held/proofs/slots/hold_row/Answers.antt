-- The states below p have their sets, each at most one of the pool.
use native.Mathlib.Omega.{arith}
use Rattle.held.specs.Laws.PoolLaws.{free_from_le}
use Rattle.held.specs.Laws.SlotsLaws.{row_held-zero, row_held_at, rows_kept_refl, row_held_suc, rows_kept_suc}
use Rattle.held.proofs.slots.hold_row.Goals as goal

pub loop-p-init : goal.loop-p-init
loop-p-init c = (omega arith, row_held-zero, rows_kept_refl _ _ _, omega arith, omega arith, c.requires.2, c.requires.3)

pub hold_set-next-requires : goal.hold_set-next-requires
hold_set-next-requires c =
    let inv = c.loop-p.invariant in
    let l = c.loop-p-test.true in
    record {
      row_lt_slot_rows = (c.requires.0, l, omega (arith, l, inv.4, c.requires.1));
      pooled = (inv.5, inv.6);
    }

pub loop-p-preserved : goal.loop-p-preserved
loop-p-preserved c =
    let inv = c.loop-p.invariant in
    let l = c.loop-p-test.true in (
      omega (arith, l),
      row_held_suc c.hold_set-next.ensures.set_held c.set_at-s.ensures inv.1,
      rows_kept_suc c.hold_set-next.ensures.set_held l inv.2,
      omega (arith, inv.3, c.hold_set-next.ensures.lower_bound.0),
      omega (arith, inv.4, c.hold_set-next.ensures.lower_bound.1),
      c.hold_set-next.ensures.lower_bound.2,
      free_from_le (omega arith) c.hold_set-next.ensures.lower_bound.3,
    )

pub returns : goal.returns
returns c =
    let inv = c.loop-p.invariant in
    let end = c.loop-p-test.false in
    let l = inv.0 in record {
      row_held = row_held_at (omega (arith, l, end)) inv.1;
      rows_kept = inv.2;
      lower_bound = (inv.3, omega (arith, l, inv.4), inv.5, free_from_le (omega (arith, l)) inv.6);
    }
