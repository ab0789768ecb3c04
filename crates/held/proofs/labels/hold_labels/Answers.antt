-- First the actions, and then the silent label, the last.
use mathlib.Core.Logic.{inr}
use mathlib.Core.Path.{refl}
use Prim.Native.Nat.{◌<◌}
use native.Mathlib.Omega.{arith}
use lib.ListN.{length}
use Rattle.lts.specs.Weak.{silent_label}
use Rattle.silent.specs.Inner.Targets.{Targets}
use Rattle.silent.specs.Laws.TurnedLaws.{of_turned}
use Rattle.held.specs.Laws.PoolLaws.{put_of-set, free_from_le}
use Rattle.held.specs.Laws.RowsLaws.{target_row-silent}
use Rattle.held.specs.Laws.LabelRowsLaws.{held_label_of_rows, labels_kept_of_rows}
use Rattle.held.specs.Laws.HeldToLaws.{held_as_of_silent, held_list_of_silent}
use Rattle.held.proofs.labels.hold_labels.Goals as goal

pub silent_targets-requires : goal.silent_targets-requires
silent_targets-requires c =
    record {
      own_numbers = c.own_numbers.ensures.0;
    }

pub silent_targets-requires-2 : goal.silent_targets-requires-2
silent_targets-requires-2 c = record { own_numbers = rw c.turned.ensures.n_is c.own_numbers.ensures.0 }

pub hold_actions-requires : goal.hold_actions-requires
hold_actions-requires c =
    record {
      own_numbers = c.own_numbers.ensures.0;
      targets = c.silent_targets.ensures;
      targets_2 = of_turned (λ M. Targets M silent_label c.silent_targets-2.new.sets) c.turned.ensures
          c.silent_targets-2.ensures;
      pooled = c.requires.pooled;
    }

pub target_row-row-requires : goal.target_row-row-requires
target_row-row-requires c = inr refl

pub hold_row-next-requires : goal.hold_row-next-requires
hold_row-next-requires c =
    let held = c.in_ok-held.ensures in
    let e = target_row-silent silent_label (omega arith) in
    let room = c.if-held-gt-ROOM.false in (
      omega (arith, c.target_row-row.ensures.1),
      omega (arith, room),
      held.1,
      free_from_le
          (omega (arith, e, c.target_row-row.ensures.0)) held.2,
    )

pub hold_row-requires : goal.hold_row-requires
hold_row-requires c =
    let made = c.hold_row-next.ensures.lower_bound in
    (c.target_row-row.ensures.1, omega (arith, c.if-held-gt-ROOM.false, made.1), made.2, made.3)

pub overflow_add-result : goal.overflow_add-result
overflow_add-result c =
    let held = c.in_ok-held.ensures in
    omega (arith, held.0.count_le)

pub returns : goal.returns
returns c =
    let L = c.args.steps.listed in
    let e = c.target_row-row.ensures in
    let held = c.in_ok-held.ensures in
    let fits : c.in_ok-held.held.count < length c.hold_actions.new.labels = omega
    (arith, held.0.count_le) in
    let P = put_of-set refl fits refl in
    let H = held_label_of_rows L e.0 e.1 c.silent_targets.ensures
    (of_turned (λ M. Targets M silent_label c.silent_targets-2.new.sets) c.turned.ensures c.silent_targets-2.ensures)
    c.hold_row-next.ensures.row_held c.hold_row.ensures.rows_kept c.hold_row.ensures.row_held in
    let K = labels_kept_of_rows e.0 c.hold_row-next.ensures.rows_kept c.hold_row.ensures.rows_kept in
    record {
      held_list = held_list_of_silent L held.0 P H K c.hold_row.ensures.lower_bound.2;
      held_as = held_as_of_silent L held.0 P H K;
    }
