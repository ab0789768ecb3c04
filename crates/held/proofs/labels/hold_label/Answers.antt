-- One row gets the targets of the moves, and the next one those of the moves turned round.
use mathlib.Core.Logic.{inl}
use native.Mathlib.Omega.{arith}
use Rattle.lts.specs.Weak.{silent_label}
use Rattle.silent.specs.Inner.Targets.{Targets}
use Rattle.silent.specs.Laws.TurnedLaws.{of_turned, to_turned}
use Rattle.held.specs.Laws.PoolLaws.{free_from_le}
use Rattle.held.specs.Laws.RowsLaws.{target_row-action}
use Rattle.held.specs.Laws.LabelRowsLaws.{held_label_of_rows, labels_kept_of_rows}
use Rattle.held.proofs.labels.hold_label.Goals as goal

pub target_row-row-requires : goal.target_row-row-requires
target_row-row-requires c = inl c.requires.a_lt_action_limit.0

pub low_targets-requires : goal.low_targets-requires
low_targets-requires c =
    record {
      own_numbers = c.requires.own_numbers;
      a_lt_action_limit = c.requires.a_lt_action_limit.0;
      targets = c.requires.targets;
    }

pub hold_row-next-requires : goal.hold_row-next-requires
hold_row-next-requires c =
    let pre = c.requires.a_lt_action_limit in
    let e = target_row-action c.args.a.0 pre.0 in (
      omega (arith, c.target_row-row.ensures.1),
      omega (arith, pre.1),
      pre.2,
      free_from_le
          (omega (arith, e, c.target_row-row.ensures.0)) pre.3,
    )

pub low_targets-requires-2 : goal.low_targets-requires-2
low_targets-requires-2 c =
    let turned = c.turned.ensures in
    record {
      own_numbers = rw turned.n_is c.requires.own_numbers;
      a_lt_action_limit = c.requires.a_lt_action_limit.0;
      targets = to_turned (λ M. Targets M silent_label c.args.back.now) turned c.requires.targets_2;
    }

pub hold_row-requires : goal.hold_row-requires
hold_row-requires c =
    let pre = c.requires.a_lt_action_limit in
    let made = c.hold_row-next.ensures.lower_bound in
    (c.target_row-row.ensures.1, omega (arith, made.1, pre.1), made.2, made.3)

pub returns : goal.returns
returns c =
    let at = target_row-action c.args.a.0 c.requires.a_lt_action_limit.0 in record {
      held_label = held_label_of_rows c.args.steps.listed c.target_row-row.ensures.0 c.target_row-row.ensures.1
          c.low_targets.ensures
          (of_turned (λ M. Targets M c.args.a.0 c.low_targets-2.new.sets) c.turned.ensures c.low_targets-2.ensures) c.hold_row-next.ensures.row_held
          c.hold_row.ensures.rows_kept c.hold_row.ensures.row_held;
      labels_kept = labels_kept_of_rows c.target_row-row.ensures.0 c.hold_row-next.ensures.rows_kept
          c.hold_row.ensures.rows_kept;
      pooled = (
        c.hold_row.ensures.lower_bound.2,
        free_from_le (omega (arith, c.target_row-row.ensures.0, at))
            c.hold_row.ensures.lower_bound.3,
      );
    }
