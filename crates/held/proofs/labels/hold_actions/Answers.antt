-- The actions below a that have steps are held and listed.
use mathlib.Core.Logic.{⊎_elim}
use mathlib.Core.Path.{◌≡◌, refl, subst}
use Prim.Native.Nat.{ℕ, ◌<◌}
use native.Mathlib.Omega.{arith}
use lib.ListN.{length}
use Rattle.text.specs.Limits.{action_limit}
use Rattle.silent.specs.Steps.{label_moves}
use Rattle.silent.specs.Laws.LabelledLaws.{label_move_none}
use Rattle.held.specs.Inner.Slots.{HeldTo}
use Rattle.held.specs.Laws.PoolLaws.{put_of-set, free_from_le}
use Rattle.held.specs.Laws.LabelRowsLaws.{label_move_among}
use Rattle.held.specs.Laws.HeldToLaws.{held_to-zero, held_to_none, held_to_suc}
use Rattle.held.proofs.labels.hold_actions.Goals as goal

pub loop-a-init : goal.loop-a-init
loop-a-init c =
    let P = c.requires.pooled in
    (omega arith, held_to-zero, P, record { free = λ i l. omega (arith, P.slot_lt i) })

pub hold_label-used-requires : goal.hold_label-used-requires
hold_label-used-requires c =
    let inv = c.loop-a.invariant in record {
      own_numbers = c.requires.own_numbers;
      targets = c.requires.targets;
      targets_2 = c.requires.targets_2;
      a_lt_action_limit = (c.loop-a-test.true, omega (arith, c.if-used-gt-ROOM.false), inv.2, inv.3);
    }

pub loop-a-preserved : goal.loop-a-preserved
loop-a-preserved c =
    let inv = c.loop-a.invariant in
    let l = c.loop-a-test.true in
    ⊎_elim
    (λ w.
    let made = w.hold_label-used.ensures in
    let fits : c.loop-a.count < length c.loop-a.labels = omega (arith, inv.1.count_le, l) in
    let P = put_of-set refl fits refl in
    let h = held_to_suc inv.1 (label_move_among c.args.steps.listed) inv.0 (omega arith)
    (λ p b q i j m. omega (arith, i, j)) P
    made.held_label made.labels_kept in
    rw (w.labels-is, w.slots-is, w.pool-is, w.used-is, w.count-is) (omega (arith, l), h, made.pooled.0, made.pooled.1))
    (λ w. rw (w.labels-is, w.slots-is, w.pool-is, w.used-is, w.count-is) (
      omega (arith, l),
      held_to_none inv.1 (label_move_none l w.if-steps-of.false),
      inv.2,
      free_from_le (omega arith) inv.3,
    ))
    c.if-steps-of.branch-raw

pub returns : goal.returns
returns c =
    let a = c.args in
    let inv = c.loop-a.invariant in
    let Move = label_moves a.steps in
    let e : c.loop-a.a ≡ action_limit = omega (arith, inv.0, c.loop-a-test.false) in (
      subst (λ (x : ℕ). HeldTo Move x c.loop-a.labels c.loop-a.count c.loop-a.slots
          c.loop-a.pool) e inv.1,
      inv.2,
      free_from_le (omega (arith, e)) inv.3,
    )
