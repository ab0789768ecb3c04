-- The classes are divided by the silent label and the actions below a.
use Rattle.std.proofs.Common.{◌≡◌, subst, ℕ, arith}
use Rattle.text.specs.Limits.{action_limit}
use Rattle.silent.specs.Steps.{label_moves}
use Rattle.silent.specs.Laws.LabelledLaws.{label_move_none, label_move_label}
use Rattle.weak_ranks.specs.Inner.Dividing.{LabelBelow, DividedUnder}
use Rattle.weak_ranks.specs.Laws.LabelsLaws.{divided_under_action, divided_under_idle, refined_of_divided_under}
use Rattle.weak_ranks.proofs.rounds.divide_low.Goals as goal
use Rattle.weak_ranks.proofs.rounds.divide_low.Goals.{then-steps-of, else-steps-of}

pub loop-a-preserved : goal.loop-a-preserved
loop-a-preserved c =
    let inv = c.loop-a.invariant in
    elim c.if-steps-of.branch [
      | then-steps-of w ↦
          let D = divided_under_action inv.1 c.args.steps.listed.states_le w.low_keys.ensures
          w.divide_by_keys.ensures.divided_by in
          rw w.next-is (w.divide_by_keys.ensures.lead_classes, D)
      | else-steps-of w ↦
          let D = divided_under_idle inv.1 (label_move_none (omega arith) (omega arith)) in
          rw w.next-is (inv.0, D)
    ]

pub returns-clause-refined : goal.returns-clause-refined
returns-clause-refined c =
    let a = c.args in
    let inv = c.loop-a.invariant in
    let Move = label_moves a.steps in
    let e : c.loop-a.a ≡ action_limit = omega arith in
    let D : DividedUnder Move (LabelBelow action_limit) a.steps.n a.class.now c.loop-a.next =
    subst (λ (x : ℕ). DividedUnder Move (LabelBelow x) a.steps.n a.class.now c.loop-a.next) e inv.1 in
    refined_of_divided_under (λ p b q m. label_move_label c.args.steps.listed m) D
