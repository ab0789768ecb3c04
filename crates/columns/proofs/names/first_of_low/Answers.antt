-- Steps of one state rise by action, so the step before tells whether the action is new. Assumes nothing.
use Rattle.std.proofs.Common.{Bool, true, false, not, eqb, ◌≡◌, sym, ap, ◌∙◌, ◌+◌, ◌-◌, ◌≤◌, arith}
use Rattle.text.specs.declared.Action.{Action}
use Rattle.text.specs.Decides.{Decides}
use Rattle.text.specs.Laws.DecidesLaws.{decides_eqb}
use Rattle.model.specs.Laws.System.RolesLaws.{low_of_role}
use Rattle.model.specs.Laws.System.StoredLaws.{stored_action}
use Rattle.columns.specs.Laws.FirstLowLaws.{first_low_change, not_first_low}
use Rattle.columns.proofs.names.first_of_low.Goals as goal

decides_not : {P Q : Type 0} (b : Bool) → Decides b Q → (¬ Q → P) → (Q → ¬ P) → Decides (not b) P
decides_not true d f g = g d
decides_not false d f g = f d

pub returns-else-j-from : goal.returns-else-j-from
returns-else-j-from c =
    let step = c.requires.step_from in
    let n : c.args.j.0 - 1 + 1 ≡ c.args.j.0 = omega (arith, step.from_le, c.if-j-from.false) in
    let e = ap (λ (x : Action). x.0) c.action-a.ensures ∙ stored_action c.requires.stored _ step.number_lt in
    let f = ap (λ (x : Action). x.0) c.action.ensures
    ∙ stored_action c.requires.stored (c.args.j.0 - 1) (omega (arith, n, step.number_lt)) in
    let t = low_of_role c.requires.roles_of.roles_are e (c.requires.stored.action_lt _ step.number_lt)
    c.if-is_low.ensures in
    let before : c.args.from ≤ c.args.j.0 - 1 = omega (arith, step.from_le, c.if-j-from.false) in
    let a = c.action-a.result.0 in
    let b = c.action.result.0 in
    let same : Decides (eqb b a) (b ≡ a) = decides_eqb b a (λ h. h) (λ h. h) in
    rw c.ne.ensures
    (decides_not (eqb b a) same
    (λ d. first_low_change c.requires.stored step.number_lt step.begins n before t (λ x. d (f ∙ x ∙ sym e)))
    (λ x. not_first_low c.requires.stored step.number_lt step.begins n before (sym f ∙ x ∙ e)))
