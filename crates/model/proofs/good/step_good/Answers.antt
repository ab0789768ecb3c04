-- What is tested of the steps that were read holds of the steps that stand there.
use Rattle.std.proofs.Common.{◌≡◌, Bool, arith, sym, ap, ◌∙◌}
use Rattle.text.specs.declared.StepLine.{StepLine}
use Rattle.text.specs.Laws.DecidesLaws.{decides_iff, decides_test, T_of_true}
use Rattle.text.specs.Lines.{step_fits?}
use Rattle.text.specs.Model.{above?}
use Rattle.model.proofs.good.step_good.Goals as goal

above_at : {a b s t : StepLine} {r : Bool} → a ≡ s → b ≡ t → r ≡ above? a b → r ≡ above? s t
above_at d e f = cc

pub returns-else-j-eq0 : goal.returns-else-j-eq0
returns-else-j-eq0 c =
    let fits = sym (c.step_fits.ensures ∙ ap (step_fits? _) c.step_line-s.ensures) ∙ c.if-step_fits.true in
    let r = c.is_above.result in
    decides_iff r (λ t. record { in_range = T_of_true _ fits; rising = λ h. t }) (λ p. p.rising (omega arith))
    (decides_test r _ (above_at c.step_line.ensures c.step_line-s.ensures c.is_above.ensures))
