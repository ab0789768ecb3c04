-- An answer that tells an outcome is plain; a fault's number is none of a success. Assumes nothing.
use Rattle.std.specs.Prelude.{◌≡◌, ◌<◌}
use Rattle.std.proofs.Common.{sym, ap, subst, ◌∙◌, arith}
use Rattle.text.specs.declared.Fault.{Fault}
use Rattle.text.specs.declared.Fault.TheVariants.{Absent, Shape, Digits, Range, Repeated, Order, StartOrder}
use Rattle.text.specs.declared.Fault.TheVariants.{NoHigh}
use Rattle.text.specs.Faults.{Outcome, fault_number}
use Rattle.till_c.specs.declared.answer.TillAnswer.{TillAnswer}
use Rattle.till_c.specs.Answer.{answer_for, Plain}
use Rattle.till_c.specs.Inner.Tells.{Tells}

pub plain_of-tells : {r : TillAnswer} {outcome : Outcome} → Tells r outcome → Plain r
plain_of-tells t = record { plain = t.answer_is ∙ ap answer_for (sym t.outcome_is) }

-- What tells the outcome of an operation's answer tells that of one equal to it.
pub tells_at : {A : Type 0} (f : A → Outcome) {a b : A} {r : TillAnswer} → a ≡ b → Tells r (f b) → Tells r (f a)
tells_at f {r = r} e t = subst (Tells r) (sym (ap f e)) t

pub fault_number_positive : (fault : Fault) → 0 < fault_number fault
fault_number_positive Absent = omega arith
fault_number_positive Shape = omega arith
fault_number_positive Digits = omega arith
fault_number_positive Range = omega arith
fault_number_positive Repeated = omega arith
fault_number_positive Order = omega arith
fault_number_positive StartOrder = omega arith
fault_number_positive NoHigh = omega arith
