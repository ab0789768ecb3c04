-- A fault's number is not 0.
use native.Mathlib.Omega.{arith}
use Rattle.till_c.specs.AnswerLaws.{fault_number_positive}
use Rattle.till_c.proofs.answer.fault_answer.Goals as goal

pub refusal-requires : goal.refusal-requires
refusal-requires c = omega (arith, c.fault_number-number.ensures, fault_number_positive c.args.fault)

pub returns : goal.returns
returns c = rw c.fault_number-number.ensures at c.refusal.ensures
