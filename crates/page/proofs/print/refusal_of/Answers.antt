-- Each arm is a case of `read_outcome`. Assumes nothing.
use Rattle.std.proofs.Common.{ap, ◌∙◌, sym, arith, ℕ, Err}
use Rattle.text.specs.Faults.{refuses}
use Rattle.read_write.specs.ReadPromise.{read_outcome}
use Rattle.page.proofs.print.refusal_of.Goals as goal

pub overflow_cast-result : goal.overflow_cast-result
unfolding read_outcome
overflow_cast-result c =
    omega (arith, c.requires.place_lt 21 _ (ap (λ r. read_outcome (Err r)) c.in-ShortList.is))

pub overflow_cast-result-in-Faulty : goal.overflow_cast-result-in-Faulty
unfolding read_outcome
overflow_cast-result-in-Faulty c =
    omega (arith, c.requires.place_lt _ _ (ap (λ r. read_outcome (Err r)) c.in-Faulty.is))

pub returns-in-ShortList : goal.returns-in-ShortList
unfolding read_outcome
returns-in-ShortList c = ap (λ r. read_outcome (Err r)) c.in-ShortList.is

pub returns-in-TooLong : goal.returns-in-TooLong
unfolding read_outcome
returns-in-TooLong c = ap (λ r. read_outcome (Err r)) c.in-TooLong.is

pub returns-in-Faulty : goal.returns-in-Faulty
unfolding read_outcome
returns-in-Faulty c =
    ap (λ r. read_outcome (Err r)) c.in-Faulty.is
    ∙ ap (λ (n : ℕ). refuses n c.in-Faulty.bad.line) (sym c.fault_number.ensures)
