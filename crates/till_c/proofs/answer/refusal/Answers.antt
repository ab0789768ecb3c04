-- The number is not 0, so the answer is a refusal; the rest is as in a success with no value. Assumes nothing.
use Rattle.std.proofs.Common.{refl, arith, ne_eqb}
use Rattle.till_c.specs.Answer.{answer_outcome, answer_for}
use Rattle.till_c.proofs.answer.refusal.Goals as goal

pub returns : goal.returns
unfolding answer_outcome answer_for
returns c =
    rw c.done.ensures.answer_is
    (record { outcome_is = rw (ne_eqb c.args.number 0 (λ e. omega arith)); answer_is = refl })
