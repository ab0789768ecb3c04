-- Number 0 and one value, the rest as in a success with no value. Assumes nothing.
use Rattle.std.proofs.Common.{refl}
use Rattle.till_c.specs.Answer.{answer_outcome, answer_for}
use Rattle.till_c.proofs.answer.value.Goals as goal

pub returns : goal.returns
unfolding answer_outcome answer_for
returns c = rw c.done.ensures.answer_is (record { outcome_is = refl; answer_is = refl })
