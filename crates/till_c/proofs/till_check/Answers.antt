-- What Check promises of its outcome, of what the answer tells.
use Rattle.till_c.specs.AnswerLaws.{plain_of-tells}
use Rattle.till_c.proofs.till_check.Goals as goal

pub returns : goal.returns
returns c =
    record {
      check_promise = rw c.check_answer.ensures.outcome_is c.check.ensures;
      plain = plain_of-tells c.check_answer.ensures;
    }
