-- What Write promises of its outcome, of what the answer tells.
use Rattle.till_c.specs.AnswerLaws.{plain_of-tells}
use Rattle.till_c.proofs.till_write.Goals as goal

pub returns : goal.returns
returns c =
    record {
      write_promise = rw c.write_answer.ensures.outcome_is c.write.ensures;
      plain = plain_of-tells c.write_answer.ensures;
    }
