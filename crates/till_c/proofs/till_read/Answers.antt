-- What Read promises of its outcome, of what the answer tells.
use Rattle.till_c.specs.AnswerLaws.{plain_of-tells}
use Rattle.till_c.proofs.till_read.Goals as goal

pub returns : goal.returns
returns c =
    record {
      read_promise = rw c.read_answer.ensures.outcome_is c.read.ensures.read_promise;
      plain = plain_of-tells c.read_answer.ensures;
    }
