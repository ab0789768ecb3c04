-- What Roll promises of its outcome, of what the answer tells.
use Rattle.till_c.specs.AnswerLaws.{plain_of-tells}
use Rattle.till_c.proofs.till_roll.Goals as goal

pub returns : goal.returns
returns c =
    record {
      roll_promise = rw c.page_answer.ensures.outcome_is c.roll.ensures;
      plain = plain_of-tells c.page_answer.ensures;
    }
