-- What Reach promises of its outcome, of what the answer tells.
use Rattle.till_c.specs.AnswerLaws.{plain_of-tells}
use Rattle.till_c.proofs.till_reach.Goals as goal

pub returns : goal.returns
returns c =
    record {
      reach_promise = rw c.reach_answer.ensures.outcome_is c.reach.ensures;
      plain = plain_of-tells c.reach_answer.ensures;
    }
