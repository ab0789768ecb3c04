-- What Judge promises of its outcome, of what the answer tells.
use Rattle.till_c.specs.AnswerLaws.{plain_of-tells}
use Rattle.till_c.proofs.till_judge.Goals as goal

pub returns : goal.returns
returns c =
    record {
      judge_promise = rw c.judge_answer.ensures.outcome_is c.judge.ensures;
      plain = plain_of-tells c.judge_answer.ensures;
    }
