-- What Run promises of its outcome, of what the answer tells.
use Rattle.till_c.specs.AnswerLaws.{plain_of-tells}
use Rattle.till_c.proofs.till_run.Goals as goal

pub returns : goal.returns
returns c =
    record {
      run_promise = rw c.run_answer.ensures.outcome_is c.run.ensures;
      plain = plain_of-tells c.run_answer.ensures;
    }
