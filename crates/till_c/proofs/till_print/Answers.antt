-- What `print` promises and claims of its outcome, of what the answer tells.
use Rattle.till_c.specs.AnswerLaws.{plain_of-tells}
use Rattle.till_c.proofs.till_print.Goals as goal

pub returns : goal.returns
returns c =
    record {
      print_promise = rw c.print_answer.ensures.outcome_is c.print.ensures.print_promise;
      print_claim = rw c.print_answer.ensures.outcome_is c.print.ensures.print_claim;
      plain = plain_of-tells c.print_answer.ensures;
    }
