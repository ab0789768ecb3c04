-- What `tell` promises and claims, of what the three answers tell.
use Rattle.till_c.specs.ToldLaws.{told_promise_of_tell, told_claim_of_tell, told_plain_of-tells}
use Rattle.till_c.proofs.till_tell.Goals as goal

pub returns : goal.returns
returns c =
    record {
      told_promise = told_promise_of_tell c.tell.result c.tell.ensures.tell_promise c.tell_answer.ensures;
      told_claim = told_claim_of_tell _ c.tell.result c.tell.ensures.tell_claim c.tell_answer.ensures;
      told_plain = told_plain_of-tells c.tell.result c.tell_answer.ensures;
    }
