-- What Rank promises of its outcome, of what the answer tells.
use Rattle.till_c.specs.AnswerLaws.{plain_of-tells}
use Rattle.till_c.proofs.till_rank.Goals as goal

pub returns : goal.returns
returns c =
    record {
      rank_promise = rw c.rank_answer.ensures.outcome_is c.rank.ensures;
      plain = plain_of-tells c.rank_answer.ensures;
    }
