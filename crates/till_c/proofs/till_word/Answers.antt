-- What Word promises of its outcome, of what the answer tells.
use Rattle.till_c.specs.AnswerLaws.{plain_of-tells}
use Rattle.till_c.proofs.till_word.Goals as goal

pub returns : goal.returns
returns c =
    record {
      word_promise = rw c.word_answer.ensures.outcome_is c.word.ensures;
      plain = plain_of-tells c.word_answer.ensures;
    }
