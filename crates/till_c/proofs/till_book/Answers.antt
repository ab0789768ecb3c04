-- What Book promises of its outcome, of what the answer tells.
use Rattle.till_c.specs.AnswerLaws.{plain_of-tells}
use Rattle.till_c.proofs.till_book.Goals as goal

pub returns : goal.returns
returns c =
    record {
      book_promise = rw c.book_answer.ensures.outcome_is c.book.ensures;
      plain = plain_of-tells c.book_answer.ensures;
    }
