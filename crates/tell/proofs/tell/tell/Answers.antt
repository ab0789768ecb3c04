-- A refusal of Read is told as it is; what Read has left is judged, and demand 3 follows from the three promises.
use Rattle.std.proofs.lemmas.Result.{err_from_is_err_and}
use Rattle.tell.proofs.TextAnswers.{unread_promised, unread_claimed, read_long_good, judged_promised}
use Rattle.tell.proofs.TextAnswers.{judged_claimed}
use Rattle.tell.proofs.tell.tell.Goals as goal

pub judge_word-requires : goal.judge_word-requires
judge_word-requires c = read_long_good c.in_ok-read.ensures.read_promise

pub returns : goal.returns
returns c =
    let promise = c.in_ok-read.ensures.read_promise in record {
      tell_promise = judged_promised promise c.judge_word.result _ _ _ _ _ _ c.judge_word.ensures;
      tell_claim = judged_claimed promise c.judge_word.result _ _ _ _ _ _ c.judge_word.ensures;
    }

pub returns-in_err-read : goal.returns-in_err-read
returns-in_err-read c =
    let e = c.in_err-read.ensures in
    let p = err_from_is_err_and c.from_residual.result c.from_residual.ensures.1 in
    rw (p.1, p.2) (record {
      tell_promise = unread_promised _ e.read_promise e.read_cause _ _ _;
      tell_claim = unread_claimed _ e.read_promise _;
    })
