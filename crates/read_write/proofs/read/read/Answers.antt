-- By the test that led to each return; the lines' promise is the whole one where both tests pass.
use Rattle.std.proofs.Common.{refl}
use Rattle.std.proofs.lemmas.Result.{err_from_is_err_and}
use Rattle.read_write.specs.Laws.ReadAnswerLaws.{read_answer_done, read_answer_faulty}
use Rattle.read_write.specs.Laws.ReadAnswerLaws.{read_promise_short, read_promise_long, read_promise_lines}
use Rattle.read_write.specs.Laws.ReadAnswerLaws.{read_cause_short, read_cause_long, read_cause_lines}
use Rattle.read_write.proofs.read.read.Goals as goal

pub returns-then-store-lt-STORE_LENGTH : goal.returns-then-store-lt-STORE_LENGTH
returns-then-store-lt-STORE_LENGTH c = record {
  read_promise = read_promise_short _ _ c.if-store-lt-STORE_LENGTH.true;
  read_cause = read_cause_short _ _ _ c.if-store-lt-STORE_LENGTH.true;
}

pub returns-then-text-gt-TEXT_LIMIT : goal.returns-then-text-gt-TEXT_LIMIT
returns-then-text-gt-TEXT_LIMIT c =
    let long = c.if-store-lt-STORE_LENGTH.false in
    record {
      read_promise = read_promise_long _ _ long c.if-text-gt-TEXT_LIMIT.true;
      read_cause = read_cause_long _ _ long c.if-text-gt-TEXT_LIMIT.true;
    }

pub returns-in_err-read_lines : goal.returns-in_err-read_lines
returns-in_err-read_lines c =
    let p = err_from_is_err_and c.from_residual.result c.from_residual.ensures.1 in
    let faulty = read_answer_faulty c.read_lines.ensures c.in_err-read_lines.was in
    rw (p.1, p.2) (record {
      read_promise = read_promise_lines _ _ c.if-store-lt-STORE_LENGTH.false _ c.if-text-gt-TEXT_LIMIT.false faulty _
          c.read_lines.ensures.filled;
      read_cause = read_cause_lines _ _ c.if-store-lt-STORE_LENGTH.false _ c.if-text-gt-TEXT_LIMIT.false faulty;
    })

pub returns : goal.returns
returns c =
    let done = read_answer_done c.read_lines.ensures c.in_ok-read_lines.was in record {
      read_promise = read_promise_lines _ _ c.if-store-lt-STORE_LENGTH.false _ c.if-text-gt-TEXT_LIMIT.false done _
          c.read_lines.ensures.filled;
      read_cause = read_cause_lines _ _ c.if-store-lt-STORE_LENGTH.false _ c.if-text-gt-TEXT_LIMIT.false done;
    }
