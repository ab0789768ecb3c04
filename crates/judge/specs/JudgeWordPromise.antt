-- The promises of Judge and then Word, one call after the other on the same lists.
-- Document 01, operations 4 and 6.
use Rattle.std.specs.Prelude.{List, ℕ}
use Rattle.text.specs.Faults.{Outcome}
use Rattle.judge.specs.JudgePromise.{JudgePromise}
use Rattle.judge.specs.WordPromise.{WordPromise}

-- Judge's promise, and then Word's on the lists as Judge left them.
pub record JudgeWordPromise (store distances table word : List ℕ) (judge shown : Outcome)
    (distances' table' word' : List ℕ) : Type 0 where
  pub judge_promise : JudgePromise store distances table judge distances' table'
  pub word_promise : WordPromise store distances' table' word shown distances' table' word'
