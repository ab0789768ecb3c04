-- What `till_tell` promises: `TellPromise` (tell/Promises) and the claim, of the outcomes that its three answers tell.
-- Document 01, "The operations, in the order of the work", 1, 4 and 6; "Demand 3 is one claim [..]".
use Rattle.std.specs.Prelude.{List, [], ◌≡◌, ℕ}
use Rattle.text.specs.Faults.{answers}
use Rattle.read_write.specs.ReadPromise.{ReadPromise}
use Rattle.judge.specs.JudgePromise.{JudgePromise}
use Rattle.judge.specs.WordPromise.{WordPromise}
use Rattle.tell.specs.Claim.{Claim}
use Rattle.till_c.specs.declared.answer.TillTold.{TillTold}
use Rattle.till_c.specs.Answer.{answer_outcome, success, Plain}

-- Where Read refuses, the other two are not called: their answers are all 0.
pub record NotCalled (distances table word : List ℕ) (r : TillTold) (distances' table' word' : List ℕ) : Type 0 where
  pub judge_zero : r.judge ≡ success 0 0 0 0
  pub word_zero : r.word ≡ success 0 0 0 0
  pub distances_kept : distances' ≡ distances
  pub table_kept : table' ≡ table
  pub word_kept : word' ≡ word

-- Else Judge is called on the store as Read left it, and then Word, which leaves distances and table as Judge left
-- them.
pub record BothCalled (store distances table word : List ℕ) (r : TillTold) (distances' table' word' : List ℕ)
    : Type 0 where
  pub judge_promise : JudgePromise store distances table (answer_outcome r.judge) distances' table'
  pub word_promise : WordPromise store distances' table' word (answer_outcome r.word) distances' table' word'

-- The promise: which of the two holds is told by Read's answer.
pub record ToldPromise (text store distances table word : List ℕ) (r : TillTold)
    (store' distances' table' word' : List ℕ) : Type 0 where
  pub read_promise : ReadPromise text store (answer_outcome r.read) store'
  pub not_read : ¬ (answer_outcome r.read ≡ answers []) → NotCalled distances table word r distances' table' word'
  pub is_read : answer_outcome r.read ≡ answers []
      → BothCalled store' distances table word r distances' table' word'

-- The claim of what is told.
abbrev pub ToldClaim : List ℕ → TillTold → List ℕ → Type 0
ToldClaim text r word' =
    Claim text (answer_outcome r.read) (answer_outcome r.judge) (answer_outcome r.word) word'

-- Each of the eighteen numbers is fixed.
pub record ToldPlain (r : TillTold) : Type 0 where
  pub read_plain : Plain r.read
  pub judge_plain : Plain r.judge
  pub word_plain : Plain r.word
