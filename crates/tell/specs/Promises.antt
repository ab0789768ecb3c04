-- What `tell` promises: the promises of Read, Judge and Word, one call after the other on the same lists, and the
-- claim.
-- Document 01, "The operations, in the order of the work", 1, 4 and 6.
use Rattle.std.specs.Prelude.{List, [], ◌≡◌, ℕ, Result, Ok, Err}
use Rattle.text.specs.Faults.{Outcome, answers}
use Rattle.read_write.specs.declared.read.ReadRefusal.{ReadRefusal}
use Rattle.read_write.specs.ReadPromise.{read_outcome, ReadPromise, ReadCause}
use Rattle.judge.specs.JudgePromise.{judge_outcome}
use Rattle.judge.specs.declared.judge_word.JudgeWordAnswer.{JudgeWordAnswer}
use Rattle.judge.specs.WordPromise.{word_outcome}
use Rattle.judge.specs.JudgeWordPromise.{JudgeWordPromise}
use Rattle.tell.specs.Claim.{Claim}

-- Where Read refuses, with its cause, the other two are not called.
pub record NotRead (text store distances table word : List ℕ) (read : ReadRefusal)
    (store' distances' table' word' : List ℕ) : Type 0 where
  pub read_promise : ReadPromise text store (read_outcome (Err read)) store'
  pub read_cause : ReadCause text store (Err read)
  pub not_read : ¬ (read_outcome (Err read) ≡ answers [])
  pub distances_kept : distances' ≡ distances
  pub table_kept : table' ≡ table
  pub word_kept : word' ≡ word

-- Else Judge is called on the store as Read left it, and then Word, which leaves distances and table as Judge left
-- them.
pub record ReadJudged (text store distances table word : List ℕ) (judge shown : Outcome)
    (store' distances' table' word' : List ℕ) : Type 0 where
  pub read_promise : ReadPromise text store (answers []) store'
  pub judge_word_promise : JudgeWordPromise store' distances table word judge shown distances' table' word'

abbrev pub TellPromise : List ℕ → List ℕ → List ℕ → List ℕ → List ℕ
    → Result JudgeWordAnswer ReadRefusal → List ℕ → List ℕ → List ℕ → List ℕ → Type 0
TellPromise text store distances table word (Err r) store' distances' table' word' =
    NotRead text store distances table word r store' distances' table' word'
TellPromise text store distances table word (Ok told) store' distances' table' word' =
    ReadJudged text store distances table word (judge_outcome told.judge) (word_outcome told.word) store' distances' table' word'

-- The claim of what is told. Where Read refuses nothing is told, whatever Judge and Word would answer.
abbrev pub TellClaim : List ℕ → Result JudgeWordAnswer ReadRefusal → List ℕ → Type 0
TellClaim text (Err r) word' = (judge word : Outcome) → Claim text (read_outcome (Err r)) judge word word'
TellClaim text (Ok told) word' = Claim text (answers []) (judge_outcome told.judge) (word_outcome told.word) word'
