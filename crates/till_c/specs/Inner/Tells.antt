-- What an answer was made to tell. Only the contracts of inner functions cite it.
-- Document 01, last paragraph: number and values for each case.
use Rattle.std.specs.Prelude.{[], ◌≡◌, Result, Ok, Err}
use Rattle.text.specs.Faults.{Outcome, answers}
use Rattle.read_write.specs.ReadPromise.{read_outcome}
use Rattle.judge.specs.JudgePromise.{judge_outcome}
use Rattle.judge.specs.WordPromise.{word_outcome}
use Rattle.judge.specs.declared.judge_word.JudgeWordAnswer.{JudgeWordAnswer}
use Rattle.read_write.specs.declared.read.ReadRefusal.{ReadRefusal}
use Rattle.till_c.specs.declared.answer.TillAnswer.{TillAnswer}
use Rattle.till_c.specs.declared.answer.TillTold.{TillTold}
use Rattle.till_c.specs.Answer.{answer_outcome, answer_for}

-- The answer tells an outcome and is the one for it.
pub record Tells (r : TillAnswer) (outcome : Outcome) : Type 0 where
  pub outcome_is : answer_outcome r ≡ outcome
  pub answer_is : r ≡ answer_for outcome

-- The three answers tell these outcomes.
pub record TellsThree (r : TillTold) (read judge word : Outcome) : Type 0 where
  pub read_tells : Tells r.read read
  pub judge_tells : Tells r.judge judge
  pub word_tells : Tells r.word word

-- What is not called tells no value.
abbrev pub TellsText : TillTold → Result JudgeWordAnswer ReadRefusal → Type 0
TellsText r (Err read) = TellsThree r (read_outcome (Err read)) (answers []) (answers [])
TellsText r (Ok told) = TellsThree r (answers []) (judge_outcome told.judge) (word_outcome told.word)
