-- What the three answers tell keeps the promise of `tell` and its claim.
-- Document 01, "The operations, in the order of the work", 1, 4 and 6; "Demand 3 is one claim [..]". Assumes nothing.
use Rattle.std.specs.Prelude.{List, [], ℕ, Result, Ok, Err}
use Rattle.std.proofs.Common.{sym, ◌∙◌}
use Rattle.text.specs.Faults.{Outcome, answers}
use Rattle.judge.specs.declared.judge_word.JudgeWordAnswer.{JudgeWordAnswer}
use Rattle.read_write.specs.declared.read.ReadRefusal.{ReadRefusal}
use Rattle.tell.specs.Claim.{Claim}
use Rattle.tell.specs.Promises.{TellPromise, TellClaim}
use Rattle.till_c.specs.declared.answer.TillTold.{TillTold}
use Rattle.till_c.specs.Answer.{answer_for}
use Rattle.till_c.specs.AnswerLaws.{plain_of-tells}
use Rattle.till_c.specs.Inner.Tells.{TellsThree, TellsText}
use Rattle.till_c.specs.Told.{ToldPromise, ToldClaim, ToldPlain}

module _ {text store distances table word store' distances' table' word' : List ℕ} {r : TillTold} where
  pub told_promise_of_tell : (answer : Result JudgeWordAnswer ReadRefusal)
      → TellPromise text store distances table word answer store' distances' table' word' → TellsText r answer
      → ToldPromise text store distances table word r store' distances' table' word'
  unfolding answer_for
  told_promise_of_tell (Err read) p t = record {
    read_promise = rw t.read_tells.outcome_is p.read_promise;
    not_read = λ e. record {
      judge_zero = t.judge_tells.answer_is;
      word_zero = t.word_tells.answer_is;
      distances_kept = p.distances_kept;
      table_kept = p.table_kept;
      word_kept = p.word_kept;
    };
    is_read = λ e. absurd (p.not_read (sym t.read_tells.outcome_is ∙ e));
  }
  told_promise_of_tell (Ok told) p t = record {
    read_promise = rw t.read_tells.outcome_is p.read_promise;
    not_read = λ e. absurd (e t.read_tells.outcome_is);
    is_read = λ e. record {
      judge_promise = rw t.judge_tells.outcome_is p.judge_word_promise.judge_promise;
      word_promise = rw t.word_tells.outcome_is p.judge_word_promise.word_promise;
    };
  }

claim_of_three : {text word' : List ℕ} (r : TillTold) {read judge word : Outcome} → Claim text read judge word word'
    → TellsThree r read judge word → ToldClaim text r word'
claim_of_three r c t = rw (t.read_tells.outcome_is, t.judge_tells.outcome_is, t.word_tells.outcome_is) c

pub told_claim_of_tell : {text word' : List ℕ} (r : TillTold) (answer : Result JudgeWordAnswer ReadRefusal) → TellClaim text answer word'
    → TellsText r answer → ToldClaim text r word'
told_claim_of_tell r (Err read) c t = claim_of_three r (c (answers []) (answers [])) t
told_claim_of_tell r (Ok told) c t = claim_of_three r c t

plain_of_three : {r : TillTold} {read judge word : Outcome} → TellsThree r read judge word → ToldPlain r
plain_of_three t = record {
  read_plain = plain_of-tells t.read_tells;
  judge_plain = plain_of-tells t.judge_tells;
  word_plain = plain_of-tells t.word_tells;
}

pub told_plain_of-tells : {r : TillTold} (answer : Result JudgeWordAnswer ReadRefusal) → TellsText r answer → ToldPlain r
told_plain_of-tells (Err read) t = plain_of_three t
told_plain_of-tells (Ok told) t = plain_of_three t
