-- The promise of `tell` pins its answer and the content of each list.
-- Document 01, "The operations, in the order of the work", 1, 4 and 6. Assumes nothing.
use Rattle.std.specs.Prelude.{List, [], ◌≡◌, ℕ, Result, Ok, Err}
use Rattle.std.proofs.Common.{sym, ap, subst, ◌∙◌}
use Rattle.text.specs.Faults.{Outcome, answers}
use Rattle.read_write.specs.declared.read.ReadRefusal.{ReadRefusal}
use Rattle.read_write.specs.ReadPromise.{read_outcome}
use Rattle.read_write.specs.Laws.ReadPromiseLaws.{read_promise_unique}
use Rattle.read_write.specs.Laws.ReadOutcomeLaws.{read_answer_unique}
use Rattle.letters.specs.declared.word.Shown.{Shown}
use Rattle.model.specs.declared.refusal.Refusal.{Refusal}
use Rattle.verdicts.specs.declared.judging.Verdict.{Verdict}
use Rattle.judge.specs.declared.judge_word.JudgeWordAnswer.{JudgeWordAnswer}
use Rattle.judge.specs.JudgePromise.{judge_outcome, JudgePromise}
use Rattle.judge.specs.Laws.JudgeOutcomeLaws.{judge_outcome_injective}
use Rattle.judge.specs.Laws.JudgePromiseLaws.{judge_promise_unique}
use Rattle.judge.specs.WordPromise.{word_outcome, WordPromise}
use Rattle.tell.specs.Promises.{NotRead, ReadJudged, TellPromise}
use Rattle.judge.specs.Laws.WordPromiseLaws.{word_outcome_injective, word_promise_unique}

module _ (text store distances table word : List ℕ) where
  -- What Read refuses is not judged.
  not_both : {read : ReadRefusal} {judge shown : Outcome} {s d t w s' d' t' w' : List ℕ}
      → NotRead text store distances table word read s d t w
      → ¬ (ReadJudged text store distances table word judge shown s' d' t' w')
  not_both {read} {s = s} {s' = s'} x y =
      x.not_read
      (read_promise_unique text store (read_outcome (Err read)) (answers []) s s' x.read_promise y.read_promise).0

  pub read_judged_unique : (j k v u : Outcome) (s d t w s' d' t' w' : List ℕ)
      → ReadJudged text store distances table word j v s d t w
      → ReadJudged text store distances table word k u s' d' t' w'
      → ((j ≡ k) × (v ≡ u)) × (s ≡ s') × (d ≡ d') × (t ≡ t') × (w ≡ w')
  read_judged_unique j k v u s d t w s' d' t' w' x y =
      let e = (read_promise_unique text store (answers []) (answers []) s s' x.read_promise y.read_promise).1 in
      let judged = judge_promise_unique s distances table j k d t d' t' x.judge_word_promise.judge_promise
      (subst (λ (z : List ℕ). JudgePromise z distances table k d' t') (sym e) y.judge_word_promise.judge_promise) in
      let shown = word_promise_unique s d t word v u d t w d' t' w' x.judge_word_promise.word_promise
      (subst (λ (z : List ℕ). WordPromise s d z word u d' t' w') (sym judged.2)
      (subst (λ (z : List ℕ). WordPromise s z t' word u d' t' w') (sym judged.1)
      (subst (λ (z : List ℕ). WordPromise z d' t' word u d' t' w') (sym e) y.judge_word_promise.word_promise))) in
      ((judged.0, shown.0), e, judged.1, judged.2, shown.3)

  same_answers : {j k : Result Verdict Refusal} {v u : Result Shown Refusal} → j ≡ k → v ≡ u
      → ◌≡◌ {A = JudgeWordAnswer} (record { judge = j; word = v }) (record { judge = k; word = u })
  same_answers e f = rw (e, f)

  pub tell_promise_unique : (a b : Result JudgeWordAnswer ReadRefusal) (s d t w s' d' t' w' : List ℕ)
      → TellPromise text store distances table word a s d t w
      → TellPromise text store distances table word b s' d' t' w'
      → (a ≡ b) × (s ≡ s') × (d ≡ d') × (t ≡ t') × (w ≡ w')
  tell_promise_unique (Err p) (Err q) s d t w s' d' t' w' x y =
      let e = read_promise_unique text store (read_outcome (Err p)) (read_outcome (Err q)) s s' x.read_promise
      y.read_promise in
      let r = read_answer_unique (Err p) (Err q) x.read_promise x.read_cause y.read_promise y.read_cause in
      let same : p ≡ q = cc in (
        ap Err same,
        e.1,
        x.distances_kept ∙ sym y.distances_kept,
        x.table_kept ∙ sym y.table_kept,
        x.word_kept ∙ sym y.word_kept,
      )
  tell_promise_unique (Err p) (Ok b) s d t w s' d' t' w' x y = absurd (not_both x y)
  tell_promise_unique (Ok a) (Err q) s d t w s' d' t' w' x y = absurd (not_both y x)
  tell_promise_unique (Ok a) (Ok b) s d t w s' d' t' w' x y =
      let e = read_judged_unique (judge_outcome a.judge) (judge_outcome b.judge) (word_outcome a.word)
      (word_outcome b.word) s d t w s' d' t' w'
      x y in (
        ap (λ (z : JudgeWordAnswer). Ok z) (same_answers (judge_outcome_injective a.judge b.judge e.0.0)
            (word_outcome_injective a.word b.word e.0.1)),
        e.1,
        e.2,
        e.3,
        e.4,
      )
