-- The promise of `till_tell` pins each of its eighteen numbers and the content of each list.
-- Document 01, "The operations, in the order of the work", 1, 4 and 6. Assumes nothing.
use Rattle.std.specs.Prelude.{List, [], ◌∷◌, ◌⊎◌, ◌≡◌, refl, ℕ}
use Rattle.std.proofs.Common.{inl, inr, sym, ap, subst, ◌∙◌, arith}
use Rattle.text.specs.Faults.{Outcome, answers, refuses}
use Rattle.read_write.specs.ReadPromise.{ReadPromise}
use Rattle.read_write.specs.Laws.ReadPromiseLaws.{read_promise_unique}
use Rattle.tell.specs.Promises.{ReadJudged}
use Rattle.tell.specs.Laws.TellPromiseLaws.{read_judged_unique}
use Rattle.till_c.specs.declared.answer.TillAnswer.{TillAnswer}
use Rattle.till_c.specs.declared.answer.TillTold.{TillTold}
use Rattle.till_c.specs.Answer.{answer_outcome, answer_for, Plain}
use Rattle.till_c.specs.Told.{ToldPromise, ToldPlain}

-- Answers that tell one outcome are one.
pub plain_unique : (a b : TillAnswer) → Plain a → Plain b → answer_outcome a ≡ answer_outcome b → a ≡ b
plain_unique a b x y e = x.plain ∙ ap answer_for e ∙ sym y.plain

success_cases : (o : Outcome) → (o ≡ answers []) ⊎ ¬ (o ≡ answers [])
success_cases (answers []) = inl refl
success_cases (answers (n ∷ ns)) = inr (λ e. let z : ◌≡◌ {A = ℕ} 0 1 = cc in absurd (omega arith))
success_cases (refuses number place) = inr (λ e. let z : ◌≡◌ {A = ℕ} 0 1 = cc in absurd (omega arith))

told_same : (r q : TillTold) → r.read ≡ q.read → r.judge ≡ q.judge → r.word ≡ q.word → r ≡ q
told_same r q e f g = λ i. record { read = e i; judge = f i; word = g i }

module _ (text store distances table word : List ℕ) where
  read_judged : (r : TillTold) (s d t w : List ℕ) → answer_outcome r.read ≡ answers []
      → ToldPromise text store distances table word r s d t w
      → ReadJudged text store distances table word (answer_outcome r.judge) (answer_outcome r.word) s d t w
  read_judged r s d t w e p =
      let both = p.is_read e in record {
        read_promise = subst (λ (o : Outcome). ReadPromise text store o s) e p.read_promise;
        judge_word_promise = record { judge_promise = both.judge_promise; word_promise = both.word_promise };
      }

  pub told_promise_unique : (r q : TillTold) (s d t w s' d' t' w' : List ℕ)
      → ToldPromise text store distances table word r s d t w → ToldPlain r
      → ToldPromise text store distances table word q s' d' t' w' → ToldPlain q
      → (r ≡ q) × (s ≡ s') × (d ≡ d') × (t ≡ t') × (w ≡ w')
  told_promise_unique r q s d t w s' d' t' w' x a y b = go (success_cases (answer_outcome r.read))
    where
      reads : (answer_outcome r.read ≡ answer_outcome q.read) × (s ≡ s')
      reads = read_promise_unique text store (answer_outcome r.read) (answer_outcome q.read) s s'
          x.read_promise y.read_promise

      read_same : r.read ≡ q.read
      read_same = plain_unique r.read q.read a.read_plain b.read_plain reads.0

      go : (answer_outcome r.read ≡ answers []) ⊎ ¬ (answer_outcome r.read ≡ answers [])
          → (r ≡ q) × (s ≡ s') × (d ≡ d') × (t ≡ t') × (w ≡ w')
      go (inl e) =
          let u = read_judged_unique text store distances table word (answer_outcome r.judge)
          (answer_outcome q.judge) (answer_outcome r.word) (answer_outcome q.word) s d t w s' d' t' w'
          (read_judged r s d t w e x) (read_judged q s' d' t' w' (sym reads.0 ∙ e) y) in (
            told_same r q read_same
                (plain_unique r.judge q.judge a.judge_plain b.judge_plain u.0.0)
                (plain_unique r.word q.word a.word_plain b.word_plain u.0.1),
            u.1,
            u.2,
            u.3,
            u.4,
          )
      go (inr n) =
          let f = x.not_read n in
          let g = y.not_read (λ e. n (reads.0 ∙ e)) in (
            told_same r q read_same (f.judge_zero ∙ sym g.judge_zero) (f.word_zero ∙ sym g.word_zero),
            reads.1,
            f.distances_kept ∙ sym g.distances_kept,
            f.table_kept ∙ sym g.table_kept,
            f.word_kept ∙ sym g.word_kept,
          )
