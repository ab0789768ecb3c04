-- What an answer for callers in C tells.
-- Document 01, last paragraph: number and values for each case.
use Rattle.std.specs.Prelude.{cond, List, [], ◌∷◌, ◌≡◌, ℕ, zero, suc, eqb}
use Rattle.text.specs.Faults.{Outcome, answers, refuses}
use Rattle.till_c.specs.declared.answer.TillAnswer.{TillAnswer}

-- no value, one, two or three; no operation has more
abbrev pub values : ℕ → ℕ → ℕ → ℕ → List ℕ
values zero a b c = []
values (suc zero) a b c = a ∷ []
values (suc (suc zero)) a b c = a ∷ b ∷ []
values (suc (suc (suc n))) a b c = a ∷ b ∷ c ∷ []

-- number 0: a success with its values; any other number: a refusal with its place
unfoldable pub answer_outcome : TillAnswer → Outcome
answer_outcome r =
    cond (eqb r.number 0) (answers (values r.count r.first r.second r.third))
    (refuses r.number r.place)

-- The answer of a success with a count of values.
abbrev pub success : ℕ → ℕ → ℕ → ℕ → TillAnswer
success count a b c = record { number = 0; place = 0; count = count; first = a; second = b; third = c }

-- The answer for an outcome: what it does not tell is 0.
unfoldable pub answer_for : Outcome → TillAnswer
answer_for (answers []) = success 0 0 0 0
answer_for (answers (a ∷ [])) = success 1 a 0 0
answer_for (answers (a ∷ b ∷ [])) = success 2 a b 0
answer_for (answers (a ∷ b ∷ c ∷ more)) = success 3 a b c
answer_for (refuses number place) =
    record { number = number; place = place; count = 0; first = 0; second = 0; third = 0 }

-- The answer is the one for what it tells, so that each of its six numbers is fixed.
pub record Plain (r : TillAnswer) : Type 0 where
  pub plain : r ≡ answer_for (answer_outcome r)
