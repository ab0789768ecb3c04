-- Equal outcomes of Write are equal answers, so its promise, which is stated of the outcome, pins the answer too.
-- Document 01, operation 8. Assumes nothing.
use Rattle.std.specs.Prelude.{ℕ, Result, Ok, Err, cond, ◌≡◌, refl, eqb, get_or}
use Rattle.text.specs.Faults.{Outcome, answers, refuses}
use Rattle.text.specs.Laws.OutcomeLaws.{injective_of_inverse}
use Rattle.model.specs.declared.refusal.Refusal.{Refusal}
use Rattle.model.specs.declared.refusal.Refusal.TheVariants.{ShortList, NotGood}
use Rattle.read_write.specs.WritePromise.{write_outcome}

write_back : Outcome → Result ℕ Refusal
write_back (answers values) = Ok (get_or values 0 0)
write_back (refuses number place) = cond (eqb number 21) (Err (ShortList place)) (Err NotGood)

write_back_is : (a : Result ℕ Refusal) → write_back (write_outcome a) ≡ a
unfolding write_outcome write_back
write_back_is (Ok length) = refl
write_back_is (Err (ShortList place)) = refl
write_back_is (Err NotGood) = refl

pub write_outcome_injective : (a b : Result ℕ Refusal) → write_outcome a ≡ write_outcome b → a ≡ b
write_outcome_injective = injective_of_inverse write_outcome write_back write_back_is
