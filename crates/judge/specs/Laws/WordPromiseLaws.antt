-- Word's promise pins its answer and the content of each list. Equal outcomes are equal answers.
-- Document 01, operation 6 and "Refused because of the state". Assumes nothing.
use Rattle.std.specs.Prelude.{Result, Ok, Err, cond, List, ◌≡◌, refl, ℕ, eqb}
use Rattle.std.proofs.Common.{sym, ap, ◌∙◌}
use Rattle.text.specs.Faults.{Outcome, answers, refuses}
use Rattle.text.specs.Laws.OutcomeLaws.{injective_of_inverse}
use Rattle.model.proofs.Laws.OnStoreLaws.{on_store_unique}
use Rattle.verdicts.specs.Laws.JudgeFilledLaws.{filled_unique}
use Rattle.model.proofs.Laws.System.GoodStoredLaws.{good_stored}
use Rattle.letters.specs.declared.word.Shown.{Shown}
use Rattle.letters.specs.declared.word.Shown.TheVariants.{Word, NotDeterministic, Silent, NoLeak}
use Rattle.letters.specs.WordDone.{shown_outcome}
use Rattle.letters.specs.Laws.WordDoneLaws.{shown_back, shown_back_is, word_done_unique}
use Rattle.model.specs.declared.refusal.Refusal.{Refusal}
use Rattle.model.specs.declared.refusal.Refusal.TheVariants.{ShortList, NotGood}
use Rattle.judge.specs.WordPromise.{word_outcome, WordPromise}

word_back : Outcome → Result Shown Refusal
word_back (answers values) = Ok (shown_back (answers values))
word_back (refuses number place) =
    cond (eqb number 21) (Err (ShortList place))
    (cond (eqb number 22) (Err NotGood) (Ok (shown_back (refuses number place))))

word_back_shown : (s : Shown) → word_back (shown_outcome s) ≡ Ok (shown_back (shown_outcome s))
unfolding shown_outcome word_back
word_back_shown (Word length end) = refl
word_back_shown (NotDeterministic j) = refl
word_back_shown (Silent j) = refl
word_back_shown NoLeak = refl

word_back_is : (a : Result Shown Refusal) → word_back (word_outcome a) ≡ a
unfolding word_outcome word_back
word_back_is (Ok s) = word_back_shown s ∙ ap Ok (shown_back_is s)
word_back_is (Err (ShortList place)) = refl
word_back_is (Err NotGood) = refl

pub word_outcome_injective : (a b : Result Shown Refusal) → word_outcome a ≡ word_outcome b → a ≡ b
word_outcome_injective = injective_of_inverse word_outcome word_back word_back_is

pub word_promise_unique : (store distances table word : List ℕ) (t u : Outcome) (d' t' w' d'' t'' w'' : List ℕ)
    → WordPromise store distances table word t d' t' w' → WordPromise store distances table word u d'' t'' w''
    → (t ≡ u) × (d' ≡ d'') × (t' ≡ t'') × (w' ≡ w'')
word_promise_unique store distances table word t u d' t' w' d'' t'' w'' x y =
    let e = on_store_unique {Same = (d' ≡ d'') × (t' ≡ t'') × (w' ≡ w'')}
    (λ a b. (a.0 ∙ sym b.0, a.1 ∙ sym b.1, a.2 ∙ sym b.2))
    (λ g a b.
    let st = good_stored store g in
    let f = filled_unique st distances table d' t' d'' t'' a.0 b.0 in
    let h = word_done_unique st a.1 b.1 in
    (h.0, (f.0, f.1, h.1))) x y in
    (e.0, e.1.0, e.1.1, e.1.2)
