-- What Word does on a good store pins its answer and its list.
-- Document 01, operation 6; document 02, (vii). Assumes nothing.
use Rattle.std.specs.Prelude.{cond, List, [], ◌∷◌, ◌++◌, ◌⊎◌, ◌≡◌, refl, ℕ, zero, suc, ◌-◌, ◌≤◌, ◌<◌, eqb, length, drop}
use Rattle.std.specs.Prelude.{get_or}
use Rattle.std.proofs.Common.{inl, inr, ⊎_elim, sym, ap, ◌∙◌, subst, arith}
use Rattle.lts.proofs.FirstWordLaws.{first_word_unique}
use Rattle.lts.proofs.TestsLaws.{lt_or_le, eq_or_not}
use Rattle.lts.specs.Word.{OnlyFrom}
use Rattle.lts.proofs.WordLaws.{only_from_unique}
use Rattle.text.specs.Faults.{Outcome, answers, refuses}
use Rattle.text.specs.Laws.FirstLaws.{first_cases}
use Rattle.text.specs.Model.{Model}
use Rattle.model.specs.System.{source, action, target, ReachableIn, DeterministicModel, NoSilentStep, view}
use Rattle.verdicts.specs.declared.judging.Verdict.{Verdict}
use Rattle.verdicts.specs.declared.judging.Verdict.TheVariants.{Passed, Refused}
use Rattle.model.specs.Inner.Stored.{Stored}
use Rattle.verdicts.specs.Inner.VerdictTest.{verdict_of}
use Rattle.verdicts.specs.Verdicts.{Judged}
use Rattle.model.specs.Laws.System.StepTestLaws.{reachable_cases}
use Rattle.verdicts.proofs.Laws.VerdictTestLaws.{verdict_of_judged}
use Rattle.letters.specs.declared.word.End.{End}
use Rattle.letters.specs.declared.word.End.TheVariants.{Source, Target}
use Rattle.letters.specs.declared.word.Shown.{Shown}
use Rattle.letters.specs.declared.word.Shown.TheVariants.{Word, NotDeterministic, Silent, NoLeak}
use Rattle.letters.specs.Words.{Branches, FirstBranch, FirstSilent, end_number, end_state, other_state}
use Rattle.letters.specs.Words.{WordOf, WordShown}
use Rattle.letters.specs.WordDone.{shown_outcome, WordDone}
use Rattle.letters.specs.Laws.FirstSilentLaws.{silent_cases}
use Rattle.letters.specs.Laws.WordsLaws.{branches_source, branches_action, branches_of}
use Rattle.letters.specs.Laws.WordsLaws.{deterministic_of_no_branch}

-- ---- outcomes tell what is shown apart

end_of : ℕ → End
end_of zero = Source
end_of (suc n) = Target

pub shown_back : Outcome → Shown
shown_back (answers values) = Word (get_or values 0 0) (end_of (get_or values 1 0))
shown_back (refuses number place) = cond (eqb number 23) (NotDeterministic (record { 0 = place }))
    (cond (eqb number 36) (Silent (record { 0 = place })) NoLeak)

end_of-end_number : (e : End) → end_of (end_number e) ≡ e
unfolding end_number end_of
end_of-end_number Source = refl
end_of-end_number Target = refl

pub shown_back_is : (r : Shown) → shown_back (shown_outcome r) ≡ r
unfolding shown_outcome shown_back
shown_back_is (Word n e) = ap (Word n) (end_of-end_number e)
shown_back_is (NotDeterministic j) = refl
shown_back_is (Silent j) = refl
shown_back_is NoLeak = refl

pub end_number_injective : (d e : End) → end_number d ≡ end_number e → d ≡ e
end_number_injective d e h = sym (end_of-end_number d) ∙ ap end_of h ∙ end_of-end_number e

-- ---- a first branch, or a deterministic model

module _ {s : List ℕ} {m : Model} (st : Stored s m) where
  branches_cases : (j : ℕ) → Branches m j ⊎ ¬ (Branches m j)
  branches_cases j = go (lt_or_le 0 j) (lt_or_le j (length m.steps)) (eq_or_not (source m (j - 1)) (source m j))
      (eq_or_not (action m (j - 1)) (action m j)) (reachable_cases st (source m j))
    where
      go : (0 < j) ⊎ (j ≤ 0) → (j < length m.steps) ⊎ (length m.steps ≤ j)
          → (source m (j - 1) ≡ source m j) ⊎ ¬ (source m (j - 1) ≡ source m j)
          → (action m (j - 1) ≡ action m j) ⊎ ¬ (action m (j - 1) ≡ action m j)
          → ReachableIn m (source m j) ⊎ ¬ (ReachableIn m (source m j)) → Branches m j ⊎ ¬ (Branches m j)
      go (inr k) l e f r = inr (λ x. omega (arith, x.next_is))
      go (inl k) (inr l) e f r = inr (λ x. omega (arith, x.number_lt))
      go (inl k) (inl l) (inr e) f r = inr (λ x. e (branches_source refl refl refl x))
      go (inl k) (inl l) (inl e) (inr f) r = inr (λ x. f (branches_action refl refl refl refl refl x))
      go (inl k) (inl l) (inl e) (inl f) (inr r) = inr (λ x. r x.reachable)
      go (inl k) (inl l) (inl e) (inl f) (inl r) = inl (branches_of refl refl refl k l e refl refl f r)

  pub branch_cases : ((j : ℕ) × FirstBranch m j) ⊎ DeterministicModel m
  branch_cases =
      ⊎_elim inl (λ none. inr (deterministic_of_no_branch st (λ j x. none j x.number_lt x)))
      (first_cases (Branches m) branches_cases (length m.steps))

-- ---- one word

end_unique : (m : Model) (j : ℕ) (w : List ℕ) (d e : End)
    → OnlyFrom (view m).Step (end_state m j d) (other_state m j d) w
    → OnlyFrom (view m).Step (end_state m j e) (other_state m j e) w → d ≡ e
end_unique m j w Source Source x y = refl
end_unique m j w Source Target x y = absurd (only_from_unique (view m).Step (source m j) (target m j) w x y)
end_unique m j w Target Source x y = absurd (only_from_unique (view m).Step (target m j) (source m j) w x y)
end_unique m j w Target Target x y = refl

pub word_of_unique : {m : Model} {j : ℕ} {w u : List ℕ} {d e : End} → WordOf m j w d → WordOf m j u e
    → (w ≡ u) × (d ≡ e)
word_of_unique {m} {j} {w} {u} {d} {e} x y =
    let f : w ≡ u = first_word_unique (view m) (source m j) (target m j) w u x.first_word y.first_word
    in (
      f,
      end_unique m j w d e x.only_from_end
          (subst (OnlyFrom (view m).Step (end_state m j e) (other_state m j e)) (sym f) y.only_from_end),
    )

pub word_shown_unique : {m : Model} {j d : ℕ} {t u : Outcome} {entry exit exit' : List ℕ} → WordShown m j d t entry exit
    → WordShown m j d u entry exit' → (t ≡ u) × (exit ≡ exit')
word_shown_unique {d = d} {entry = entry} x y =
    let same = word_of_unique x.word_of y.word_of in (
      x.outcome_is ∙ ap (λ (n : End). answers (d ∷ end_number n ∷ [])) same.1 ∙ sym y.outcome_is,
      x.list ∙ ap (λ (l : List ℕ). l ++ drop (length l) entry) same.0 ∙ sym y.list,
    )

-- ---- one answer

module _ {s : List ℕ} {m : Model} (st : Stored s m) {t u : Outcome} {word word' word'' : List ℕ} where
  pub word_done_unique : WordDone m t word word' → WordDone m u word word'' → (t ≡ u) × (word' ≡ word'')
  word_done_unique x y = go (branch_cases st)
    where
      judged : DeterministicModel m → NoSilentStep m → (v : Verdict) → Judged m v → (t ≡ u) × (word' ≡ word'')
      judged d n (Passed top) v =
          let a = x.passed d n v.bnid in
          let b = y.passed d n v.bnid in
          (a.0 ∙ sym b.0, a.1 ∙ sym b.1)
      judged d n (Refused j depth) v = word_shown_unique (x.refused d n j.0 depth v) (y.refused d n j.0 depth v)

      silent : DeterministicModel m → ((j : ℕ) × FirstSilent m j) ⊎ NoSilentStep m → (t ≡ u) × (word' ≡ word'')
      silent d (inl (j, h)) =
          let a = x.silent d j h in
          let b = y.silent d j h in
          (a.0 ∙ sym b.0, a.1 ∙ sym b.1)
      silent d (inr n) = judged d n (verdict_of m) (verdict_of_judged st)

      go : ((j : ℕ) × FirstBranch m j) ⊎ DeterministicModel m → (t ≡ u) × (word' ≡ word'')
      go (inl (j, h)) =
          let a = x.branching j h in
          let b = y.branching j h in
          (a.0 ∙ sym b.0, a.1 ∙ sym b.1)
      go (inr d) = silent d (silent_cases st)
