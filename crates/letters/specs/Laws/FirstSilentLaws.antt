-- What the role of a step's action says of a silent step; and a model has a first silent step that can be reached, or
-- none. Document 02, (vii). Assumes nothing.
use Rattle.std.specs.Prelude.{List, ◌⊎◌, ◌≡◌, ℕ, ◌≤◌, ◌<◌, T, length, get_or}
use Rattle.std.proofs.Common.{inl, inr, ⊎_elim, sym, ap, subst, ◌∙◌, arith, eqb→eq, eq-eqb}
use Rattle.lts.proofs.TestsLaws.{T-eqb, lt_or_le, eq_or_not}
use Rattle.text.specs.Laws.FirstLaws.{first_cases}
use Rattle.text.specs.Model.{Model, silent}
use Rattle.model.specs.System.{source, action, level, ReachableIn, SilentStep, NoSilentStep, view}
use Rattle.model.specs.Inner.Roles.{Roles}
use Rattle.model.specs.Inner.Stored.{Stored}
use Rattle.model.specs.Laws.System.StepTestLaws.{reachable_cases}
use Rattle.letters.specs.Words.{FirstSilent}

-- ---- the action a of step j, by its role

pub reachable_at : {m : Model} {p q : ℕ} → p ≡ q → ReachableIn m p → ReachableIn m q
reachable_at {m} e r = subst (ReachableIn m) e r

module _ {s : List ℕ} {m : Model} (st : Stored s m) {roles : List ℕ}
    (R : Roles (view m).levels m.head.actions roles) {a j : ℕ} (e : a ≡ action m j)
    (l : j < length m.steps) where
  pub role_of_silent_level : level m (action m j) ≡ silent → get_or roles a 0 ≡ silent
  role_of_silent_level z = ap (λ (x : ℕ). get_or roles x 0) e
      ∙ eqb→eq _ _ (subst T (R.silent_is (action m j) (st.action_lt j l)) (T-eqb z))

  pub silent_step_of : {p : ℕ} → get_or roles a 0 ≡ silent → p ≡ source m j → ReachableIn m p → SilentStep m j
  silent_step_of z f r = record {
    number_lt = l;
    is_silent = eqb→eq _ _ (subst T (sym (R.silent_is (action m j) (st.action_lt j l)
        ∙ eq-eqb _ _ (ap (λ (x : ℕ). get_or roles x 0) (sym e) ∙ z))) tt);
    reachable = reachable_at f r;
  }

-- ---- a first silent step, or none

module _ {s : List ℕ} {m : Model} (st : Stored s m) where
  silent_step_cases : (j : ℕ) → SilentStep m j ⊎ ¬ (SilentStep m j)
  silent_step_cases j = go (lt_or_le j (length m.steps)) (eq_or_not (level m (action m j)) silent)
      (reachable_cases st (source m j))
    where
      go : (j < length m.steps) ⊎ (length m.steps ≤ j)
          → (level m (action m j) ≡ silent) ⊎ ¬ (level m (action m j) ≡ silent)
          → ReachableIn m (source m j) ⊎ ¬ (ReachableIn m (source m j)) → SilentStep m j ⊎ ¬ (SilentStep m j)
      go (inr l) e r = inr (λ x. omega (arith, x.number_lt))
      go (inl l) (inr e) r = inr (λ x. e x.is_silent)
      go (inl l) (inl e) (inr r) = inr (λ x. r x.reachable)
      go (inl l) (inl e) (inl r) = inl (record { number_lt = l; is_silent = e; reachable = r })

  pub silent_cases : ((j : ℕ) × FirstSilent m j) ⊎ NoSilentStep m
  silent_cases = ⊎_elim inl (λ none. inr (λ j x. none j x.number_lt x))
      (first_cases (SilentStep m) silent_step_cases (length m.steps))
