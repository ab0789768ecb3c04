-- A model is deterministic exactly where no step branches.
-- Document 01, operation 6, and "Refused because of the state", 23. Assumes nothing.
use Rattle.std.specs.Prelude.{List, ◌⊎◌, ◌↔◌, ◌≡◌, refl, ℕ, suc, ◌-◌, ◌≤◌, ◌<◌, length}
use Rattle.std.proofs.Common.{inl, inr, sym, ap, subst, ◌∙◌, arith}
use Rattle.lts.proofs.TestsLaws.{lt_or_le}
use Rattle.text.specs.Model.{Model}
use Rattle.model.specs.System.{source, action, ReachableIn, DeterministicModel}
use Rattle.model.specs.Inner.Stored.{Stored}
use Rattle.letters.specs.Words.{Branches}

-- ---- branches

pub not_first_branches : {m : Model} (i : ℕ) → i < 1 → ¬ (Branches m i)
not_first_branches i l x = omega (arith, x.next_is)

pub not_branches : {m : Model} → DeterministicModel m → (j : ℕ) → ¬ (Branches m j)
not_branches {m} d j x =
    let l : x.before < length m.steps = omega (arith, x.next_is, x.number_lt) in
    let e : x.before ≡ j = d.one_step x.before j l x.number_lt
    (subst (ReachableIn m) (sym x.same_source) x.reachable) x.same_source x.same_action in
    omega (arith, x.next_is)

-- With the source p and the action a of the step before, and q and b of step j.
module _ {m : Model} {i j p q : ℕ} (n : i ≡ j - 1) (e : p ≡ source m i) (f : q ≡ source m j) where
  pub branches_source : Branches m j → p ≡ q
  branches_source x =
      let g : x.before ≡ i = omega (arith, x.next_is) in
      e ∙ ap (source m) (sym g) ∙ x.same_source ∙ sym f

  pub branches_action : {a b : ℕ} → a ≡ action m i → b ≡ action m j → Branches m j → a ≡ b
  branches_action d h x =
      let g : x.before ≡ i = omega (arith, x.next_is) in
      d ∙ ap (action m) (sym g) ∙ x.same_action ∙ sym h

  pub branches_reachable : Branches m j → ReachableIn m q
  branches_reachable x = subst (ReachableIn m) (sym f) x.reachable

  pub branches_of : {a b : ℕ} → 0 < j → j < length m.steps → p ≡ q → a ≡ action m i → b ≡ action m j → a ≡ b
      → ReachableIn m q → Branches m j
  branches_of pos l g d h k r = record {
    before = i;
    next_is = omega arith;
    number_lt = l;
    reachable = subst (ReachableIn m) f r;
    same_source = sym e ∙ g ∙ f;
    same_action = sym d ∙ k ∙ h;
  }

-- Two steps of one source and action have such neighbours, for steps rise by source, then action.
module _ {s : List ℕ} {m : Model} (st : Stored s m) where
  branches_of_two : (i j : ℕ) → i < j → j < length m.steps → ReachableIn m (source m i) → source m i ≡ source m j
      → action m i ≡ action m j → Branches m (suc i)
  branches_of_two i j l k r e f =
      let n : suc i < length m.steps = omega arith in
      let g : source m i ≡ source m (suc i) =
      omega (arith, st.source_le i (suc i) (omega arith) n, st.source_le (suc i) j l k) in
      let h : action m i ≡ action m (suc i) =
      omega (arith, st.action_le i (suc i) (omega arith) n g, st.action_le (suc i) j l k (sym g ∙ e)) in
      record {
        before = i;
        next_is = refl;
        number_lt = n;
        reachable = subst (ReachableIn m) g r;
        same_source = g;
        same_action = h;
      }

  pub deterministic_of_no_branch : ((j : ℕ) → ¬ (Branches m j)) → DeterministicModel m
  deterministic_of_no_branch none = record {
    one_step = λ i j li lj r e f. go i j li lj r e f (lt_or_le i j) (lt_or_le j i);
  }
    where
      go : (i j : ℕ) → i < length m.steps → j < length m.steps → ReachableIn m (source m i)
          → source m i ≡ source m j → action m i ≡ action m j → (i < j) ⊎ (j ≤ i) → (j < i) ⊎ (i ≤ j) → i ≡ j
      go i j li lj r e f (inl l) k = absurd (none (suc i) (branches_of_two i j l lj r e f))
      go i j li lj r e f (inr l) (inl k) =
          absurd (none (suc j) (branches_of_two j i k li (subst (ReachableIn m) e r) (sym e) (sym f)))
      go i j li lj r e f (inr l) (inr k) = omega arith

  pub no_branch↔deterministic : ((j : ℕ) → ¬ (Branches m j)) ↔ DeterministicModel m
  no_branch↔deterministic = (deterministic_of_no_branch, not_branches)
