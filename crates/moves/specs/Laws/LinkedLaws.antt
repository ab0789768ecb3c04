-- The steps are linked by label, the last first, and those of a label are listed along the links.
-- Document 02, (vii). Assumes nothing.
use Rattle.std.specs.Prelude.{List, ◌⊎◌, ◌≡◌, refl, ℕ, ◌+◌, ◌≤◌, ◌<◌, length, get_or, set}
use Rattle.std.proofs.Common.{inl, inr, sym, ap, ◌∙◌, subst, arith, get_or-set_same, get_or-set_other}
use Rattle.lts.proofs.TestsLaws.{eq_or_not}
use Rattle.text.specs.Limits.{action_limit}
use Rattle.text.specs.Model.{Model}
use Rattle.model.specs.System.{source, target}
use Rattle.moves.specs.Inner.Listing.{Appended, Among}
use Rattle.moves.specs.Inner.Labelling.{HasLabel, low_label, tick_label, OnlyLabel, StepLabel, LabelledAs}
use Rattle.moves.specs.Inner.Labelling.{FirstLabelled, Linked}
use Rattle.moves.specs.Laws.ListingLaws.{appended-nil, appended_step, appended_steps}

-- ---- the one label of an action, or none

module _ {IsLow IsSilent : Type 0} {a : ℕ} where
  pub only_label_low : a < action_limit → IsLow → ¬ IsSilent → OnlyLabel (λ l. HasLabel IsLow IsSilent l a) a
  only_label_low l x d = record { label_le = omega arith; has = λ _. low_label refl l x; only = only }
    where
      only : (other : ℕ) → HasLabel IsLow IsSilent other a → other ≡ a
      only other (low_label e _ _) = sym e
      only other (tick_label _ y) = absurd (d y)

  pub only_label_silent : ¬ IsLow → IsSilent → OnlyLabel (λ l. HasLabel IsLow IsSilent l a) action_limit
  only_label_silent d x = record { label_le = omega arith; has = λ _. tick_label refl x; only = only }
    where
      only : (other : ℕ) → HasLabel IsLow IsSilent other a → other ≡ action_limit
      only other (low_label _ _ y) = absurd (d y)
      only other (tick_label e _) = e

  pub only_label_none : ¬ IsLow → ¬ IsSilent → OnlyLabel (λ l. HasLabel IsLow IsSilent l a) (action_limit + 1)
  only_label_none d e = record { label_le = omega arith; has = λ l. absurd (omega (arith, l)); only = only }
    where
      only : (other : ℕ) → HasLabel IsLow IsSilent other a → other ≡ action_limit + 1
      only other (low_label _ _ y) = absurd (d y)
      only other (tick_label _ y) = absurd (e y)

  pub no_label : ¬ IsLow → ¬ IsSilent → (label : ℕ) → ¬ (HasLabel IsLow IsSilent label a)
  no_label d e label (low_label _ _ y) = d y
  no_label d e label (tick_label _ y) = e y

  has_label_le : {label : ℕ} → HasLabel IsLow IsSilent label a → label ≤ action_limit
  has_label_le (low_label _ l _) = omega arith
  has_label_le (tick_label e _) = omega arith

pub only_label-map : {Has Same : ℕ → Type 0} {label : ℕ} → ((l : ℕ) → Has l → Same l) → ((l : ℕ) → Same l → Has l)
    → OnlyLabel Has label → OnlyLabel Same label
only_label-map f g x = record {
  label_le = x.label_le;
  has = λ l. f _ (x.has l);
  only = λ l y. x.only l (g l y);
}

-- ---- one step more is linked

module _ {m : Model} {label j : ℕ} where
  first_labelled_refl : j < length m.steps → StepLabel m label j → FirstLabelled m label j j
  first_labelled_refl l h = record {
    from_le = omega arith;
    number_le = omega arith;
    none_before = λ k a b. absurd (omega arith);
    has_label = λ _. h;
  }

  first_labelled_skip : {k : ℕ} → ¬ (StepLabel m label j) → FirstLabelled m label (j + 1) k → FirstLabelled m label j k
  first_labelled_skip {k} d x = record {
    from_le = omega (arith, x.from_le);
    number_le = x.number_le;
    none_before = λ i a b. none i a b (eq_or_not i j);
    has_label = x.has_label;
  }
    where
      none : (i : ℕ) → j ≤ i → i < k → (i ≡ j) ⊎ ¬ (i ≡ j) → ¬ (StepLabel m label i)
      none i a b (inl e) h = d (subst (StepLabel m label) e h)
      none i a b (inr n) h = x.none_before i (omega (arith, a, n)) b h

-- no step is linked yet
pub linked_none : {m : Model} {heads nexts : List ℕ}
    → ((label : ℕ) → label ≤ action_limit → get_or heads label 0 ≡ length m.steps)
    → Linked m (length m.steps) heads nexts
linked_none {m} h = record {
  head = λ label l. subst (FirstLabelled m label (length m.steps)) (sym (h label l)) (record {
    from_le = omega arith;
    number_le = omega arith;
    none_before = λ k a b. absurd (omega arith);
    has_label = λ k. absurd (omega arith);
  });
  next = λ j label l k. absurd (omega arith);
}

module _ {m : Model} {j label : ℕ} {heads nexts : List ℕ} (lj : j < length m.steps)
    (one : OnlyLabel (λ l. StepLabel m l j) label) (room : label < length heads) (long : j < length nexts)
    (x : Linked m (j + 1) heads nexts) where
  head_of : (l : ℕ) → l ≤ action_limit → (l ≡ label) ⊎ ¬ (l ≡ label)
      → FirstLabelled m l j (get_or (set heads label j) l 0)
  head_of l k (inl e) =
      let at = ap (λ (z : ℕ). get_or (set heads label j) z 0) e ∙ get_or-set_same heads label j 0 room in
      subst (FirstLabelled m l j) (sym at)
      (first_labelled_refl lj (subst (λ (z : ℕ). StepLabel m z j) (sym e) (one.has (omega (arith, e, k)))))
  head_of l k (inr d) =
      subst (FirstLabelled m l j) (sym (get_or-set_other heads label l j 0 d))
      (first_labelled_skip (λ h. d (one.only l h)) (x.head l k))

  next_of : (i l : ℕ) → j ≤ i → i < length m.steps → StepLabel m l i → (i ≡ j) ⊎ ¬ (i ≡ j)
      → FirstLabelled m l (i + 1) (get_or (set nexts j (get_or heads label 0)) i 0)
  next_of i l a b h (inl e) =
      let same = one.only l (subst (StepLabel m l) e h) in
      let at = get_or-set_same nexts j (get_or heads label 0) 0 long ∙ ap (λ (z : ℕ). get_or heads z 0) (sym same) in
      subst (λ (z : ℕ). FirstLabelled m l (z + 1) (get_or (set nexts j (get_or heads label 0)) z 0)) (sym e)
      (subst (FirstLabelled m l (j + 1)) (sym at) (x.head l (has_label_le h)))
  next_of i l a b h (inr d) =
      subst (FirstLabelled m l (i + 1)) (sym (get_or-set_other nexts j i (get_or heads label 0) 0 d))
      (x.next i l (omega (arith, a, d)) b h)

  pub linked_step : Linked m j (set heads label j) (set nexts j (get_or heads label 0))
  linked_step = record {
    head = λ l k. head_of l k (eq_or_not l label);
    next = λ i l a b h. next_of i l a b h (eq_or_not i j);
  }

-- a step that has no label is passed by
pub linked_skip : {m : Model} {j : ℕ} {heads nexts : List ℕ} → ((label : ℕ) → ¬ (StepLabel m label j))
    → Linked m (j + 1) heads nexts → Linked m j heads nexts
linked_skip {m} {j} {nexts = nexts} none x = record {
  head = λ l k. first_labelled_skip (none l) (x.head l k);
  next = λ i l a b h. next i l a b h (eq_or_not i j);
}
  where
    next : (i l : ℕ) → j ≤ i → i < length m.steps → StepLabel m l i → (i ≡ j) ⊎ ¬ (i ≡ j)
        → FirstLabelled m l (i + 1) (get_or nexts i 0)
    next i l a b h (inl e) = absurd (none l (subst (StepLabel m l) e h))
    next i l a b h (inr d) = x.next i l (omega (arith, a, d)) b h

-- ---- the steps of a label are listed along the links

module _ {m : Model} {label : ℕ} where
  -- no step between two of the label has it
  pub appended_gap : {from to at : ℕ} {sources targets : List ℕ} → FirstLabelled m label from to
      → Appended (Among (LabelledAs m label) from to) at at sources targets sources targets
  appended_gap f =
      appended-nil (λ p q x. f.none_before x.number x.from_le x.to_lt x.holds.has_label)

  appended_labelled : {j at : ℕ} {sources targets : List ℕ} → at < length sources → at < length targets
      → StepLabel m label j
      → Appended (Among (LabelledAs m label) j (j + 1)) at (at + 1) sources targets (set sources at (source m j))
      (set targets at (target m j))
  appended_labelled ls lt h = appended_step ls lt
      (record { has_label = h; source_is = refl; target_is = refl })
      (λ b r x. (x.source_is, x.target_is))

  -- step j is appended; the next with its label is k
  pub appended_link : {j k begin at : ℕ} {sources₀ targets₀ sources targets sources' targets' : List ℕ}
      → at < length sources → at < length targets → StepLabel m label j → FirstLabelled m label (j + 1) k
      → sources' ≡ set sources at (source m j) → targets' ≡ set targets at (target m j)
      → Appended (Among (LabelledAs m label) 0 j) begin at sources₀ targets₀ sources targets
      → Appended (Among (LabelledAs m label) 0 k) begin (at + 1) sources₀ targets₀ sources' targets'
  appended_link {j} {k} {begin} {at} {sources₀} {targets₀} {targets' = targets'} ls lt h f es et x =
      subst (λ (s : List ℕ). Appended (Among (LabelledAs m label) 0 k) begin (at + 1) sources₀ targets₀ s targets')
      (sym es)
      (subst (Appended (Among (LabelledAs m label) 0 k) begin (at + 1) sources₀ targets₀ _) (sym et)
      (appended_steps (omega arith) f.from_le
      (appended_steps (omega arith) (omega arith) x (appended_labelled ls lt h)) (appended_gap f)))
