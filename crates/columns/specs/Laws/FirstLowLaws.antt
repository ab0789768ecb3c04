-- The first step of a low action from its state: its test, the name that it adds, and how the step before tells it.
-- Document 02, (ii): "the names of the low actions with a step there, in action order". Assumes nothing.
use Rattle.std.specs.Prelude.{not, List, [], ◌∷◌, ◌≡◌, ℕ, ◌+◌, ◌≤◌, ◌<◌, T, eqb, length}
use Rattle.std.proofs.Common.{⊎_elim, sym, ◌∙◌, arith, T_not, eqb→eq}
use Rattle.std.proofs.Math.Dec.{not_T}
use Rattle.lts.specs.Tests.{any}
use Rattle.lts.proofs.TestsLaws.{T→true, not-T→false, T-eqb, and_intro, and_left, and_right, any→Some, Some→any}
use Rattle.lts.proofs.TestsLaws.{lt_or_le}
use Rattle.text.specs.Model.{Model}
use Rattle.model.specs.System.{source, action, view, name_of}
use Rattle.model.specs.Inner.Index.{Begins}
use Rattle.model.specs.Inner.Stored.{Stored}
use Rattle.columns.specs.LowNames.{leaves?}
use Rattle.columns.specs.Inner.Filling.{FirstLow, first_low?, name_added}

module _ (m : Model) where
  -- ---- a step that leaves p with the action a

  pub leaves?_intro : (p a j : ℕ) → source m j ≡ p → action m j ≡ a → T (leaves? m p a j)
  leaves?_intro p a j e f = and_intro (eqb (source m j) p) (eqb (action m j) a) (T-eqb e) (T-eqb f)

  pub leaves?_source : (p a j : ℕ) → T (leaves? m p a j) → source m j ≡ p
  leaves?_source p a j t = eqb→eq (source m j) p (and_left (eqb (source m j) p) (eqb (action m j) a) t)

  pub leaves?_action : (p a j : ℕ) → T (leaves? m p a j) → action m j ≡ a
  leaves?_action p a j t = eqb→eq (action m j) a (and_right (eqb (source m j) p) (eqb (action m j) a) t)

  -- ---- the test

  pub first_low?→FirstLow : {j : ℕ} → T (first_low? m j) → FirstLow m j
  first_low?→FirstLow {j} t =
      let low = (view m).levels.low? (action m j) in
      let before = any j (leaves? m (source m j) (action m j)) in
      record {
        is_low = and_left low (not before) t;
        none_before = λ i l e f.
            T_not before (and_right low (not before) t)
            (Some→any j (leaves? m (source m j) (action m j)) i l
            (leaves?_intro (source m j) (action m j) i e f));
      }

  pub FirstLow→first_low? : {j : ℕ} → FirstLow m j → T (first_low? m j)
  FirstLow→first_low? {j} x =
      let leaves = leaves? m (source m j) (action m j) in
      and_intro ((view m).levels.low? (action m j)) (not (any j leaves)) x.is_low
      (not_T (any j leaves) (λ t.
      let y = any→Some j leaves t in
      x.none_before y.0 y.1 (leaves?_source (source m j) (action m j) y.0 y.2)
      (leaves?_action (source m j) (action m j) y.0 y.2)))

  pub name_added_first : {j : ℕ} → FirstLow m j → name_added m j ≡ name_of m (action m j) ∷ []
  name_added_first {j} x = rw (T→true (first_low? m j) (FirstLow→first_low? x))

  pub name_added_none : {j : ℕ} → ¬ (FirstLow m j) → name_added m j ≡ []
  name_added_none {j} none =
      rw (not-T→false (first_low? m j) (not_T (first_low? m j) (λ t. none (first_low?→FirstLow t))))

-- ---- the first step of an action, by the step before

module _ {s : List ℕ} {m : Model} (st : Stored s m) {from j : ℕ} (l : j < length m.steps)
    (b : Begins m (source m j) from) where
  -- a step of the same state stands from where its steps begin
  own_le : (i : ℕ) → source m i ≡ source m j → from ≤ i
  own_le i e = ⊎_elim (λ k. absurd (omega (arith, b.below i k, e))) (λ k. k) (lt_or_le i from)

  pub first_low_begin : T ((view m).levels.low? (action m j)) → j ≡ from → FirstLow m j
  first_low_begin t e = record { is_low = t; none_before = λ i k f g. absurd (omega (arith, own_le i f)) }

  module _ {i : ℕ} (before : i + 1 ≡ j) (f : from ≤ i) where
    same_source : source m i ≡ source m j
    same_source =
        omega (arith, b.above i f (omega (arith, before)), st.source_le i j (omega (arith, before)) l)

    pub not_first_low : action m i ≡ action m j → ¬ (FirstLow m j)
    not_first_low e x = x.none_before i (omega (arith, before)) same_source e

    pub first_low_change : T ((view m).levels.low? (action m j)) → ¬ (action m i ≡ action m j) → FirstLow m j
    first_low_change t ne = record {
      is_low = t;
      none_before = λ k h d e.
          let to = st.action_le k i (omega (arith, before, h)) (omega (arith, before)) (d ∙ sym same_source) in
          let on = st.action_le i j (omega (arith, before)) l same_source in
          ne (omega (arith, e, to, on));
    }
