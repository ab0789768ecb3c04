-- The low steps of a state are listed in rising order, as the model has them. Assumes nothing.
use Rattle.std.specs.Prelude.{List, ◌≡◌, refl, ℕ, ◌+◌, ◌≤◌, ◌<◌, length, get_or}
use Rattle.std.proofs.Common.{⊎_elim, sym, ◌∙◌, arith}
use Rattle.lts.proofs.TestsLaws.{lt_or_le}
use Rattle.text.specs.Model.{Model}
use Rattle.model.specs.System.{source, action}
use Rattle.model.specs.Inner.Stored.{Stored}
use Rattle.model.specs.Inner.Index.{Begins}
use Rattle.by_state.specs.MoveList.{Rising}
use Rattle.moves.specs.Inner.Listing.{Appended, Among, LowAs}

pub rising-nil : {at : ℕ} {actions targets : List ℕ} → Rising at at actions targets
rising-nil = record {
  action_le = λ i j l k h. absurd (omega arith);
  target_lt = λ i j l k h e. absurd (omega arith);
}

-- The same numbers rise at the same places of other lists.
pub rising_kept : {from to from' to' : ℕ} {actions targets actions' targets' : List ℕ} → from' ≡ from → to' ≡ to
    → ((i : ℕ) → i < to → get_or actions' i 0 ≡ get_or actions i 0)
    → ((i : ℕ) → i < to → get_or targets' i 0 ≡ get_or targets i 0) → Rising from to actions targets
    → Rising from' to' actions' targets'
rising_kept {to = to} e f ka kt x = record {
  action_le = λ i j l k h.
      let hj : j < to = omega arith in
      let hi : i < to = omega arith in
      omega (arith, ka i hi, ka j hj, x.action_le i j (omega arith) k hj);
  target_lt = λ i j l k h d.
      let hj : j < to = omega arith in
      let hi : i < to = omega arith in
      omega (
        arith,
        kt i hi,
        kt j hj,
        x.target_lt i j (omega arith) k hj (sym (ka i hi) ∙ d ∙ ka j hj),
      );
}

module _ {s : List ℕ} {m : Model} (st : Stored s m) {p start end : ℕ} (b : Begins m p start)
    (e : Begins m (p + 1) end) where
  source_is : (k : ℕ) → start ≤ k → k < end → source m k ≡ p
  source_is k l h =
      omega (arith, b.above k l (omega (arith, h, e.from_le)), e.below k h)

  -- The steps from `start` up to j are listed, and then step j if it is low.
  module _ {j from mid to : ℕ} {actions targets actions' targets' actions'' targets'' : List ℕ} (start-le : start ≤ j)
      (end_lt : j < end) (to_le : to ≤ mid + 1)
      (x : Appended (Among (LowAs m) start j) from mid actions targets actions' targets')
      (y : Appended (Among (LowAs m) j (j + 1)) mid to actions' targets' actions'' targets'')
      (r : Rising from mid actions' targets') where
    -- a place before that of step j, and that of step j
    module _ (i k : ℕ) (l : from ≤ i) (h : i < k) (g : k < to) (z : mid ≤ k) where
      below_mid : i < mid
      below_mid = omega arith

      abbrev before : Among (LowAs m) start j (get_or actions' i 0) (get_or targets' i 0)
      before = x.sound i l below_mid

      abbrev last : Among (LowAs m) j (j + 1) (get_or actions'' k 0) (get_or targets'' k 0)
      last = y.sound k z g

      number_lt : before.number < last.number
      number_lt = omega (arith, before.to_lt, last.from_le)

      last_lt : last.number < length m.steps
      last_lt = omega (arith, last.to_lt, end_lt, e.from_le)

      same_source : source m before.number ≡ source m last.number
      same_source =
          source_is before.number before.from_le (omega (arith, before.to_lt, end_lt))
          ∙ sym (source_is last.number (omega (arith, last.from_le, start-le)) (omega (arith, last.to_lt, end_lt)))

      action_last : get_or actions'' i 0 ≤ get_or actions'' k 0
      action_last = omega (
        arith,
        st.action_le before.number last.number (omega (arith, number_lt)) last_lt same_source,
        before.holds.action_is,
        last.holds.action_is,
        y.left_kept i below_mid,
      )

      target_last : get_or actions'' i 0 ≡ get_or actions'' k 0 → get_or targets'' i 0 < get_or targets'' k 0
      target_last d =
          let f : action m before.number ≡ action m last.number =
          omega (arith, before.holds.action_is, last.holds.action_is, y.left_kept i below_mid, d) in
          omega (
            arith,
            st.target_lt_target before.number last.number number_lt last_lt same_source f,
            before.holds.target_is,
            last.holds.target_is,
            y.right_kept i below_mid,
          )

    pub rising_suc : Rising from to actions'' targets''
    rising_suc = record {
      action_le = λ i k l h g. ⊎_elim
          (λ z. omega (arith, kept.action_le i k l h z))
          (λ z. action_last i k l h g z)
          (lt_or_le k mid);
      target_lt = λ i k l h g d. ⊎_elim
          (λ z. kept.target_lt i k l h z d)
          (λ z. target_last i k l h g z d)
          (lt_or_le k mid);
    }
      where
        kept : Rising from mid actions'' targets''
        kept = rising_kept refl refl (λ i k. y.left_kept i k) (λ i k. y.right_kept i k) r
