-- For well-formed models, deterministic as document 01 says it (no reachable state has two steps of one action) is
-- deterministic as `lts` says it (steps of one source and action have one target). A low action is one of the model's,
-- and a start is line 1's or an extra one.
-- Document 01, "Deterministic" and "The text"; document 02, (iii). Assumes nothing.
use Rattle.std.proofs.Common.{◌⊎◌, ◌↔◌, ◌≡◌, refl, ℕ, zero, suc, ◌≤◌, ◌<◌, T, length, get_or, inl, inr, ⊎_elim, sym, ap}
use Rattle.std.proofs.Common.{subst, ◌∙◌, arith, eqb→eq}
use Rattle.std.proofs.Math.ListN.{get_or-eq_default}
use Rattle.lts.specs.Run.{Deterministic}
use Rattle.lts.proofs.TestsLaws.{lt_or_le}
use Rattle.text.specs.Model.{low, ActionLine, Model, no_action}
use Rattle.model.specs.System.{source, action, target, level, Steps, ReachableIn, view}
use Rattle.model.specs.System.{starts, IsStart, DeterministicModel}
use Rattle.model.specs.WellFormed.{WellFormed}
use Rattle.model.specs.Laws.Store.WellFormedLaws.{head_ranges, step_above}
use Rattle.model.specs.Laws.Store.StartsLaws.{extra_start_lt}

-- step j, as the step that it is
pub own_step : (m : Model) (j : ℕ) → j < length m.steps → Steps m (source m j) (action m j) (target m j)
own_step m j l = record { number = j; number_lt = l; source_is = refl; action_is = refl; target_is = refl }

pub low_lt : (m : Model) (a : ℕ) → T ((view m).levels.low? a) → a < length m.actions
low_lt m a t = ⊎_elim (λ l. l) (λ l.
    let e = ap (λ (x : ActionLine). x.level) (get_or-eq_default m.actions no_action {n = a} l) in
    absurd (omega (arith, e, eqb→eq (level m a) low t))) (lt_or_le a (length m.actions))

-- ---- starts

module _ (m : Model) where
  pub head_start : IsStart m m.head.start.0
  head_start = record { number = 0; number_lt = omega arith; start_is = refl }

  pub extra_start : (i : ℕ) → i < length m.extra_starts → IsStart m (get_or m.extra_starts i 0)
  extra_start i l = record { number = suc i; number_lt = omega arith; start_is = refl }

  -- there are no others
  pub start_cases : {p : ℕ} → IsStart m p
      → (p ≡ m.head.start.0) ⊎ ((i : ℕ) × (i < length m.extra_starts) × (get_or m.extra_starts i 0 ≡ p))
  start_cases {p} x = go x.number x.number_lt x.start_is
    where
      go : (n : ℕ) → n < length (starts m) → get_or (starts m) n 0 ≡ p
          → (p ≡ m.head.start.0) ⊎ ((i : ℕ) × (i < length m.extra_starts) × (get_or m.extra_starts i 0 ≡ p))
      go zero l e = inl (sym e)
      go (suc i) l e = inr (i, omega arith, e)

  -- a start is a state
  pub start_lt : WellFormed m → (p : ℕ) → IsStart m p → p < m.head.states
  start_lt w p x =
      ⊎_elim
      (λ e. omega (arith, e, (head_ranges m w).start))
      (λ i. omega (arith, i.2, extra_start_lt m w i.0 i.1))
      (start_cases x)

-- ---- deterministic

module _ (m : Model) where
  pub deterministic_model→Deterministic : DeterministicModel m → Deterministic (view m)
  deterministic_model→Deterministic d p a q r reach x y =
      let e : x.number ≡ y.number =
      d.one_step x.number y.number x.number_lt y.number_lt
      (subst (ReachableIn m) (sym x.source_is) reach) (x.source_is ∙ sym y.source_is)
      (x.action_is ∙ sym y.action_is) in
      sym x.target_is ∙ ap (target m) e ∙ y.target_is

  module _ (w : WellFormed m) where
    pub Deterministic→deterministic_model : Deterministic (view m) → DeterministicModel m
    Deterministic→deterministic_model d =
        record { one_step = λ i j li lj r s a. go i j li lj r s a (lt_or_le i j) (lt_or_le j i) }
      where
        same_target : (i j : ℕ) → i < length m.steps → j < length m.steps → ReachableIn m (source m i)
            → source m i ≡ source m j → action m i ≡ action m j → target m i ≡ target m j
        same_target i j li lj r s a = d (source m j) (action m j) (target m i) (target m j)
            (subst (ReachableIn m) s r)
            (record { number = i; number_lt = li; source_is = s; action_is = a; target_is = refl })
            (own_step m j lj)

        go : (i j : ℕ) → i < length m.steps → j < length m.steps → ReachableIn m (source m i)
            → source m i ≡ source m j → action m i ≡ action m j → (i < j) ⊎ (j ≤ i) → (j < i) ⊎ (i ≤ j) → i ≡ j
        go i j li lj r s a (inl l) k =
            let e = same_target i j li lj r s a in
            let u = (step_above m w i j l lj).target s a in
            absurd (omega arith)
        go i j li lj r s a (inr l) (inl k) =
            let e = same_target i j li lj r s a in
            let u = (step_above m w j i k li).target (sym s) (sym a) in
            absurd (omega arith)
        go i j li lj r s a (inr l) (inr k) = omega arith

    pub deterministic↔Deterministic : DeterministicModel m ↔ Deterministic (view m)
    deterministic↔Deterministic = (deterministic_model→Deterministic, Deterministic→deterministic_model)
