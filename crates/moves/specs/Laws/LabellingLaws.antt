-- A step has at most one label, so the lists have no more places than the model has steps.
-- Document 02, (vii). Assumes nothing.
use Rattle.std.specs.Prelude.{List, ◌⊎◌, ◌≡◌, ℕ, ◌+◌, ◌≤◌, ◌<◌, T, length, get_or}
use Rattle.std.proofs.Common.{inl, inr, sym, ap, ◌∙◌, subst, eqb→eq, eq-eqb}
use native.Mathlib.Omega.{arith}
use Rattle.lts.proofs.PigeonholeLaws.{injective_le}
use Rattle.lts.proofs.TestsLaws.{lt_or_le}
use Rattle.lts.specs.View.{Levels}
use Rattle.lts.specs.Weak.{Tick}
use Rattle.text.specs.Limits.{action_limit, step_limit}
use Rattle.text.specs.Model.{silent, Model}
use Rattle.model.specs.System.{action, level, view}
use Rattle.model.specs.Inner.Stored.{Stored}
use Rattle.model.specs.Inner.Roles.{Roles}
use Rattle.model.specs.Laws.System.RolesLaws.{low_of_role, role_of_low}
use Rattle.moves.specs.Labels.{SomeSilent}
use Rattle.moves.specs.Inner.Labelling.{HasLabel, low_label, tick_label, RoleLabel, StepLabel}
use Rattle.moves.specs.Inner.Labelling.{Earlier, PlacedTo}

-- ---- labels

-- a label that is an action is that of a low step, and the one behind them that of a silent one
module _ {IsLow IsSilent : Type 0} {label a : ℕ} where
  pub has_label_low : ¬ (label ≡ action_limit) → HasLabel IsLow IsSilent label a → (a ≡ label) × IsLow
  has_label_low d (low_label e l x) = (e, x)
  has_label_low d (tick_label e x) = absurd (d e)

  pub has_label_silent : label ≡ action_limit → HasLabel IsLow IsSilent label a → IsSilent
  has_label_silent e (low_label f l x) = absurd (omega arith)
  has_label_silent e (tick_label f x) = x

-- ---- labels by roles

module _ {L : Levels} {n : ℕ} {roles : List ℕ} (R : Roles L n roles) {a b : ℕ} (e : a ≡ b) (l : b < n) where
  pub silent_of_role : get_or roles a 0 ≡ silent → T (L.silent? b)
  silent_of_role z = subst T (sym (R.silent_is b l ∙ eq-eqb _ _ (ap (λ (x : ℕ). get_or roles x 0) (sym e) ∙ z))) tt

  pub role_of_silent : T (L.silent? b) → get_or roles a 0 ≡ silent
  role_of_silent t = ap (λ (x : ℕ). get_or roles x 0) e ∙ eqb→eq _ _ (subst T (R.silent_is b l) t)

module _ (m : Model) {roles : List ℕ} (R : Roles (view m).levels m.head.actions roles) (k : ℕ) {label a : ℕ}
    (e : a ≡ action m k) (l : action m k < m.head.actions) where
  pub step_label_of_role : RoleLabel roles label a → StepLabel m label k
  step_label_of_role (low_label f h z) = low_label (sym e ∙ f) h (low_of_role R e l z)
  step_label_of_role (tick_label f z) = tick_label f (silent_of_role R e l z)

  pub role_of_step_label : StepLabel m label k → RoleLabel roles label a
  role_of_step_label (low_label f h t) = low_label (e ∙ f) h (role_of_low R e l t)
  role_of_step_label (tick_label f t) = tick_label f (role_of_silent R e l t)

-- no level is both low and silent
low_not-silent : (m : Model) (a : ℕ) → T ((view m).levels.low? a) → ¬ (T ((view m).levels.silent? a))
low_not-silent m a t u = omega (arith, eqb→eq (level m a) _ t, eqb→eq (level m a) _ u)

step_label_unique : (m : Model) (k : ℕ) {b c : ℕ} → StepLabel m b k → StepLabel m c k → b ≡ c
step_label_unique m k (low_label e h t) (low_label f g u) = sym e ∙ f
step_label_unique m k (low_label e h t) (tick_label f u) = absurd (low_not-silent m (action m k) t u)
step_label_unique m k (tick_label e t) (low_label f g u) = absurd (low_not-silent m (action m k) u t)
step_label_unique m k (tick_label e t) (tick_label f u) = e ∙ sym f

-- ---- the steps placed so far

pub placed_to-zero : {m : Model} → PlacedTo m 0 0 0
placed_to-zero = record {
  numbers = λ i. i;
  different = λ i k li lk e. e;
  earlier = λ i l. absurd (omega arith);
}

-- there are at most as many places as steps
pub placed_to_le : {m : Model} {label j at : ℕ} → PlacedTo m label j at → at ≤ length m.steps
placed_to_le {m} {at = at} x =
    injective_le at (length m.steps) x.numbers (λ i l. (x.earlier i l).number_lt) x.different

-- what comes before step j comes before each later one
earlier_le : {m : Model} {label j k i : ℕ} → j ≤ k → Earlier m label j i → Earlier m label k i
earlier_le h x = record {
  number_lt = x.number_lt;
  of = x.of;
  has_label = x.has_label;
  of_le = x.of_le;
  lower = λ e. omega (arith, h, x.lower e);
}

pub placed_to_skip : {m : Model} {label j k at : ℕ} → j ≤ k → PlacedTo m label j at → PlacedTo m label k at
placed_to_skip h x = record {
  numbers = x.numbers;
  different = x.different;
  earlier = λ i l. earlier_le h (x.earlier i l);
}

pub placed_to_label : {m : Model} {label j at : ℕ} → PlacedTo m label j at → PlacedTo m (label + 1) 0 at
placed_to_label x = record {
  numbers = x.numbers;
  different = x.different;
  earlier = λ i l.
      let y = x.earlier i l in
      record {
        number_lt = y.number_lt;
        of = y.of;
        has_label = y.has_label;
        of_le = omega (arith, y.of_le);
        lower = λ e. absurd (omega (arith, y.of_le, e));
      };
}

-- the number at a place below `at`, and that at place `at`
pick : {i at : ℕ} → (i < at) ⊎ (at ≤ i) → ℕ → ℕ → ℕ
pick (inl _) a b = a
pick (inr _) a b = b

module _ {m : Model} {label j at : ℕ} (h : StepLabel m label j) (l : j < length m.steps)
    (x : PlacedTo m label j at) where
  -- step j stands at no place below `at`
  new : (i : ℕ) → i < at → ¬ (x.numbers i ≡ j)
  new i k e =
      let y = x.earlier i k in
      let same = step_label_unique m (x.numbers i) y.has_label (subst (StepLabel m label) (sym e) h) in
      omega (arith, y.lower same, e)

  numbers : ℕ → ℕ
  numbers i = pick (lt_or_le i at) (x.numbers i) j

  -- step j stands at place `at` now
  pub placed_to_add : PlacedTo m label (j + 1) (at + 1)
  unfolding numbers pick
  placed_to_add = record {
    numbers = numbers;
    different = λ i k li lk. different i k li lk (lt_or_le i at) (lt_or_le k at);
    earlier = λ i li. earlier i (lt_or_le i at);
  }
    where
      different : (i k : ℕ) → i < at + 1 → k < at + 1 → (d : (i < at) ⊎ (at ≤ i)) (e : (k < at) ⊎ (at ≤ k))
          → pick d (x.numbers i) j ≡ pick e (x.numbers k) j → i ≡ k
      different i k li lk (inl d) (inl e) z = x.different i k d e z
      different i k li lk (inl d) (inr e) z = absurd (new i d z)
      different i k li lk (inr d) (inl e) z = absurd (new k e (sym z))
      different i k li lk (inr d) (inr e) z = omega arith

      earlier : (i : ℕ) (d : (i < at) ⊎ (at ≤ i)) → Earlier m label (j + 1) (pick d (x.numbers i) j)
      earlier i (inl d) =
          let h : j ≤ j + 1 = omega arith in
          earlier_le h (x.earlier i d)
      earlier i (inr d) = record {
        number_lt = l;
        of = label;
        has_label = h;
        of_le = omega arith;
        lower = λ e. omega arith;
      }

  -- there was room for it
  pub placed_to_lt : {s : List ℕ} → Stored s m → at < step_limit
  placed_to_lt st = omega (arith, placed_to_le placed_to_add, st.steps_le)

-- ---- no silent action

pub no-tick : {s : List ℕ} {m : Model} → Stored s m → ¬ (SomeSilent m) → (p q : ℕ) → ¬ (Tick (view m) p q)
no-tick st none p q t =
    let x = t.step in
    none (record {
      action = t.action;
      action_lt = omega (arith, x.action_is, st.action_lt x.number x.number_lt);
      is_silent = t.is_silent;
    })
