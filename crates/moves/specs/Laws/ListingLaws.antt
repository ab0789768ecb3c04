-- The lists grow step by step, whatever steps are listed; and they have the low steps of a state after its last step.
-- Document 01, "Alike": "Release and high steps are never played." Assumes nothing.
use Rattle.std.specs.Prelude.{List, ◌⊎◌, ◌≡◌, refl, ℕ, ◌+◌, ◌≤◌, ◌<◌, length, get_or, set, T}
use Rattle.std.proofs.Common.{inl, inr, ⊎_elim, sym, ◌∙◌, subst, arith, get_or-set_same, get_or-set_other}
use Rattle.lts.proofs.TestsLaws.{lt_or_le}
use Rattle.text.specs.Model.{Model}
use Rattle.model.specs.System.{action, target, view}
use Rattle.model.specs.Inner.Index.{Begins}
use Rattle.moves.specs.Inner.Listing.{Appended, Among, LowAs}
use Rattle.lts.specs.Weak.{LowStep}

-- ---- appended pairs

pub appended-nil : {Out : ℕ → ℕ → Type 0} {at : ℕ} {left right : List ℕ} → ((a q : ℕ) → ¬ (Out a q))
    → Appended Out at at left right left right
appended-nil h = record {
  from_le = omega arith;
  sound = λ i l k. absurd (omega arith);
  complete = λ a q o. absurd (h a q o);
  left_kept = λ i l. refl;
  right_kept = λ i l. refl;
}

pub appended_one : {Out : ℕ → ℕ → Type 0} {at a q : ℕ} {left right : List ℕ} → at < length left
    → at < length right → Out a q → ((b r : ℕ) → Out b r → (a ≡ b) × (q ≡ r))
    → Appended Out at (at + 1) left right (set left at a) (set right at q)
appended_one {Out} {at} {a} {q} {left} {right} la lt o only = record {
  from_le = omega arith;
  sound = λ i l k.
      let e : at ≡ i = omega arith in
      subst (λ (j : ℕ). Out (get_or (set left at a) j 0) (get_or (set right at q) j 0)) e
      (subst (λ (x : ℕ). Out x (get_or (set right at q) at 0)) (sym action_at_lem)
      (subst (Out a) (sym target_at) o));
  complete = λ b r u.
      let e = only b r u in
      (at, omega arith, omega arith, action_at_lem ∙ e.0, target_at ∙ e.1);
  left_kept = λ i l. get_or-set_other left at i a 0 (λ e. omega arith);
  right_kept = λ i l. get_or-set_other right at i q 0 (λ e. omega arith);
}
  where
    action_at_lem : get_or (set left at a) at 0 ≡ a
    action_at_lem = get_or-set_same left at a 0 la

    target_at : get_or (set right at q) at 0 ≡ q
    target_at = get_or-set_same right at q 0 lt

-- what is appended first, and what next
pub appended-append : {First Next Out : ℕ → ℕ → Type 0} {from mid to : ℕ}
    {left right left' right' left'' right'' : List ℕ}
    → ((a q : ℕ) → First a q → Out a q) → ((a q : ℕ) → Next a q → Out a q)
    → ((a q : ℕ) → Out a q → First a q ⊎ Next a q)
    → Appended First from mid left right left' right'
    → Appended Next mid to left' right' left'' right''
    → Appended Out from to left right left'' right''
appended-append {First} {Next} {Out} {from} {mid} {to} {left'' = left''} {right'' = right''} f g h x y = record {
  from_le = omega (arith, x.from_le, y.from_le);
  sound = λ i l k. ⊎_elim
      (λ z.
      f _ _
      (subst (λ (u : ℕ). First u (get_or right'' i 0)) (sym (y.left_kept i z))
      (subst (First _) (sym (y.right_kept i z)) (x.sound i l z))))
      (λ z. g _ _ (y.sound i z k))
      (lt_or_le i mid);
  complete = λ a q o. ⊎_elim
      (λ z.
      let c = x.complete a q z in (
        c.0,
        c.1,
        omega (arith, c.2, y.from_le),
        y.left_kept c.0 c.2 ∙ c.3,
        y.right_kept c.0 c.2 ∙ c.4,
      ))
      (λ z. let c = y.complete a q z in (c.0, omega (arith, c.1, x.from_le), c.2, c.3, c.4))
      (h a q o);
  left_kept = λ i l. y.left_kept i (omega (arith, x.from_le)) ∙ x.left_kept i l;
  right_kept = λ i l. y.right_kept i (omega (arith, x.from_le)) ∙ x.right_kept i l;
}

pub appended_same : {Out Same : ℕ → ℕ → Type 0} {from to : ℕ} {left right left' right' : List ℕ}
    → ((a q : ℕ) → Out a q → Same a q) → ((a q : ℕ) → Same a q → Out a q)
    → Appended Out from to left right left' right' → Appended Same from to left right left' right'
appended_same f g x = record {
  from_le = x.from_le;
  sound = λ i l k. f _ _ (x.sound i l k);
  complete = λ a q o. x.complete a q (g a q o);
  left_kept = x.left_kept;
  right_kept = x.right_kept;
}

-- ---- one step more

module _ {Has : ℕ → ℕ → ℕ → Type 0} where
  pub appended_no_step : {j at : ℕ} {left right : List ℕ} → Appended (Among Has j j) at at left right left right
  appended_no_step = appended-nil (λ x y o. absurd (omega (arith, o.from_le, o.to_lt)))

  -- of the steps from j up to j + 1 there is step j alone
  pub among_one : {j : ℕ} (x y : ℕ) → Among Has j (j + 1) x y → Has j x y
  among_one {j} x y o =
      let e : o.number ≡ j = omega (arith, o.from_le, o.to_lt) in
      subst (λ (k : ℕ). Has k x y) e o.holds

  -- a step that is not to be listed is passed over, one that is is appended
  pub appended_skip : {j at : ℕ} {left right : List ℕ} → ((x y : ℕ) → ¬ (Has j x y))
      → Appended (Among Has j (j + 1)) at at left right left right
  appended_skip h = appended-nil (λ x y o. h x y (among_one x y o))

  pub appended_step : {j at x y : ℕ} {left right : List ℕ} → at < length left → at < length right → Has j x y
      → ((b c : ℕ) → Has j b c → (x ≡ b) × (y ≡ c))
      → Appended (Among Has j (j + 1)) at (at + 1) left right (set left at x) (set right at y)
  appended_step {j} la lt o only = appended_one la lt
      (record { number = j; from_le = omega arith; to_lt = omega arith; holds = o })
      (λ b c z. only b c (among_one b c z))

  pub among_le : {from to from' to' : ℕ} → from' ≤ from → to ≤ to' → (x y : ℕ) → Among Has from to x y
      → Among Has from' to' x y
  among_le l k x y o = record {
    number = o.number;
    from_le = omega (arith, o.from_le);
    to_lt = omega (arith, o.to_lt);
    holds = o.holds;
  }

  pub among_cases : {from mid to : ℕ} (x y : ℕ) → Among Has from to x y → Among Has from mid x y ⊎ Among Has mid to x y
  among_cases {from} {mid} {to} x y o = ⊎_elim
      (λ l. inl (record { number = o.number; from_le = o.from_le; to_lt = l; holds = o.holds }))
      (λ l. inr (record { number = o.number; from_le = l; to_lt = o.to_lt; holds = o.holds }))
      (lt_or_le o.number mid)

  pub appended_steps : {start j next from mid to : ℕ} {left right left' right' left'' right'' : List ℕ} → start ≤ j
      → j ≤ next → Appended (Among Has start j) from mid left right left' right'
      → Appended (Among Has j next) mid to left' right' left'' right''
      → Appended (Among Has start next) from to left right left'' right''
  appended_steps l k = appended-append (among_le (omega arith) k) (among_le l (omega arith)) among_cases

  pub appended_to : {start j end from to : ℕ} {left right left' right' : List ℕ} → j ≡ end
      → Appended (Among Has start j) from to left right left' right'
      → Appended (Among Has start end) from to left right left' right'
  appended_to {start} {from = from} {to} {left} {right} {left'} {right'} e =
      subst (λ (k : ℕ). Appended (Among Has start k) from to left right left' right') e

-- ---- the low steps of one state

module _ {m : Model} where
  pub appended_not_low : {j at : ℕ} {actions targets : List ℕ} → ¬ (T ((view m).levels.low? (action m j)))
      → Appended (Among (LowAs m) j (j + 1)) at at actions targets actions targets
  appended_not_low h =
      appended_skip (λ a q x. h (subst (λ (b : ℕ). T ((view m).levels.low? b)) (sym x.action_is) x.is_low))

  pub appended_low : {j at a q : ℕ} {actions targets : List ℕ} → at < length actions → at < length targets
      → action m j ≡ a → target m j ≡ q → T ((view m).levels.low? (action m j))
      → Appended (Among (LowAs m) j (j + 1)) at (at + 1) actions targets (set actions at a) (set targets at q)
  appended_low la lt e f h = appended_step la lt
      (record { is_low = subst (λ (b : ℕ). T ((view m).levels.low? b)) e h; action_is = e; target_is = f })
      (λ b r x. (sym e ∙ x.action_is, sym f ∙ x.target_is))

  -- the steps of p are those between where its steps begin and where they end
  pub appended_state : {p start end j from to : ℕ} {actions targets actions' targets' : List ℕ} → Begins m p start
      → Begins m (p + 1) end → j ≡ end → Appended (Among (LowAs m) start j) from to actions targets actions' targets'
      → Appended (LowStep (view m) p) from to actions targets actions' targets'
  appended_state {p} {start} {end} {j} b e at_end = appended_same
      (λ a q x.
      let k : x.number < end = omega (arith, x.to_lt, at_end) in
      let l : x.number < length m.steps = omega (arith, k, e.from_le) in (
        x.holds.is_low,
        record {
          number = x.number;
          number_lt = l;
          source_is = omega (arith, b.above x.number x.from_le l, e.below x.number k);
          action_is = x.holds.action_is;
          target_is = x.holds.target_is;
        },
      ))
      (λ a q x.
      let s = x.1 in
      record {
        number = s.number;
        from_le =
            ⊎_elim (λ l. absurd (omega (arith, b.below s.number l, s.source_is))) (λ l. l)
            (lt_or_le s.number start);
        to_lt =
            ⊎_elim (λ l. omega (arith, at_end))
            (λ l. absurd (omega (arith, e.above s.number l s.number_lt, s.source_is)))
            (lt_or_le s.number end);
        holds = record { is_low = x.0; action_is = s.action_is; target_is = s.target_is };
      })
