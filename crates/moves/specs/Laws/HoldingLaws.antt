-- The low actions are listed, and the low steps held, one after another.
-- Document 02, (vii). Assumes nothing.
use Rattle.std.specs.Prelude.{List, ◌⊎◌, ◌≡◌, refl, ℕ, ◌+◌, ◌*◌, ◌<◌, T, length, get_or, set}
use Rattle.std.proofs.Common.{inl, inr, ⊎_elim, sym, ap, ◌∙◌, subst, arith, get_or-set_same, get_or-set_other}
use Rattle.lts.proofs.TestsLaws.{eq_or_not}
use Rattle.text.specs.Limits.{state_limit, action_limit}
use Rattle.text.specs.Model.{Model}
use Rattle.model.specs.System.{action, view}
use Rattle.model.specs.Inner.Stored.{Stored}
use Rattle.sets.specs.Inner.Sets.{Member, Empty}
use Rattle.held.specs.Held.{LabelIn, slot_place, target_row, source_row, HeldAt}
use Rattle.held.specs.Inner.Slots.{MemberAdded}
use Rattle.held.specs.Laws.RowsLaws.{target_row-action}
use Rattle.moves.specs.Inner.Holding.{LowLabels, LowAt, LowBefore, LowHeld}
use Rattle.moves.specs.Laws.ListingLaws.{among_one, among_le, among_cases}

-- ---- the low actions

pub low_labels-zero : {m : Model} {labels : List ℕ} → LowLabels m 0 labels 0
low_labels-zero = record {
  count_le = omega arith;
  label_lt = λ i l. absurd (omega arith);
  is_low = λ i l. absurd (omega arith);
  rising = λ i j l k. absurd (omega arith);
  listed = λ a l. absurd (omega arith);
}

module _ {m : Model} {a : ℕ} {labels : List ℕ} {count : ℕ} (L : LowLabels m a labels count) where
  -- a is not low.
  pub low_labels_skip : ¬ (T ((view m).levels.low? a)) → LowLabels m (a + 1) labels count
  low_labels_skip f = record {
    count_le = omega (arith, L.count_le);
    label_lt = λ i l. omega (arith, L.label_lt i l);
    is_low = L.is_low;
    rising = L.rising;
    listed = λ b l t. go b l t (eq_or_not b a);
  }
    where
      go : (b : ℕ) → b < a + 1 → T ((view m).levels.low? b) → (b ≡ a) ⊎ ¬ (b ≡ a)
          → LabelIn labels count b
      go b l t (inl e) = absurd (f (subst (λ (x : ℕ). T ((view m).levels.low? x)) e t))
      go b l t (inr d) = L.listed b (omega arith) t

  -- a is low, and is listed.
  pub low_labels_more : T ((view m).levels.low? a) → count < length labels
      → LowLabels m (a + 1) (set labels count a) (count + 1)
  low_labels_more t room = record {
    count_le = omega (arith, L.count_le);
    label_lt = λ i l. label_lt i l (eq_or_not i count);
    is_low = λ i l. is_low i l (eq_or_not i count);
    rising = λ i j l k. rising i j l k (eq_or_not j count);
    listed = λ b l u. listed b l u (eq_or_not b a);
  }
    where
      kept : (i : ℕ) → i < count → get_or (set labels count a) i 0 ≡ get_or labels i 0
      kept i l = get_or-set_other labels count i a 0 (λ e. absurd (omega arith))

      last : (i : ℕ) → i ≡ count → get_or (set labels count a) i 0 ≡ a
      last i e = ap (λ (x : ℕ). get_or (set labels count a) x 0) e ∙ get_or-set_same labels count a 0 room

      label_lt : (i : ℕ) → i < count + 1 → (i ≡ count) ⊎ ¬ (i ≡ count) → get_or (set labels count a) i 0 < a + 1
      label_lt i l (inl e) = omega (arith, last i e)
      label_lt i l (inr d) = omega (arith, kept i (omega arith), L.label_lt i (omega arith))

      is_low : (i : ℕ) → i < count + 1 → (i ≡ count) ⊎ ¬ (i ≡ count)
          → T ((view m).levels.low? (get_or (set labels count a) i 0))
      is_low i l (inl e) = subst (λ (b : ℕ). T ((view m).levels.low? b)) (sym (last i e)) t
      is_low i l (inr d) =
          let h : i < count = omega arith in
          subst (λ (b : ℕ). T ((view m).levels.low? b)) (sym (kept i h)) (L.is_low i h)

      rising : (i j : ℕ) → i < j → j < count + 1 → (j ≡ count) ⊎ ¬ (j ≡ count)
          → get_or (set labels count a) i 0 < get_or (set labels count a) j 0
      rising i j l k (inl e) = omega (arith, kept i (omega arith), last j e, L.label_lt i (omega arith))
      rising i j l k (inr d) = omega (arith, kept i (omega arith), kept j (omega arith), L.rising i j l (omega arith))

      listed : (b : ℕ) → b < a + 1 → T ((view m).levels.low? b) → (b ≡ a) ⊎ ¬ (b ≡ a)
          → LabelIn (set labels count a) (count + 1) b
      listed b l u (inl e) = (count, omega arith, last count refl ∙ sym e)
      listed b l u (inr d) =
          let x = L.listed b (omega arith) u in
          (x.0, omega (arith, x.1), kept x.0 x.1 ∙ x.2)

-- ---- the steps before one more

low_before-suc : {m : Model} {j a p q : ℕ} → LowBefore m j a p q → LowBefore m (j + 1) a p q
low_before-suc = among_le (omega arith) (omega arith) _ _

low_before_last : {m : Model} {j a p q : ℕ} → LowAt m a j p q → LowBefore m (j + 1) a p q
low_before_last {j = j} x = record { number = j; from_le = omega arith; to_lt = omega arith; holds = x }

pub low_at_states : {s : List ℕ} {m : Model} {j a p q : ℕ} → Stored s m → j < length m.steps → LowAt m a j p q
    → (p < state_limit) × (q < state_limit)
low_at_states {j = j} st l x = (
  omega (arith, x.source_is, st.source_lt j l, st.states_le),
  omega (arith, x.low_as.target_is, st.target_lt j l, st.states_le),
)

-- One step, one source, action and target.
low_at_same : {m : Model} {j a b p r q s : ℕ} → a ≡ b → p ≡ r → q ≡ s → LowAt m a j p q → LowAt m b j r s
low_at_same {m} e f g x = record {
  low_as = record {
    is_low = subst (λ (c : ℕ). T ((view m).levels.low? c)) e x.low_as.is_low;
    action_is = x.low_as.action_is ∙ e;
    target_is = x.low_as.target_is ∙ g;
  };
  source_is = x.source_is ∙ f;
}

low_before_cases : {m : Model} {j a p q : ℕ} → LowBefore m (j + 1) a p q → LowBefore m j a p q ⊎ LowAt m a j p q
low_before_cases {j = j} x = ⊎_elim inl (λ y. inr (among_one _ _ y)) (among_cases {mid = j} _ _ x)

-- ---- the sets, one step after another

pub low_held-zero : {m : Model} {slots pool : List ℕ} → Empty pool → LowHeld m 0 slots pool
low_held-zero E = record {
  target = λ a p q x. absurd (omega (arith, x.to_lt));
  target_only = λ a p q _ _ h. absurd (E.none _ _ h);
  source = λ a p q x. absurd (omega (arith, x.to_lt));
  source_only = λ a p q _ _ h. absurd (E.none _ _ h);
}

-- Step j is not low.
pub low_held_skip : {m : Model} {j : ℕ} {slots pool : List ℕ} → ¬ (T ((view m).levels.low? (action m j)))
    → LowHeld m j slots pool → LowHeld m (j + 1) slots pool
low_held_skip {m} {j} f H = record {
  target = λ a p q x. H.target a p q (before x);
  target_only = λ a p q l k h. low_before-suc (H.target_only a p q l k h);
  source = λ a p q x. H.source a p q (before x);
  source_only = λ a p q l k h. low_before-suc (H.source_only a p q l k h);
}
  where
    go : {a p q : ℕ} → LowBefore m j a p q ⊎ LowAt m a j p q → LowBefore m j a p q
    go (inl x) = x
    go (inr x) =
        let y = x.low_as in
        absurd (f (subst (λ (b : ℕ). T ((view m).levels.low? b)) (sym y.action_is) y.is_low))

    before : {a p q : ℕ} → LowBefore m (j + 1) a p q → LowBefore m j a p q
    before x = go (low_before_cases x)

-- Step j is low: the set of its source in the targets' row has got its target, and that of its target in the sources'
-- row its source.
module _ {m : Model} {j a p q row : ℕ} {slots slots₁ slots₂ pool pool₁ pool₂ : List ℕ} (x : LowAt m a j p q)
    (la : a < action_limit) (lp : p < state_limit) (lq : q < state_limit) (H : LowHeld m j slots pool)
    (z : row ≡ target_row a) (F : MemberAdded row p q slots pool slots₁ pool₁)
    (G : MemberAdded (row + 1) q p slots₁ pool₁ slots₂ pool₂) where
  row_is : row ≡ 2 * a
  row_is = z ∙ target_row-action a la

  there : (i y : ℕ) → Member pool (get_or slots i 0) y → Member pool₂ (get_or slots₂ i 0) y
  there i y h = G.there i y (F.there i y h)

  held_target : (b r s : ℕ) → LowBefore m j b r s ⊎ LowAt m b j r s → HeldAt slots₂ pool₂ (target_row b) r s
  held_target b r s (inl y) = there (slot_place (target_row b) r) s (H.target b r s y)
  held_target b r s (inr y) =
      subst (λ (u : ℕ). HeldAt slots₂ pool₂ u r s)
      (z ∙ ap (λ (c : ℕ). target_row c) (sym x.low_as.action_is ∙ y.low_as.action_is))
      (subst (λ (u : ℕ). HeldAt slots₂ pool₂ row u s) (sym x.source_is ∙ y.source_is)
      (subst (HeldAt slots₂ pool₂ row p) (sym x.low_as.target_is ∙ y.low_as.target_is)
      (G.there (slot_place row p) q F.added)))

  held_source : (b r s : ℕ) → LowBefore m j b r s ⊎ LowAt m b j r s → HeldAt slots₂ pool₂ (source_row b) s r
  held_source b r s (inl y) = there (slot_place (source_row b) s) r (H.source b r s y)
  held_source b r s (inr y) =
      subst (λ (u : ℕ). HeldAt slots₂ pool₂ (u + 1) s r)
      (z ∙ ap (λ (c : ℕ). target_row c) (sym x.low_as.action_is ∙ y.low_as.action_is))
      (subst (λ (u : ℕ). HeldAt slots₂ pool₂ (row + 1) u r) (sym x.low_as.target_is ∙ y.low_as.target_is)
      (subst (HeldAt slots₂ pool₂ (row + 1) q) (sym x.source_is ∙ y.source_is)
      G.added))

  -- The two rows of two actions are apart.
  module _ (b : ℕ) (lb : b < action_limit) (r s : ℕ) where
    target_only : r < state_limit → HeldAt slots₂ pool₂ (target_row b) r s → LowBefore m (j + 1) b r s
    target_only lr h = late (G.back (slot_place (target_row b) r) s h)
      where
        early : Member pool (get_or slots (slot_place (target_row b) r) 0) s
            ⊎ ((slot_place (target_row b) r ≡ slot_place row p) × (s ≡ q)) → LowBefore m (j + 1) b r s
        early (inl g) = low_before-suc (H.target_only b r s lb lr g)
        early (inr (e, f)) =
            let u : a ≡ b = omega (arith, e, row_is, target_row-action b lb, lp, lr) in
            let v : p ≡ r = omega (arith, e, row_is, target_row-action b lb, lp, lr) in
            low_before_last (low_at_same u v (sym f) x)

        late : Member pool₁ (get_or slots₁ (slot_place (target_row b) r) 0) s
            ⊎ ((slot_place (target_row b) r ≡ slot_place (row + 1) q) × (s ≡ p)) → LowBefore m (j + 1) b r s
        late (inl g) = early (F.back (slot_place (target_row b) r) s g)
        late (inr (e, f)) = absurd (omega (arith, e, row_is, target_row-action b lb, lq, lr))

    source_only : s < state_limit → HeldAt slots₂ pool₂ (source_row b) s r → LowBefore m (j + 1) b r s
    source_only ls h = late (G.back (slot_place (source_row b) s) r h)
      where
        early : Member pool (get_or slots (slot_place (source_row b) s) 0) r
            ⊎ ((slot_place (source_row b) s ≡ slot_place row p) × (r ≡ q)) → LowBefore m (j + 1) b r s
        early (inl g) = low_before-suc (H.source_only b r s lb ls g)
        early (inr (e, f)) = absurd (omega (arith, e, row_is, target_row-action b lb, lp, ls))

        late : Member pool₁ (get_or slots₁ (slot_place (source_row b) s) 0) r
            ⊎ ((slot_place (source_row b) s ≡ slot_place (row + 1) q) × (r ≡ p)) → LowBefore m (j + 1) b r s
        late (inl g) = early (F.back (slot_place (source_row b) s) r g)
        late (inr (e, f)) =
            let u : a ≡ b = omega (arith, e, row_is, target_row-action b lb, lq, ls) in
            let v : q ≡ s = omega (arith, e, row_is, target_row-action b lb, lq, ls) in
            low_before_last (low_at_same u (sym f) v x)

  pub low_held_more : LowHeld m (j + 1) slots₂ pool₂
  low_held_more = record {
    target = λ b r s y. held_target b r s (low_before_cases y);
    target_only = λ b r s lb. target_only b lb r s;
    source = λ b r s y. held_source b r s (low_before_cases y);
    source_only = λ b r s lb. source_only b lb r s;
  }
