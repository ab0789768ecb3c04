-- The index of steps, one state more at a time.
-- Document 01, "The text": steps rise by source. Assumes nothing.
use Rattle.std.proofs.Common.{List, ◌≡◌, ℕ, ◌+◌, ◌≤◌, ◌<◌, length, get_or, set, ⊎_elim, sym, subst, arith}
use Rattle.std.proofs.Common.{get_or-set_same, get_or-set_other}
use Rattle.lts.proofs.TestsLaws.{lt_or_le, lt-suc_cases}
use Rattle.text.specs.Model.{Model}
use Rattle.model.specs.System.{source}
use Rattle.model.specs.Inner.Stored.{Stored}
use Rattle.model.specs.Inner.Index.{Begins, Index}

-- no step comes before those of state 0
pub begins-zero : (m : Model) → Begins m 0 0
begins-zero m = record { from_le = omega arith; below = λ j l. omega arith; above = λ j l k. omega arith }

-- the steps of p end where the first step of a greater source stands
pub begins-suc : {s : List ℕ} {m : Model} → Stored s m → (p from to : ℕ) → Begins m p from → to ≤ length m.steps
    → ((j : ℕ) → j < to → from ≤ j → source m j ≡ p) → (to < length m.steps → p < source m to) → Begins m (p + 1) to
begins-suc st p from to b top own end = record {
  from_le = top;
  below = λ j l. ⊎_elim (λ k. omega (arith, b.below j k)) (λ k. omega (arith, own j l k)) (lt_or_le j from);
  above = λ j l k. omega (arith, end (omega arith), st.source_le to j l k);
}

pub begins_at : {m : Model} {p q from : ℕ} → p ≡ q → Begins m p from → Begins m q from
begins_at {m} {from = from} e b = subst (λ (x : ℕ). Begins m x from) e b

-- each step between is one of p
pub begins-source : {m : Model} {p from to : ℕ} → Begins m p from → Begins m (p + 1) to → (i : ℕ) → from ≤ i → i < to
    → source m i ≡ p
begins-source b c i k l = omega (arith, b.above i k (omega (arith, c.from_le)), c.below i l)

pub begins_le : {m : Model} {p from to : ℕ} → Begins m p from → Begins m (p + 1) to → from ≤ to
begins_le {m} {p} {from} {to} b c =
    ⊎_elim
    (λ l. absurd (omega (arith, b.below to l, c.above to (omega arith) (omega (arith, b.from_le)))))
    (λ l. l)
    (lt_or_le to from)

pub index-zero : (m : Model) (begins : List ℕ) → 0 < length begins → Index m 0 (set begins 0 0)
index-zero m begins l = record {
  at = λ p k.
      let e : p ≡ 0 = omega arith in
      subst (λ (x : ℕ). Begins m x (get_or (set begins 0 0) x 0)) (sym e)
      (subst (λ (y : ℕ). Begins m 0 y) (sym (get_or-set_same begins 0 0 0 l)) (begins-zero m));
}

pub index-suc : {m : Model} {begins : List ℕ} {p i to : ℕ} → i ≡ p + 1 → i < length begins → Begins m (p + 1) to
    → Index m p begins → Index m (p + 1) (set begins i to)
index-suc {m} {begins} {p} {i} {to} e l b x = record {
  at = λ q k. ⊎_elim
      (λ z.
      let g : q ≡ i = omega arith in
      subst (λ (y : ℕ). Begins m y (get_or (set begins i to) y 0)) (sym g)
      (subst (λ (y : ℕ). Begins m i y) (sym (get_or-set_same begins i to 0 l))
      (subst (λ (y : ℕ). Begins m y to) (sym e) b)))
      (λ z.
      subst (λ (y : ℕ). Begins m q y) (sym (get_or-set_other begins i q to 0 (λ g. omega arith)))
      (x.at q (omega arith)))
      (lt-suc_cases {i = q} {n = p + 1} (omega arith));
}

pub index_le : {m : Model} {begins : List ℕ} {p n : ℕ} → n ≤ p → Index m p begins → Index m n begins
index_le l x = record { at = λ q k. x.at q (omega arith) }
