-- Which labels lead into each state: noted state by state, and label by label. Assumes nothing.
use Rattle.std.specs.Prelude.{List, ◌⊎◌, ◌≡◌, refl, ℕ, ◌+◌, ◌≤◌, ◌<◌, get_or}
use Rattle.std.proofs.Common.{inl, inr, sym, subst, arith}
use Rattle.lts.proofs.TestsLaws.{eq_or_not}
use Rattle.text.specs.Limits.{state_limit}
use Rattle.sets.specs.Inner.Sets.{Member, Joined}
use Rattle.sets.specs.Inner.SetValues.{In, SetOf}
use Rattle.sets.specs.declared.set.Set.{Set}
use Rattle.held.specs.Held.{row_set, slot_place, source_row, Occupied}
use Rattle.splitters.specs.Inner.Splitters.{Into, RowNoted}

-- ---- one label

-- The states of the set of the row but those that are left have got the number.
pub record NotedBut (pool : List ℕ) (row i : ℕ) (left : Set) (entry exit : List ℕ) : Type 0 where
  pub noted : (q : ℕ) → Member pool (row_set row) q → Member exit q i ⊎ In left q
  pub kept : (q x : ℕ) → Member entry q x → Member exit q x

module _ {pool : List ℕ} {row i : ℕ} {left : Set} {entry : List ℕ} where
  pub noted_but_start : SetOf (Member pool (row_set row)) left → NotedBut pool row i left entry entry
  noted_but_start o = record {
    noted = λ q m. inr (o.all q m);
    kept = λ q x m. m;
  }

  -- State q has got the label.
  pub noted_but_next : {q : ℕ} {left' : Set} {mid exit : List ℕ} → NotedBut pool row i left entry mid
      → Joined q (λ x. x ≡ i) mid exit → SetOf (λ x. In left x × ¬ (x ≡ q)) left'
      → NotedBut pool row i left' entry exit
  noted_but_next {q} {left'} {mid} {exit} f j w = record {
    noted = λ x m. noted x (f.noted x m) (eq_or_not x q);
    kept = λ x y m. j.kept x y (f.kept x y m);
  }
    where
      noted : (x : ℕ) → Member mid x i ⊎ In left x → (x ≡ q) ⊎ ¬ (x ≡ q) → Member exit x i ⊎ In left' x
      noted x (inl m) d = inl (j.kept x i m)
      noted x (inr k) (inl e) = inl (subst (λ (y : ℕ). Member exit y i) (sym e) (j.joined i refl))
      noted x (inr k) (inr d) = inr (w.all x (k, d))

  -- None is left.
  pub row_noted_end : {exit : List ℕ} → NotedBut pool row i left entry exit → ((q : ℕ) → ¬ (In left q))
      → RowNoted pool row i entry exit
  row_noted_end {exit} f none = record { noted = λ x m. noted x (f.noted x m); kept = f.kept }
    where
      noted : (x : ℕ) → Member exit x i ⊎ In left x → Member exit x i
      noted x (inl m) = m
      noted x (inr k) = absurd (none x k)

-- ---- one label after another

module _ {labels slots : List ℕ} where
  pub into_zero : {into : List ℕ} → Into labels 0 slots into
  into_zero = record { noted = λ i q l. absurd (omega (arith, l)) }

  pub into_next : {i row : ℕ} {pool into into' : List ℕ} → Occupied slots pool → row ≡ source_row (get_or labels i 0)
      → Into labels i slots into → RowNoted pool row i into into' → Into labels (i + 1) slots into'
  into_next {i} {row} {into' = into'} O r f g = record { noted = λ x q l h. noted x q l h (eq_or_not x i) }
    where
      noted : (x q : ℕ) → x < i + 1 → q < state_limit → (x ≡ i) ⊎ ¬ (x ≡ i)
          → ¬ (get_or slots (slot_place (source_row (get_or labels x 0)) q) 0 ≡ 0) → Member into' q x
      noted x q l h (inl e) d =
          let at : ¬ (get_or slots (slot_place row q) 0 ≡ 0) = subst
          (λ (y : ℕ). ¬ (get_or slots (slot_place y q) 0 ≡ 0)) (sym r)
          (subst (λ (y : ℕ). ¬ (get_or slots (slot_place (source_row (get_or labels y 0)) q) 0 ≡ 0)) e d) in
          subst (Member into' q) (sym e) (g.noted q (O.marked row q h at))
      noted x q l h (inr y) d = g.kept q x (f.noted x q (omega (arith, l, y)) h d)

  pub into_end : {i count : ℕ} {into : List ℕ} → count ≤ i → Into labels i slots into → Into labels count slots into
  into_end l f = record { noted = λ x q h. f.noted x q (omega (arith, l, h)) }
