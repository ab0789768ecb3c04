-- The rows of the classes say of each class and state in which round they were separated. What the parts have written
-- is right; row 0 needs no more, and each other row is right where that of its origin is. Assumes nothing.
use Rattle.std.specs.Prelude.{List, ◌⊎◌, ◌≡◌, ℕ, ◌≤◌, ◌<◌, get_or}
use Rattle.std.proofs.Common.{inl, inr, sym, ap, ◌∙◌, subst, eq-zero-or-pos, arith}
use Rattle.text.specs.Limits.{state_limit}
use Rattle.lts.proofs.TestsLaws.{eq_or_not}
use Rattle.sets.specs.Inner.Sets.{Member}
use Rattle.ranking.specs.Inner.TableWrites.{entry_of}
use Rattle.tree.specs.Inner.Tree.{Under, Tree, Apart, meet, MemberSets, UnderSets}
use Rattle.tree.specs.Inner.Rows.{PartEntry, PartsWritten, filled, RowsFilled}
use Rattle.tree.specs.Laws.EntriesLaws.{filled_zero, filled_pos}
use Rattle.tree.specs.Laws.TreeLaws.{part_of-under, under_le, by_rise, under_zero, apart_of_part, apart_of_other}

module _ {n classes : ℕ} {class members origin under when t u w : List ℕ} {apart : ℕ → ℕ → ℕ} (ln : n ≤ state_limit)
    (T : Tree classes origin when) (M : MemberSets n classes class members)
    (U : UnderSets n classes class origin under) (A : Apart classes origin when apart)
    (zeros : (c x : ℕ) → entry_of t c x ≡ 0) (P : PartsWritten classes origin under when t u)
    (F : RowsFilled classes members origin when u w) where
  -- What the parts have written of class c and a state of class y: the round where y is under c and not c itself, and 0
  -- elsewhere.
  abbrev Written : ℕ → ℕ → ℕ → Type 0
  Written c y v = ((v ≡ apart c y) × (0 < v)) ⊎ ((v ≡ 0) × (¬ (y ≡ c) → ¬ (Under origin c y)))

  part_entry : (c x : ℕ) → x < n → Written c (get_or class x 0) (entry_of u c x)
  part_entry c x k = go (P.found c x (omega arith))
    where
      go : PartEntry classes origin under when t u c x → Written c (get_or class x 0) (entry_of u c x)
      go (inl (e, i, v)) =
          let under = (U.only e x i.part_pos i.part_lt i.member).1 in
          let round = apart_of_part T A i.part_pos (M.class_lt x k) under in
          inl (
            v ∙ sym round ∙ ap (λ (d : ℕ). apart d (get_or class x 0)) i.origin_is,
            omega (arith, v, T.when_pos e i.part_pos i.part_lt),
          )
      go (inr (f, v)) = inr (
        v ∙ zeros c x,
        λ d under.
            let e = part_of-under under d in
            let l : e.0 < classes = omega (arith, under_le T (M.class_lt x k) e.3, M.class_lt x k) in
            f e.0
            (record { part_pos = e.1; part_lt = l; origin_is = e.2; member = U.all e.0 x e.1 l k e.3 }),
      )

  -- Row 0 has what the parts have written: all classes are under class 0.
  first_row : {c x : ℕ} → c ≡ 0 → c < classes → x < n → entry_of w c x ≡ apart c (get_or class x 0)
  first_row {c} {x} e l k =
      F.kept c x (omega arith) (inl e) ∙ go (part_entry c x k) (eq_or_not (get_or class x 0) c)
    where
      go : Written c (get_or class x 0) (entry_of u c x) → (get_or class x 0 ≡ c) ⊎ ¬ (get_or class x 0 ≡ c)
          → entry_of u c x ≡ apart c (get_or class x 0)
      go (inl h) _ = h.0
      go (inr h) (inl d) = h.0 ∙ sym (ap (apart c) d ∙ A.same c l)
      go (inr h) (inr d) =
          let under = under_zero T (get_or class x 0) (M.class_lt x k) in
          absurd (h.1 d (subst (λ (z : ℕ). Under origin z (get_or class x 0)) (sym e) under))

  -- Another row is right where that of its origin is.
  next_row : {c x : ℕ} → 0 < c → c < classes → x < n
      → entry_of w (get_or origin c 0) x ≡ apart (get_or origin c 0) (get_or class x 0)
      → entry_of w c x ≡ apart c (get_or class x 0)
  next_row {c} {x} p l k r = go (eq_or_not (get_or class x 0) c)
    where
      other : ¬ (get_or class x 0 ≡ c) → Written c (get_or class x 0) (entry_of u c x)
          → filled (entry_of u c x) (entry_of w (get_or origin c 0) x) (get_or when c 0) ≡ apart c (get_or class x 0)
      other d (inl h) = filled_pos (entry_of u c x) (entry_of w (get_or origin c 0) x) (get_or when c 0) h.1 ∙ h.0
      other d (inr h) =
          filled_zero (entry_of u c x) (entry_of w (get_or origin c 0) x) (get_or when c 0) h.0
          ∙ ap (λ (z : ℕ). meet z (get_or when c 0)) r
          ∙ sym (apart_of_other T A p l (get_or class x 0) (M.class_lt x k) (h.1 d))

      go : (get_or class x 0 ≡ c) ⊎ ¬ (get_or class x 0 ≡ c) → entry_of w c x ≡ apart c (get_or class x 0)
      go (inl d) =
          F.own c x p l (subst (λ (z : ℕ). Member members z x) d (M.all x k))
          ∙ sym (ap (apart c) d ∙ A.same c l)
      go (inr d) =
          F.filled_is c x p l (omega arith) (λ m. d (M.only c x l m).1) ∙ other d (part_entry c x k)

  pub row_is_apart : (c : ℕ) → c < classes → (x : ℕ) → x < n → entry_of w c x ≡ apart c (get_or class x 0)
  row_is_apart =
      by_rise T (λ c. (x : ℕ) → x < n → entry_of w c x ≡ apart c (get_or class x 0))
      (λ c l r x k. go c l r x k (eq-zero-or-pos c))
    where
      go : (c : ℕ) → c < classes
          → ((d : ℕ) → d < c → (x : ℕ) → x < n → entry_of w d x ≡ apart d (get_or class x 0))
          → (x : ℕ) → x < n → (c ≡ 0) ⊎ (0 < c) → entry_of w c x ≡ apart c (get_or class x 0)
      go c l r x k (inl e) = first_row e l k
      go c l r x k (inr p) = next_row p l k (r (get_or origin c 0) (T.origin_lt c p l) x k)
