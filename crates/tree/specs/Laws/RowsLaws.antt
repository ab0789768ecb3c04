-- The rows of the classes are written part by part, filled class by class, and copied state by state. Assumes nothing.
use Rattle.std.specs.Prelude.{List, ◌⊎◌, ◌≡◌, refl, ℕ, ◌+◌, ◌-◌, ◌≤◌, ◌<◌, get_or}
use Rattle.std.proofs.Common.{inl, inr, sym, ap, ap₂, ◌∙◌, subst, arith}
use Rattle.text.specs.Limits.{state_limit}
use Rattle.lts.proofs.TestsLaws.{eq_or_not, lt_or_le}
use Rattle.sets.specs.Inner.Sets.{Member}
use Rattle.sets.specs.Inner.SetValues.{In, SetOf}
use Rattle.sets.specs.Laws.SetValuesLaws.{in_or_not}
use Rattle.sets.specs.declared.set.Set.{Set}
use Rattle.ranking.specs.Inner.TableWrites.{entry_of}
use Rattle.ranking.specs.Laws.TableWritesLaws.{outside_refl, outside_trans}
use Rattle.tree.specs.Inner.Rows.{EntriesWritten, InPart, PartEntry, PartsWritten, RowTaken, filled}
use Rattle.tree.specs.Inner.Rows.{RowsFilled, RowsCopied}

-- ---- parts

pub parts_written_one : {origin under when : List ℕ} (t : List ℕ) → PartsWritten 1 origin under when t t
parts_written_one t = record {
  found = λ c x _. inr (λ e h. omega (arith, h.part_pos, h.part_lt), refl);
}

module _ {origin under : List ℕ} {c x e : ℕ} where
  in_part_lt : {m to : ℕ} → e < to → InPart m origin under c x e → InPart to origin under c x e
  in_part_lt l h = record { part_pos = h.part_pos; part_lt = l; origin_is = h.origin_is; member = h.member }

  -- A part is the last one, or one before it.
  in_part_cases : {to : ℕ} → InPart (to + 1) origin under c x e
      → ((get_or origin to 0 ≡ c) × Member under to x) ⊎ InPart to origin under c x e
  in_part_cases {to} h = go (eq_or_not e to)
    where
      go : (e ≡ to) ⊎ ¬ (e ≡ to) → ((get_or origin to 0 ≡ c) × Member under to x) ⊎ InPart to origin under c x e
      go (inl d) = inl
          (ap (λ (z : ℕ). get_or origin z 0) (sym d) ∙ h.origin_is, subst (λ (z : ℕ). Member under z x) d h.member)
      go (inr d) = inr (in_part_lt (omega (arith, h.part_lt, d)) h)

-- The states that class `to` had when it was divided off are written into the row of its origin.
pub parts_written-suc : {to : ℕ} {s : Set} {origin under when t u w : List ℕ} → 0 < to
    → PartsWritten to origin under when t u → SetOf (Member under to) s
    → EntriesWritten (get_or origin to 0) (In s) (λ _. get_or when to 0) u w → PartsWritten (to + 1) origin under when
    t w
parts_written-suc {to} {s} {origin} {under} {when} {t} {u} {w} p h m f = record {
  found = λ c x l. go c x l (h.found c x l) (eq_or_not c (get_or origin to 0)) (in_or_not s x);
}
  where
    none : (c x : ℕ) → ¬ ((c ≡ get_or origin to 0) × In s x) → ((e : ℕ) → ¬ (InPart to origin under c x e)) → (e : ℕ)
        → ¬ (InPart (to + 1) origin under c x e)
    none c x d g e i = last (in_part_cases i)
      where
        last : ((get_or origin to 0 ≡ c) × Member under to x) ⊎ InPart to origin under c x e → ⊥
        last (inl j) = d (sym j.0, m.all x j.1)
        last (inr j) = g e j

    stays : (c x : ℕ) → x < state_limit → ¬ ((c ≡ get_or origin to 0) × In s x)
        → PartEntry to origin under when t u c x → PartEntry (to + 1) origin under when t w c x
    stays c x l d (inl (e, i, v)) = inl (e, in_part_lt (omega (arith, i.part_lt)) i, f.kept c x l d ∙ v)
    stays c x l d (inr (g, v)) = inr (none c x d g, f.kept c x l d ∙ v)

    go : (c x : ℕ) → x < state_limit → PartEntry to origin under when t u c x
        → (c ≡ get_or origin to 0) ⊎ ¬ (c ≡ get_or origin to 0) → In s x ⊎ ¬ (In s x)
        → PartEntry (to + 1) origin under when t w c x
    go c x l r (inl d) (inl i) = inl (
      to,
      record { part_pos = p; part_lt = omega arith; origin_is = sym d; member = m.only x i },
      ap (λ (z : ℕ). entry_of w z x) d ∙ f.written x l i,
    )
    go c x l r (inl d) (inr i) = stays c x l (λ j. i j.1) r
    go c x l r (inr d) _ = stays c x l (λ j. d j.0) r

-- All classes but class 0 have been gone through, or there was none.
pub parts_written-end : {m to : ℕ} {origin under when t u : List ℕ} → to ≤ m → m ≤ to + (1 - to)
    → PartsWritten m origin under when t u → PartsWritten to origin under when t u
parts_written-end {m} {to} {origin} {under} {when} {t} {u} l k h = record { found = λ c x b. go c x (h.found c x b) }
  where
    go : (c x : ℕ) → PartEntry m origin under when t u c x → PartEntry to origin under when t u c x
    go c x (inl (e, i, v)) = inl (e, in_part_lt (omega (arith, i.part_pos, i.part_lt, k)) i, v)
    go c x (inr (f, v)) = inr (λ e i. f e (in_part_lt (omega (arith, i.part_lt, l)) i), v)

-- ---- rows

pub rows_filled_one : {members origin when : List ℕ} (t : List ℕ) → RowsFilled 1 members origin when t t
rows_filled_one t = record {
  own = λ c x p l _. absurd (omega arith);
  filled_is = λ c x p l _ _. absurd (omega arith);
  kept = λ c x _ _. refl;
}

-- Row `to` is filled from that of its origin, then 0 is written for the class's own states.
module _ {to : ℕ} {s : Set} {members origin when above t u v w : List ℕ} (p : 0 < to)
    (lt : (c : ℕ) → 0 < c → c < to + 1 → get_or origin c 0 < c) (h : RowsFilled to members origin when t u)
    (a : RowTaken (get_or origin to 0) state_limit u above)
    (f : EntriesWritten to (λ x. x < state_limit) (λ x. filled (entry_of u to x) (get_or above x 0)
    (get_or when to 0)) u v)
    (m : SetOf (Member members to) s) (z : EntriesWritten to (In s) (λ _. 0) v w) where
  other_row : (c x : ℕ) → x < state_limit → ¬ (c ≡ to) → entry_of w c x ≡ entry_of u c x
  other_row c x l d = z.kept c x l (λ g. d g.0) ∙ f.kept c x l (λ g. d g.0)

  -- The row of an origin stands as it was.
  origin_row : (c x : ℕ) → 0 < c → c < to + 1 → x < state_limit
      → entry_of u (get_or origin c 0) x ≡ entry_of w (get_or origin c 0) x
  origin_row c x q k l =
      let o = lt c q k in
      sym (other_row (get_or origin c 0) x l (λ e. omega (arith, e, o, k)))

  own_next : (c x : ℕ) → 0 < c → c < to + 1 → Member members c x → (c ≡ to) ⊎ ¬ (c ≡ to) → entry_of w c x ≡ 0
  own_next c x q k i (inl e) =
      ap (λ (d : ℕ). entry_of w d x) e
      ∙ z.written x i.member_lt (m.all x (subst (λ (d : ℕ). Member members d x) e i))
  own_next c x q k i (inr e) = other_row c x i.member_lt e ∙ h.own c x q (omega (arith, k, e)) i

  row_next : (x : ℕ) → x < state_limit → ¬ (Member members to x)
      → entry_of w to x ≡ filled (entry_of t to x) (entry_of w (get_or origin to 0) x) (get_or when to 0)
  row_next x l i =
      z.kept to x l (λ g. i (m.only x g.1)) ∙ f.written x l l
      ∙ ap₂ (λ (b c : ℕ). filled b c (get_or when to 0)) (h.kept to x l (inr (omega arith)))
      (a.taken x l ∙ origin_row to x p (omega arith) l)

  filled_next : (c x : ℕ) → 0 < c → c < to + 1 → x < state_limit → ¬ (Member members c x) → (c ≡ to) ⊎ ¬ (c ≡ to)
      → entry_of w c x ≡ filled (entry_of t c x) (entry_of w (get_or origin c 0) x) (get_or when c 0)
  filled_next c x q k l i (inl e) =
      subst
      (λ (d : ℕ). entry_of w d x ≡ filled (entry_of t d x) (entry_of w (get_or origin d 0) x) (get_or when d 0)) (sym e)
      (row_next x l (λ j. i (subst (λ (d : ℕ). Member members d x) (sym e) j)))
  filled_next c x q k l i (inr e) =
      other_row c x l e ∙ h.filled_is c x q (omega (arith, k, e)) l i
      ∙ ap (λ (b : ℕ). filled (entry_of t c x) b (get_or when c 0)) (origin_row c x q k l)

  kept_next : (c x : ℕ) → x < state_limit → (c ≡ 0) ⊎ (to + 1 ≤ c) → entry_of w c x ≡ entry_of t c x
  kept_next c x l (inl e) = other_row c x l (λ d. omega (arith, d, e, p)) ∙ h.kept c x l (inl e)
  kept_next c x l (inr k) = other_row c x l (λ d. omega (arith, d, k)) ∙ h.kept c x l (inr (omega arith))

  pub rows_filled_suc : RowsFilled (to + 1) members origin when t w
  rows_filled_suc = record {
    own = λ c x q k i. own_next c x q k i (eq_or_not c to);
    filled_is = λ c x q k l i. filled_next c x q k l i (eq_or_not c to);
    kept = kept_next;
  }

pub rows_filled-end : {m to : ℕ} {members origin when t u : List ℕ} → to ≤ m → m ≤ to + (1 - to)
    → RowsFilled m members origin when t u → RowsFilled to members origin when t u
rows_filled-end {m} {to} {members} {origin} {when} {t} {u} l k h = record {
  own = λ c x p j. h.own c x p (omega (arith, j, l));
  filled_is = λ c x p j. h.filled_is c x p (omega (arith, j, l));
  kept = λ c x b d. h.kept c x b (rest c d (lt_or_le c m));
}
  where
    rest : (c : ℕ) → (c ≡ 0) ⊎ (to ≤ c) → (c < m) ⊎ (m ≤ c) → (c ≡ 0) ⊎ (m ≤ c)
    rest c (inl e) _ = inl e
    rest c (inr b) (inl a) = inl (omega (arith, a, b, k))
    rest c (inr b) (inr a) = inr a

-- ---- copies

pub rows_copied-zero : {n : ℕ} {class rows : List ℕ} (t : List ℕ) → RowsCopied 0 n class rows t t
rows_copied-zero t = record { copied = λ p x l _. absurd (omega arith); outside = outside_refl t }

pub rows_copied-suc : {m n c : ℕ} {class rows t u w : List ℕ} → c ≡ get_or class m 0 → m < n → n ≤ state_limit
    → RowsCopied m n class rows t u → EntriesWritten m (λ x. x < n) (entry_of rows c) u w
    → RowsCopied (m + 1) n class rows t w
rows_copied-suc {m} {n} {c} {class} {rows} {t} {u} {w} at l k h f = record {
  copied = λ p x a b. copied p x a b (eq_or_not p m);
  outside = outside_trans h.outside (record { kept = λ p x a d. f.kept p x a (λ g. beyond g.0 g.1 d) });
}
  where
    beyond : {p x : ℕ} → p ≡ m → x < n → (n ≤ p) ⊎ (n ≤ x) → ⊥
    beyond e b (inl d) = omega (arith, e, d, l)
    beyond e b (inr d) = omega (arith, b, d)

    copied : (p x : ℕ) → p < m + 1 → x < n → (p ≡ m) ⊎ ¬ (p ≡ m) → entry_of w p x ≡ entry_of rows (get_or class p 0) x
    copied p x a b (inl e) =
        ap (λ (q : ℕ). entry_of w q x) e ∙ f.written x (omega arith) b
        ∙ ap (λ (d : ℕ). entry_of rows d x) at ∙ ap (λ (q : ℕ). entry_of rows (get_or class q 0) x) (sym e)
    copied p x a b (inr d) = f.kept p x (omega arith) (λ g. d g.0) ∙ h.copied p x (omega (arith, a, d)) b
