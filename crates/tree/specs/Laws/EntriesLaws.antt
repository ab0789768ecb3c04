-- Entries are written one by one. Assumes nothing.
use Rattle.std.specs.Prelude.{List, ◌⊎◌, ◌≡◌, refl, ℕ, zero, suc, ◌+◌, ◌-◌, ◌*◌, ◌≤◌, ◌<◌, length, get_or, set}
use Rattle.std.proofs.Common.{inl, inr, sym, ap, ◌∙◌, subst, arith, get_or-set_same, get_or-set_other, below_more}
use Rattle.text.specs.Limits.{state_limit, pair_place}
use Rattle.lts.proofs.TestsLaws.{eq_or_not, lt_or_le}
use Rattle.sets.specs.Inner.SetValues.{In, SetOf}
use Rattle.sets.specs.declared.set.Set.{Set}
use Rattle.ranking.specs.Inner.TableWrites.{entry_of}
use Rattle.tree.specs.Inner.Tree.{meet}
use Rattle.tree.specs.Inner.Rows.{RoundNoted, EntriesWritten, RowTaken, filled}

-- ---- the value of an entry

pub filled_zero : (v o w : ℕ) → v ≡ 0 → filled v o w ≡ meet o w
filled_zero v o w e = ap (λ (x : ℕ). filled x o w) e

pub filled_pos : (v o w : ℕ) → 0 < v → filled v o w ≡ v
filled_pos zero o w l = absurd (omega arith)
filled_pos (suc v) o w l = refl

-- ---- rounds

pub round_noted_none : {from round : ℕ} (t : List ℕ) → RoundNoted from from round t t
round_noted_none t = record { noted = λ c l k. absurd (omega arith); kept = λ c _. refl }

pub round_noted-suc : {from to round : ℕ} {t u w : List ℕ} → from ≤ to → to < length u → RoundNoted from to round t u
    → w ≡ set u to round → RoundNoted from (to + 1) round t w
round_noted-suc {from} {to} {round} {t} {u} {w} l k h e = record {
  noted = λ c m j. below_more (λ c. from ≤ c → get_or w c 0 ≡ round) to
      (λ c i m. other c (λ d. omega (arith, d, i)) ∙ h.noted c m i)
      (λ _. ap (λ (v : List ℕ). get_or v to 0) e ∙ get_or-set_same u to round 0 k) c j m;
  kept = kept;
}
  where
    other : (c : ℕ) → ¬ (c ≡ to) → get_or w c 0 ≡ get_or u c 0
    other c d = ap (λ (v : List ℕ). get_or v c 0) e ∙ get_or-set_other u to c round 0 d

    kept : (c : ℕ) → (c < from) ⊎ (to + 1 ≤ c) → get_or w c 0 ≡ get_or t c 0
    kept c (inl m) = other c (λ d. omega (arith, d, m, l)) ∙ h.kept c (inl m)
    kept c (inr m) = other c (λ d. omega (arith, d, m)) ∙ h.kept c (inr (omega arith))

-- All classes have been gone through, or there was none.
pub round_noted-end : {from to m round : ℕ} {t u : List ℕ} → from ≤ m → to ≤ m → m ≤ to + (from - to)
    → RoundNoted from m round t u → RoundNoted from to round t u
round_noted-end {from} {to} {m} {round} {t} {u} l k j h = record {
  noted = λ c a b. h.noted c a (omega (arith, b, k));
  kept = λ c d. kept c d (lt_or_le c m);
}
  where
    kept : (c : ℕ) → (c < from) ⊎ (to ≤ c) → (c < m) ⊎ (m ≤ c) → get_or u c 0 ≡ get_or t c 0
    kept c (inl a) _ = h.kept c (inl a)
    kept c (inr a) (inl b) = h.kept c (inl (omega (arith, a, b, j)))
    kept c (inr a) (inr b) = h.kept c (inr b)

-- ---- entries of a row

pub entries_written_none : {c : ℕ} {P : ℕ → Type 0} {value : ℕ → ℕ} (t : List ℕ) → ((x : ℕ) → ¬ (P x))
    → EntriesWritten c P value t t
entries_written_none t f = record { written = λ x _ p. absurd (f x p); kept = λ d x _ _. refl }

pub entries_written-map : {c : ℕ} {P Q : ℕ → Type 0} {value : ℕ → ℕ} {t u : List ℕ} → ((x : ℕ) → P x → Q x)
    → ((x : ℕ) → Q x → P x) → EntriesWritten c P value t u → EntriesWritten c Q value t u
entries_written-map f g h = record {
  written = λ x l q. h.written x l (g x q);
  kept = λ d x l o. h.kept d x l (λ p. o (p.0, f x p.1));
}

-- The entry of x is written too.
entries_written_add : {c x i v : ℕ} {P Q : ℕ → Type 0} {value : ℕ → ℕ} {t u w : List ℕ} → i ≡ pair_place c x
    → i < length u → x < state_limit → Q x → ((y : ℕ) → P y → Q y) → ((y : ℕ) → ¬ (y ≡ x) → Q y → P y)
    → EntriesWritten c P value t u → w ≡ set u i v → v ≡ value x → EntriesWritten c Q value t w
entries_written_add {c} {x} {i} {v} {P} {Q} {value} {t} {u} {w} at k l q f g h put e = record {
  written = λ y m p. written y m p (eq_or_not y x);
  kept = λ d y m o. other d y m (λ a. o (a.0, subst Q (sym a.1) q)) ∙ h.kept d y m (λ a. o (a.0, f y a.1));
}
  where
    other : (d y : ℕ) → y < state_limit → ¬ ((d ≡ c) × (y ≡ x)) → entry_of w d y ≡ entry_of u d y
    other d y m o =
        ap (λ (z : List ℕ). entry_of z d y) put
        ∙ get_or-set_other u i (pair_place d y) v 0 (λ a. o (omega (arith, a, at, l, m), omega (arith, a, at, l, m)))

    written : (y : ℕ) → y < state_limit → Q y → (y ≡ x) ⊎ ¬ (y ≡ x) → entry_of w c y ≡ value y
    written y m p (inl d) =
        ap (entry_of w c) d ∙ ap (λ (z : ℕ). get_or w z 0) (sym at) ∙ ap (λ (z : List ℕ). get_or z i 0) put
        ∙ get_or-set_same u i v 0 k ∙ e ∙ ap value (sym d)
    written y m p (inr d) = other c y m (λ a. d a.1) ∙ h.written y m (g y d p)

-- Row c begins at the place `at`. The first m entries are written, and the next one,
entries_written-suc : {c m at v : ℕ} {value : ℕ → ℕ} {t u w : List ℕ} → at ≡ state_limit * c → at + m < length u
    → m < state_limit → EntriesWritten c (λ x. x < m) value t u → w ≡ set u (at + m) v → v ≡ value m
    → EntriesWritten c (λ x. x < m + 1) value t w
entries_written-suc {m = m} e k l =
    entries_written_add {x = m} (omega (arith, e)) k l (omega arith) (λ y a. omega (arith, a))
    (λ y d a. omega (arith, d, a))

-- a copied one,
pub entries_written_copy : (rows : List ℕ) (c : ℕ) {p m at from : ℕ} {t u w : List ℕ} → at ≡ state_limit * p
    → from ≡ state_limit * c → at + m < length u → m < state_limit
    → EntriesWritten p (λ x. x < m) (entry_of rows c) t u → w ≡ set u (at + m) (get_or rows (from + m) 0)
    → EntriesWritten p (λ x. x < m + 1) (entry_of rows c) t w
entries_written_copy rows c {m = m} e f k l h put =
    entries_written-suc e k l h put (ap (λ (z : ℕ). get_or rows (z + m) 0) f)

-- or one that is filled, which no write before has changed.
pub entries_written-fill : (above : List ℕ) (o : ℕ) {c m at v : ℕ} {t u w : List ℕ} → at ≡ state_limit * c
    → at + m < length u → m < state_limit
    → EntriesWritten c (λ x. x < m) (λ x. filled (entry_of t c x) (get_or above x 0) o) t u → w ≡ set u (at + m) v
    → v ≡ filled (get_or u (at + m) 0) (get_or above m 0) o
    → EntriesWritten c (λ x. x < m + 1) (λ x. filled (entry_of t c x) (get_or above x 0) o) t w
entries_written-fill above o {c} {m} {u = u} e k l h put v-is =
    entries_written-suc e k l h put
    (v-is ∙ ap (λ (z : ℕ). filled z (get_or above m 0) o)
    (ap (λ (z : ℕ). get_or u (z + m) 0) e ∙ h.kept c m l (λ a. omega (arith, a.1))))

-- Those of the states of s that are not left are written, and that of one that is left.
pub entries_written_other : {c x at v : ℕ} {s left rest : Set} {t u w : List ℕ} → at ≡ state_limit * c → at + x <
    length u
    → In s x → SetOf (λ y. In left y × ¬ (y ≡ x)) rest
    → EntriesWritten c (λ y. In s y × ¬ (In left y)) (λ _. v) t u → w ≡ set u (at + x) v
    → EntriesWritten c (λ y. In s y × ¬ (In rest y)) (λ _. v) t w
entries_written_other {x = x} e k m o h put =
    entries_written_add (omega (arith, e)) k m.member_lt (m, λ j. (o.only x j).1 refl)
    (λ y p. (p.0, λ j. p.1 (o.only y j).0)) (λ y d p. (p.0, λ j. p.1 (o.all y (j, d)))) h put refl

-- ---- a row that is copied out

pub row_taken-zero : {c : ℕ} {rows row : List ℕ} → RowTaken c 0 rows row
row_taken-zero = record { taken = λ x l. absurd (omega arith) }

pub row_taken-suc : {c m from : ℕ} {rows t u : List ℕ} → from ≡ state_limit * c → m < length t → RowTaken c m rows t
    → u ≡ set t m (get_or rows (from + m) 0) → RowTaken c (m + 1) rows u
row_taken-suc {c} {m} {from} {rows} {t} {u} e l h put = record {
  taken = below_more (λ x. get_or u x 0 ≡ entry_of rows c x) m
      (λ x k. ap (λ (v : List ℕ). get_or v x 0) put ∙ get_or-set_other t m x byte 0 (λ d. omega (arith, d, k))
      ∙ h.taken x k)
      (ap (λ (v : List ℕ). get_or v m 0) put ∙ get_or-set_same t m byte 0 l ∙ ap (λ (z : ℕ). get_or rows (z + m) 0) e);
}
  where
    byte : ℕ
    byte = get_or rows (from + m) 0
