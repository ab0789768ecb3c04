-- A round that writes its number for each pair that it separates makes the entries right one round further; and the
-- rows of the states that changed their class hold every such pair. Document 01, operation 3. Assumes nothing.
use Rattle.std.specs.Prelude.{◌≡◌, refl, ◌⊎◌, List, ℕ, suc, ◌+◌, ◌≤◌, ◌<◌, length, get_or, set}
use Rattle.std.proofs.Common.{sym, ap, ◌∙◌, subst, inl, inr, ⊎_elim, arith, lt-length-set, get_or-set_same}
use Rattle.std.proofs.Common.{get_or-set_other, below_more}
use Rattle.lts.specs.Alike.{Moves, Alike, Separated}
use Rattle.lts.proofs.AlikeLaws.{alike_le}
use Rattle.lts.proofs.TestsLaws.{eq_or_not, both_or_not}
use Rattle.text.specs.Limits.{state_limit, table_length, pair_place}
use Rattle.by_state.specs.Inner.Numbered.{Same}
use Rattle.ranking.specs.Inner.ClassList.{Classes, Changed}
use Rattle.ranking.specs.Inner.TableWrites.{entry_of, SeparatedBy, Outside, PairWritten, RoundWritten}
use Rattle.ranking.specs.Inner.TableWrites.{Written, SeparationWritten, RowWritten, RowsWritten}
use Rattle.ranking.specs.Inner.TableWrites.{RankUpTo, RanksUpTo}

-- ---- the two entries of a pair

pub pair_written-set : (t : List ℕ) (round : ℕ) {p q i j : ℕ} → i ≡ pair_place p q → j ≡ pair_place q p → p <
    state_limit
    → q < state_limit → table_length ≤ length t → PairWritten p q round t (set (set t i round) j round)
pair_written-set t round {p} {q} {i} {j} ei ej lp lq lt = record {
  there = ap (λ (k : ℕ). get_or w k 0) (sym ei) ∙ there (eq_or_not i j);
  back = ap (λ (k : ℕ). get_or w k 0) (sym ej) ∙ get_or-set_same u j round 0 long;
  kept = λ x y l d e.
      get_or-set_other u j (pair_place x y) round 0 (λ h. e (omega (arith, h, l, lp, ej), omega (arith, h, l, lp, ej)))
      ∙ get_or-set_other t i (pair_place x y) round 0 (λ h. d
      (omega (arith, h, l, lq, ei), omega (arith, h, l, lq, ei)));
}
  where
    u : List ℕ
    u = set t i round

    w : List ℕ
    w = set u j round

    long : j < length u
    long = lt-length-set t i round (omega arith)

    there : (i ≡ j) ⊎ ¬ (i ≡ j) → get_or w i 0 ≡ round
    there (inl e) = ap (λ (k : ℕ). get_or w k 0) e ∙ get_or-set_same u j round 0 long
    there (inr d) = get_or-set_other u j i round 0 d ∙ get_or-set_same t i round 0 (omega arith)

-- ---- writes one after another

pub outside_refl : {n : ℕ} (t : List ℕ) → Outside n t t
outside_refl t = record { kept = λ p q _ _. refl }

pub outside_trans : {n : ℕ} {t u w : List ℕ} → Outside n t u → Outside n u w → Outside n t w
outside_trans f g = record { kept = λ p q l d. g.kept p q l d ∙ f.kept p q l d }

pub separated_by_sym : {class next : List ℕ} {p q : ℕ} → SeparatedBy class next p q → SeparatedBy class next q p
separated_by_sym h = record { same_before = sym h.same_before; not_same_after = λ e. h.not_same_after (sym e) }

module _ {n : ℕ} {class next : List ℕ} {round : ℕ} where
  pub written_refl : (t : List ℕ) → Written n class next round t t
  written_refl t = record { inside = λ p q _ _. inl refl; outside = outside_refl t }

  pub written_trans : {t u w : List ℕ} → Written n class next round t u → Written n class next round u w
      → Written n class next round t w
  written_trans {t} {u} {w} f g = record {
    inside = λ p q lp lq. go p q (f.inside p q lp lq) (g.inside p q lp lq);
    outside = outside_trans f.outside g.outside;
  }
    where
      go : (p q : ℕ) → (entry_of u p q ≡ entry_of t p q) ⊎ (SeparatedBy class next p q × (entry_of u p q ≡ round))
          → (entry_of w p q ≡ entry_of u p q) ⊎ (SeparatedBy class next p q × (entry_of w p q ≡ round))
          → (entry_of w p q ≡ entry_of t p q) ⊎ (SeparatedBy class next p q × (entry_of w p q ≡ round))
      go p q (inl d) (inl e) = inl (e ∙ d)
      go p q (inr h) (inl e) = inr (h.0, e ∙ h.1)
      go p q d (inr h) = inr h

  -- A write leaves the round's number where it stands.
  pub written_stays : {t u : List ℕ} → Written n class next round t u → (p q : ℕ) → p < n → q < n
      → entry_of t p q ≡ round → entry_of u p q ≡ round
  written_stays {t} {u} f p q lp lq e = go (f.inside p q lp lq)
    where
      go : (entry_of u p q ≡ entry_of t p q) ⊎ (SeparatedBy class next p q × (entry_of u p q ≡ round))
          → entry_of u p q ≡ round
      go (inl d) = d ∙ e
      go (inr h) = h.1

  pub row_stays : {t u : List ℕ} {p m : ℕ} → Written n class next round t u → p < n → m ≤ n
      → RowWritten class next round t p m → RowWritten class next round u p m
  row_stays {p = p} f lp lm r = record {
    pair = λ q l. record {
      both = λ h.
          let w = (r.pair q l).both h in
          (written_stays f p q lp (omega arith) w.0, written_stays f q p (omega arith) lp w.1);
    };
  }

  pub rows_stay : {t u list : List ℕ} {m : ℕ} → Written n class next round t u
      → ((i : ℕ) → i < m → get_or list i 0 < n) → RowsWritten class next round t list m n
      → RowsWritten class next round u list m n
  rows_stay f below r = record { row = λ i l. row_stays f (below i l) (omega arith) (r.row i l) }

  -- The two entries of a separated pair are written.
  pub written_of_pair : {t u : List ℕ} {p q : ℕ} → n ≤ state_limit → p < n → q < n → SeparatedBy class next p q
      → PairWritten p q round t u → Written n class next round t u
  written_of_pair {t} {u} {p} {q} ln lp lq h w = record {
    inside = λ x y _ ly.
        ⊎_elim
        (λ e. inr (at (h, w.there) e))
        (λ d.
        ⊎_elim
        (λ e. inr (at (separated_by_sym h, w.back) e))
        (λ e. inl (w.kept x y (omega (arith, ly, ln)) d e))
        (both_or_not (eq_or_not x q) (eq_or_not y p)))
        (both_or_not (eq_or_not x p) (eq_or_not y q));
    outside = record { kept = λ x y ly d. w.kept x y ly (not_outside lp lq d) (not_outside lq lp d) };
  }
    where
      at : {a b x y : ℕ} → SeparatedBy class next a b × (entry_of u a b ≡ round) → (x ≡ a) × (y ≡ b)
          → SeparatedBy class next x y × (entry_of u x y ≡ round)
      at {b = b} {x} s (e, f) =
          subst (λ (z : ℕ). SeparatedBy class next x z × (entry_of u x z ≡ round)) (sym f)
          (subst (λ (z : ℕ). SeparatedBy class next z b × (entry_of u z b ≡ round)) (sym e) s)

      not_outside : {a b x y : ℕ} → a < n → b < n → (n ≤ x) ⊎ (n ≤ y) → ¬ ((x ≡ a) × (y ≡ b))
      not_outside la lb (inl l) (e, f) = omega arith
      not_outside la lb (inr l) (e, f) = omega arith

module _ {class next t : List ℕ} {round : ℕ} where
  pub row_zero : {p : ℕ} → RowWritten class next round t p 0
  row_zero = record { pair = λ q l. absurd (omega arith) }

  pub row_add_one : {p q : ℕ} → RowWritten class next round t p q → SeparationWritten class next round t p q
      → RowWritten class next round t p (q + 1)
  row_add_one {q = q} r w = record { pair = below_more _ q r.pair w }

  pub row_le : {p m n : ℕ} → n ≤ m → RowWritten class next round t p m → RowWritten class next round t p n
  row_le l r = record { pair = λ q k. r.pair q (omega arith) }

  pub rows_zero : {list : List ℕ} {n : ℕ} → RowsWritten class next round t list 0 n
  rows_zero = record { row = λ i l. absurd (omega arith) }

  pub rows_add_one : {list : List ℕ} {i n : ℕ} → RowsWritten class next round t list i n
      → RowWritten class next round t (get_or list i 0) n → RowsWritten class next round t list (i + 1) n
  rows_add_one {i = i} r h = record { row = below_more _ i r.row h }

  pub rows_le : {list : List ℕ} {m k n : ℕ} → k ≤ m → RowsWritten class next round t list m n
      → RowsWritten class next round t list k n
  rows_le l r = record { row = λ i k. r.row i (omega arith) }

-- ---- all rows

-- Every pair that the round separates stands in the row of one of the two: if neither changed, they are of one class
-- still.
entry_of_separated : {class next t changed : List ℕ} {round n changes : ℕ} → Changed n class next changed changes
    → RowsWritten class next round t changed changes n → (p q : ℕ) → p < n → q < n → SeparatedBy class next p q
    → entry_of t p q ≡ round
entry_of_separated {class} {next} {t} {changed} {round} {n} C r p q lp lq h =
    go (eq_or_not (get_or class p 0) (get_or next p 0)) (eq_or_not (get_or class q 0) (get_or next q 0))
  where
    row_of : (x : ℕ) → x < n → ¬ (get_or class x 0 ≡ get_or next x 0) → RowWritten class next round t x n
    row_of x lx d =
        let l = C.complete x lx d in
        subst (λ (y : ℕ). RowWritten class next round t y n) l.2 (r.row l.0 l.1)

    go : (get_or class p 0 ≡ get_or next p 0) ⊎ ¬ (get_or class p 0 ≡ get_or next p 0)
        → (get_or class q 0 ≡ get_or next q 0) ⊎ ¬ (get_or class q 0 ≡ get_or next q 0) → entry_of t p q ≡ round
    go (inr d) _ = (((row_of p lp d).pair q lq).both h).0
    go (inl e) (inr d) = (((row_of q lq d).pair p lp).both (separated_by_sym h)).1
    go (inl e) (inl u) = absurd (h.not_same_after (sym e ∙ h.same_before ∙ u))

pub round_written_of_rows : {n changes round : ℕ} {class next changed t u : List ℕ}
    → Changed n class next changed changes → Written n class next round t u
    → RowsWritten class next round u changed changes n → RoundWritten n class next round (entry_of t) (entry_of u)
round_written_of_rows C W R = record {
  written = entry_of_separated C R;
  kept = λ p q lp lq d. ⊎_elim (λ e. e) (λ h. absurd (d h.0)) (W.inside p q lp lq);
}

-- ---- a round

-- The entries are right one round further.
pub ranks_up_to-suc : {Move : Moves} {n k : ℕ} {class next : List ℕ} {t u : ℕ → ℕ → ℕ} → Classes Move n k class
    → Classes Move n (suc k) next → RoundWritten n class next (suc k) t u → RanksUpTo Move n k t
    → RanksUpTo Move n (suc k) u
ranks_up_to-suc {Move} {n} {k} {class} {next} {t} {u} C D W U =
    record { found = λ p q lp lq. go p q lp lq (U.found p q lp lq) }
  where
    new : (p q : ℕ) → p < n → q < n → t p q ≡ 0 → Alike Move k p q → Same next p q ⊎ ¬ (Same next p q)
        → RankUpTo Move (suc k) p q (u p q)
    new p q lp lq z h (inl e) =
        inl (W.kept p q lp lq (λ s. s.not_same_after e) ∙ z, D.alike_of_same p q lp lq e)
    new p q lp lq z h (inr d) =
        let e : u p q ≡ suc k = W.written p q lp lq (record {
          same_before = C.same_of_alike p q lp lq h;
          not_same_after = d;
        }) in
        let x : Separated Move p q (suc k) = record {
          not_alike = λ g. d (D.same_of_alike p q lp lq g);
          alike_before = λ j l. alike_le Move p q j k (omega arith) h;
        } in
        inr (omega (arith, e), subst (Separated Move p q) (sym e) x)

    go : (p q : ℕ) → p < n → q < n → RankUpTo Move k p q (t p q) → RankUpTo Move (suc k) p q (u p q)
    go p q lp lq (inl (z, h)) = new p q lp lq z h (eq_or_not (get_or next p 0) (get_or next q 0))
    go p q lp lq (inr (l, x)) =
        let apart : ¬ (SeparatedBy class next p q) = λ s. x.not_alike
        (alike_le Move p q (t p q) k l (C.alike_of_same p q lp lq s.same_before)) in
        let e = W.kept p q lp lq apart in
        inr (omega (arith, e, l), subst (Separated Move p q) (sym e) x)
