-- The states of one rank beside each state are gathered row by row, and join the lower ones. Assumes nothing.
use Rattle.std.specs.Prelude.{List, ◌≡◌, ℕ, ◌+◌, ◌<◌, get_or}
use Rattle.std.proofs.Common.{inl, inr, ⊎_elim, sym, subst, arith}
use Rattle.lts.specs.Alike.{Moves}
use Rattle.lts.proofs.AlikeLaws.{rank_unique, rank_refl}
use Rattle.lts.proofs.TestsLaws.{lt_or_le}
use Rattle.text.specs.Limits.{pair_place}
use Rattle.ranking.specs.Table.{Ranks}
use Rattle.sets.specs.Inner.Sets.{Member, Empty, Joined}
use Rattle.sets.specs.Laws.SetsLaws.{joined-map, joined_union}
use Rattle.weak_books.specs.Inner.RankSets.{AtRank, LowerSets, JoinedBelow}

-- ---- one set

module _ {k : ℕ} {P : ℕ → Type 0} where
  pub joined_none : (sets : List ℕ) → ((x : ℕ) → ¬ (P x)) → Joined k P sets sets
  joined_none sets none = record {
    joined = λ x h. absurd (none x h);
    kept = λ j x m. m;
    only = λ j x m. inl m;
  }

-- ---- one rank

-- The states below `to` of rank r beside p.
abbrev pub RowAtRank : List ℕ → ℕ → ℕ → ℕ → ℕ → Type 0
RowAtRank table r p to x = (x < to) × (get_or table (pair_place p x) 0 ≡ r)

module _ (table : List ℕ) {r : ℕ} where
  pub row_at_rank_suc : {p q : ℕ} {sets sets' sets'' : List ℕ} → Joined p (RowAtRank table r p q) sets sets'
      → Joined p (λ x. (x ≡ q) × (get_or table (pair_place p x) 0 ≡ r)) sets' sets''
      → Joined p (RowAtRank table r p (q + 1)) sets sets''
  row_at_rank_suc {p} {q} u v = joined-map
      (λ x h. ⊎_elim (λ l. (omega (arith, l.0), l.1)) (λ e. (omega (arith, e.0), e.1)) h)
      (λ x h. ⊎_elim (λ l. inl (l, h.1)) (λ l. inr (omega (arith, l, h.0), h.1)) (lt_or_le x q))
      (joined_union u v)

  pub row_at_rank_at : {p q n : ℕ} {sets sets' : List ℕ} → q ≡ n → Joined p (RowAtRank table r p q) sets sets'
      → Joined p (RowAtRank table r p n) sets sets'
  row_at_rank_at {p} {sets = sets} {sets'} e = subst (λ (to : ℕ). Joined p (RowAtRank table r p to) sets sets') e

module _ {n : ℕ} {table : List ℕ} {r : ℕ} where
  pub at_rank_zero : {sets : List ℕ} → Empty sets → AtRank n table r 0 sets
  at_rank_zero e = record { at = λ p q l. absurd (omega arith); only = λ p q m. absurd (e.none p q m) }

  pub at_rank_suc : {p : ℕ} {sets sets' : List ℕ} → AtRank n table r p sets → Joined p (RowAtRank table r p n) sets
      sets'
      → AtRank n table r (p + 1) sets'
  at_rank_suc {p} {sets} {sets'} a u = record {
    at = λ x q l k e. ⊎_elim
        (λ h. u.kept x q (a.at x q h k e))
        (λ h.
        let f : x ≡ p = omega (arith, h, l) in
        subst (λ (y : ℕ). Member sets' y q) (sym f)
        (u.joined q (k, subst (λ (y : ℕ). get_or table (pair_place y q) 0 ≡ r) f e)))
        (lt_or_le x p);
    only = λ x q m. ⊎_elim
        (λ y. let b = a.only x q y in (omega (arith, b.0), b.1, b.2))
        (λ y. (
          omega (arith, y.0),
          y.1.0,
          subst (λ (z : ℕ). get_or table (pair_place z q) 0 ≡ r) (sym y.0) y.1.1,
        ))
        (u.only x q m);
  }

  pub at_rank_at : {p : ℕ} {sets : List ℕ} → p ≡ n → AtRank n table r p sets → AtRank n table r n sets
  at_rank_at {sets = sets} e = subst (λ (to : ℕ). AtRank n table r to sets) e

-- ---- each set

pub joined_below-zero : (others sets : List ℕ) → JoinedBelow 0 others sets sets
joined_below-zero others sets = record {
  joined = λ p x l. absurd (omega arith);
  kept = λ p x m. m;
  only = λ p x m. inl m;
}

pub joined_below-suc : {p : ℕ} {others sets sets' sets'' : List ℕ} → JoinedBelow p others sets sets'
    → Joined p (Member others p) sets' sets'' → JoinedBelow (p + 1) others sets sets''
joined_below-suc {p} {others} {sets'' = sets''} u v = record {
  joined = λ y x l m. ⊎_elim
      (λ h. v.kept y x (u.joined y x h m))
      (λ h.
      let e : y ≡ p = omega (arith, h, l) in
      subst (λ (z : ℕ). Member sets'' z x) (sym e) (v.joined x (subst (λ (z : ℕ). Member others z x) e m)))
      (lt_or_le y p);
  kept = λ y x m. v.kept y x (u.kept y x m);
  only = λ y x m.
      ⊎_elim (λ h. u.only y x h) (λ h. inr (subst (λ (z : ℕ). Member others z x) (sym h.0) h.1))
      (v.only y x m);
}

pub joined_below_at : {p n : ℕ} {others sets sets' : List ℕ} → p ≡ n → JoinedBelow p others sets sets'
    → JoinedBelow n others sets sets'
joined_below_at {others = others} {sets} {sets'} e = subst (λ (to : ℕ). JoinedBelow to others sets sets') e

-- ---- the lower ones

module _ {n : ℕ} {table : List ℕ} where
  pub lower_sets_zero : {sets : List ℕ} → Empty sets → LowerSets n table 1 sets
  lower_sets_zero e = record {
    lower = λ p q lp lq h. absurd (omega (arith, h.rank_pos, h.rank_lt));
    only = λ p q m. absurd (e.none p q m);
  }

  pub lower_sets_suc : {r : ℕ} {lower at lower' : List ℕ} → 0 < r → LowerSets n table r lower → AtRank n table r n at
      → JoinedBelow n at lower lower' → LowerSets n table (r + 1) lower'
  lower_sets_suc {r} pos s a j = record {
    lower = λ p q lp lq h. ⊎_elim
        (λ l. j.kept p q (s.lower p q lp lq (record { rank_pos = h.rank_pos; rank_lt = l })))
        (λ l. j.joined p q lp (a.at p q lp lq (omega (arith, l, h.rank_lt))))
        (lt_or_le (get_or table (pair_place p q) 0) r);
    only = λ p q m. ⊎_elim
        (λ y.
        let b = s.only p q y in
        (b.0, b.1, record { rank_pos = b.2.rank_pos; rank_lt = omega (arith, b.2.rank_lt) }))
        (λ y.
        let b = a.only p q y in
        (b.0, b.1, record { rank_pos = omega (arith, pos, b.2); rank_lt = omega (arith, b.2) }))
        (j.only p q m);
  }

  -- No state is lower beside itself.
  pub lower_sets_apart : {Move : Moves} {r : ℕ} {lower : List ℕ} → Ranks Move n table → LowerSets n table r lower
      → (t : ℕ) → ¬ (Member lower t t)
  lower_sets_apart {Move} R s t m =
      let b = s.only t t m in
      let e = rank_unique Move t t _ 0 (R.ranks t t b.0 b.1) (rank_refl Move t) in
      omega (arith, e, b.2.rank_pos)
