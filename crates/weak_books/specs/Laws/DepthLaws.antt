-- Depth by depth the first sides open, and by ranks in the table the answers are lower. Assumes nothing.
use Rattle.std.specs.Prelude.{List, ◌≡◌, ℕ, ◌+◌, ◌≤◌, ◌<◌, get_or}
use Rattle.std.proofs.Common.{inl, inr, ⊎_elim, sym, ◌∙◌, subst, arith}
use Rattle.lts.specs.Alike.{Moves}
use Rattle.lts.specs.Book.{Opens, LowerRank}
use Rattle.lts.proofs.BookLaws.{opens-map}
use Rattle.lts.proofs.TestsLaws.{lt_or_le}
use Rattle.text.specs.Limits.{state_limit, pair_place}
use Rattle.ranking.specs.Table.{Ranks}
use Rattle.ranking.specs.Laws.LowerRanksLaws.{lower_rank_of_rank_in, rank_in_of_lower_rank}
use Rattle.sets.specs.Inner.Sets.{Member}
use Rattle.books.specs.Books.{entry_number}
use Rattle.books.specs.Inner.Filling.{BookEmpty}
use Rattle.held.specs.HeldTests.{label_limit}
use Rattle.weak_books.specs.Inner.RankSets.{AtRank, LowerSets}
use Rattle.weak_books.specs.Inner.Opened.{OpenedBelow, none, OpenedTo, OnlyAt, OpenedBefore}
use Rattle.weak_books.specs.Laws.OpenedLaws.{opened_below_same}

-- The entries of other ranks stay.
module _ {n : ℕ} {table : List ℕ} {d : ℕ} {at book book' : List ℕ} (a : AtRank n table d n at)
    (w : OnlyAt n at book book') where
  kept_outside : (p q : ℕ) → q < state_limit → ((p < n) → (q < n) → ¬ (get_or table (pair_place p q) 0 ≡ d))
      → entry_number book' (pair_place p q) ≡ entry_number book (pair_place p q)
  kept_outside p q lq h = w.kept (pair_place p q) (λ u v lu m e.
      let f : u ≡ p = omega (arith, e, lq, m.member_lt) in
      let g : v ≡ q = omega (arith, e, lq, m.member_lt) in
      let b = a.only u v m in
      h (omega (arith, f, b.0)) (omega (arith, g, b.1))
      (subst (λ (k : ℕ). get_or table k 0 ≡ d) (sym e) b.2))

module _ {Move : Moves} {n : ℕ} {table : List ℕ} (states_le : n ≤ state_limit) where
  -- An empty book is one before depth 1.
  pub opened_before_start : {book : List ℕ} → BookEmpty book → OpenedBefore Move n table 1 book
  opened_before_start empty = record {
    opened = λ p q lp lq pos l. absurd (omega (arith, pos, l));
    empty = λ p q lp lq h. empty (pair_place p q) (omega (arith, lp, lq, states_le));
    outside = λ p q lp lq h. empty (pair_place p q) (omega (arith, lp, lq));
  }

  -- The states of the next depth have no entries.
  pub opened_to_zero : {d : ℕ} {lower at book : List ℕ} → AtRank n table d n at → OpenedBefore Move n table d book
      → OpenedTo Move n lower at d 0 book
  opened_to_zero a x = record {
    opened = λ p q l m.
        let b = a.only p q m in
        none (x.empty p q b.0 b.1 (inr (omega (arith, b.2)))) (λ c t k. absurd (omega (arith, k)));
  }

  module _ (target_lt : (p a q : ℕ) → Move p a q → q < n) (R : Ranks Move n table) where
    module _ {d : ℕ} {lower : List ℕ} (s : LowerSets n table d lower) where
      opens_ranked : {p q : ℕ} (a t : ℕ) → Opens Move (Member lower) p q a t → Opens Move (LowerRank Move d) p q a t
      opens_ranked a t = opens-map (λ m. m) (λ u m. m) (λ x y h.
          let b = s.only x y h in
          lower_rank_of_rank_in R b.0 b.1 b.2)

      opens_in_sets : {p q : ℕ} (a t : ℕ) → Opens Move (LowerRank Move d) p q a t → Opens Move (Member lower) p q a t
      opens_in_sets {p} {q} a t o = record {
        opening = o.opening;
        answers = λ u m.
            let lt = target_lt p a t o.opening in
            let lu = target_lt q a u m in
            s.lower t u lt lu (rank_in_of_lower_rank R lt lu (o.answers u m));
      }

    -- With all labels done, the next depth begins.
    pub opened_before_suc : {d : ℕ} {lower at book book' : List ℕ} → 0 < d → LowerSets n table d lower
        → AtRank n table d n at → OpenedBefore Move n table d book → OpenedTo Move n lower at d label_limit book'
        → OnlyAt n at book book' → OpenedBefore Move n table (d + 1) book'
    opened_before_suc {d} {lower} {at} {book} {book'} pos s a x y w = record {
      opened = λ p q lp lq k l. ⊎_elim
          (λ h.
          subst (OpenedBelow Move (LowerRank Move (get_or table (pair_place p q) 0)) (get_or table (pair_place p q) 0)
          p q
          label_limit) (sym (kept_outside a w p q (omega (arith, lq, states_le)) (λ _ _ e. omega (arith, e, h))))
          (x.opened p q lp lq k h))
          (λ h.
          let e : get_or table (pair_place p q) 0 ≡ d = omega (arith, h, l) in
          subst (λ (r : ℕ). OpenedBelow Move (LowerRank Move r) r p q label_limit (entry_number book' (pair_place p q)))
          (sym e)
          (opened_below_same (opens_ranked s) (opens_in_sets s) (y.opened p q lp (a.at p q lp lq e))))
          (lt_or_le (get_or table (pair_place p q) 0) d);
      empty = λ p q lp lq h.
          kept_outside a w p q (omega (arith, lq, states_le)) (λ _ _ e.
          ⊎_elim (λ z. omega (arith, z, e, pos)) (λ z. omega (arith, z, e)) h)
          ∙ x.empty p q lp lq (⊎_elim (λ z. inl z) (λ z. inr (omega (arith, z))) h);
      outside = λ p q lp lq h.
          kept_outside a w p q lq (λ kp kq _. ⊎_elim (λ z. omega (arith, z, kp)) (λ z. omega (arith, z, kq)) h)
          ∙ x.outside p q lp lq h;
    }

pub opened_before_at : {Move : Moves} {n : ℕ} {table : List ℕ} {c d : ℕ} {book : List ℕ} → c ≡ d
    → OpenedBefore Move n table c book → OpenedBefore Move n table d book
opened_before_at {Move} {n} {table} {book = book} e = subst (λ (x : ℕ). OpenedBefore Move n table x book) e
