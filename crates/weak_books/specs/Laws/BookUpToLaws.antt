-- A round's entries are those of our own book: states of two classes before it are just those that have a lower rank.
-- After the last round the book is our own. Document 02, (v) and (vii). Assumes nothing.
use Rattle.std.specs.Prelude.{Bool, List, ◌⊎◌, ◌≡◌, refl, ℕ, ◌+◌, ◌≤◌, ◌<◌, get_or}
use Rattle.std.proofs.Common.{inl, inr, ⊎_elim, sym, ap, ◌∙◌, subst, arith}
use Rattle.lts.specs.Alike.{Moves, Relation, Separated}
use Rattle.lts.proofs.AlikeLaws.{alike_le, bisimilar→Alike, bisimilar_of_rank, separated_pos}
use Rattle.lts.proofs.AlikeLaws.{separated_of_rank, rank_of_separated}
use Rattle.lts.specs.Game.{Game, Settled}
use Rattle.lts.proofs.GameLaws.{rank_le_settled}
use Rattle.lts.specs.Book.{Entry, Plays, first_opens, second_opens, LowerRank, FirstPlay, OwnEntry}
use Rattle.lts.proofs.TestsLaws.{lt_or_le}
use Rattle.text.specs.Limits.{state_limit, pair_place, book_length}
use Rattle.text.specs.Lists.{Past}
use Rattle.by_state.specs.Inner.Numbered.{Same}
use Rattle.ranking.specs.Inner.ClassList.{Classes}
use Rattle.ranking.specs.Inner.TableWrites.{SeparatedBy, RankUpTo, RanksUpTo}
use Rattle.books.specs.Books.{entry_number, BookFilled}
use Rattle.books.specs.Inner.Filling.{BookEmpty}
use Rattle.weak_books.specs.Inner.Entering.{OtherClass, EntryApart, Entered, SeparatedBelow, BookUpTo}

-- ---- plays of n states

module _ {Move : Moves} {n : ℕ} (target_lt : (p a q : ℕ) → p < n → Move p a q → q < n) {p q : ℕ} (lp : p < n)
    (lq : q < n) where
  -- Leads need only be weaker between states.
  plays_below : {R S : Relation} {s a t : ℕ} → ((x y : ℕ) → x < n → y < n → R x y → S x y) → Plays Move R p q s a t
      → Plays Move S p q s a t
  plays_below {a = a} {t} f (first_opens e o) = first_opens e (record {
    opening = o.opening;
    answers = λ u m. f t u (target_lt p a t lp o.opening) (target_lt q a u lq m) (o.answers u m);
  })
  plays_below {a = a} {t} f (second_opens e o) = second_opens e (record {
    opening = o.opening;
    answers = λ u m. f u t (target_lt p a u lp m) (target_lt q a t lq o.opening) (o.answers u m);
  })

  first_play_below : {R S : Relation} {s a t : ℕ} → ((x y : ℕ) → x < n → y < n → R x y → S x y)
      → ((x y : ℕ) → x < n → y < n → S x y → R x y) → FirstPlay Move R p q s a t → FirstPlay Move S p q s a t
  first_play_below f g o = record {
    plays = plays_below f o.plays;
    first_side = λ s b u x. o.first_side s b u (plays_below g x);
    lowest_action = λ b u x. o.lowest_action b u (plays_below g x);
    lowest_target = λ u x. o.lowest_target u (plays_below g x);
  }

-- ---- one round

module _ {Move : Moves} {n k : ℕ} {class : List ℕ} {rank : ℕ → ℕ → ℕ} (C : Classes Move n k class)
    (U : RanksUpTo Move n k rank) where
  lower_of_apart : (t u : ℕ) → t < n → u < n → OtherClass class t u → LowerRank Move (k + 1) t u
  lower_of_apart t u lt lu d = go (U.found t u lt lu)
    where
      go : RankUpTo Move k t u (rank t u) → LowerRank Move (k + 1) t u
      go (inl h) = absurd (d (C.same_of_alike t u lt lu h.1))
      go (inr (l, x)) = record {
        rank = rank t u;
        rank_is = rank_of_separated Move t u (rank t u) x;
        rank_pos = separated_pos Move t u (rank t u) x;
        rank_lt = omega (arith, l);
      }

  apart_of_lower : (t u : ℕ) → t < n → u < n → LowerRank Move (k + 1) t u → OtherClass class t u
  apart_of_lower t u lt lu h e =
      (separated_of_rank Move t u h.rank h.rank_pos h.rank_is).not_alike
      (alike_le Move t u h.rank k (omega (arith, h.rank_lt)) (C.alike_of_same t u lt lu e))

  module _ (target_lt : (p a q : ℕ) → p < n → Move p a q → q < n) where
    own_entry_of_apart : {p q : ℕ} {e : Entry} → p < n → q < n → EntryApart Move class (k + 1) p q e
        → OwnEntry Move p q (k + 1) e
    own_entry_of_apart lp lq x = record {
      depth_is = x.depth_is;
      opening = first_play_below target_lt lp lq lower_of_apart apart_of_lower x.opening;
    }

    module _ {next book book' : List ℕ} (states_le : n ≤ state_limit) (D : Classes Move n (k + 1) next)
        (W : Entered Move class (k + 1) (SeparatedBelow n class next) book book') where
      -- What a round separates is of one class before it, and of two after it.
      separated_below_of_separated : {p q : ℕ} → p < n → q < n → Separated Move p q (k + 1)
          → SeparatedBelow n class next p q ⊎ SeparatedBelow n class next q p
      separated_below_of_separated {p} {q} lp lq x = go (lt_or_le q p) (lt_or_le p q)
        where
          same : Same class p q
          same = C.same_of_alike p q lp lq (x.alike_before k (omega arith))

          apart : OtherClass next p q
          apart e = x.not_alike (D.alike_of_same p q lp lq e)

          go : (q < p) ⊎ (p ≤ q) → (p < q) ⊎ (q ≤ p) → SeparatedBelow n class next p q ⊎ SeparatedBelow n class next q p
          go (inl l) _ = inl (record {
            first_lt = lp;
            lower = l;
            separated = record { same_before = same; not_same_after = apart };
          })
          go (inr l) (inl m) = inr (record {
            first_lt = lq;
            lower = m;
            separated = record { same_before = sym same; not_same_after = λ e. apart (sym e) };
          })
          go (inr l) (inr m) =
              let e : p ≡ q = omega (arith, l, m) in
              absurd (apart (ap (λ (x : ℕ). get_or next x 0) e))

      -- The entries of other pairs stay.
      kept_of : {p q : ℕ} → p < state_limit → q < state_limit → (p < n → q < n → ¬ (SeparatedBy class next p q))
          → entry_number book' (pair_place p q) ≡ entry_number book (pair_place p q)
      kept_of {p} {q} lp lq f = W.kept p q lp lq
          (λ h. f h.first_lt (omega (arith, h.first_lt, h.lower)) h.separated)
          (λ h. f (omega (arith, h.first_lt, h.lower)) h.first_lt (record {
            same_before = sym h.separated.same_before;
            not_same_after = λ e. h.separated.not_same_after (sym e);
          }))

      pub book_up_to_suc : BookUpTo Move n k book → BookUpTo Move n (k + 1) book'
      book_up_to_suc B = record {
        apart = λ p q r lp lq l x. apart p q r lp lq l x (lt_or_le r (k + 1));
        together = λ p q lp lq h.
            kept_of (omega (arith, lp, states_le)) (omega (arith, lq, states_le))
            (λ _ _ s. s.not_same_after (D.same_of_alike p q lp lq h))
            ∙ B.together p q lp lq (alike_le Move p q k (k + 1) (omega arith) h);
        outside = λ p q lp lq h.
            kept_of lp lq (λ kp kq _. ⊎_elim (λ z. omega (arith, z, kp)) (λ z. omega (arith, z, kq)) h)
            ∙ B.outside p q lp lq h;
      }
        where
          apart : (p q r : ℕ) → p < n → q < n → r ≤ k + 1 → Separated Move p q r → (r < k + 1) ⊎ (k + 1 ≤ r)
              → OwnEntry Move p q r (entry_number book' (pair_place p q))
          apart p q r lp lq l x (inl m) =
              let e = kept_of (omega (arith, lp, states_le)) (omega (arith, lq, states_le)) (λ _ _ s.
              x.not_alike (alike_le Move p q r k (omega (arith, m)) (C.alike_of_same p q lp lq s.same_before))) in
              subst (OwnEntry Move p q r) (sym e) (B.apart p q r lp lq (omega (arith, m)) x)
          apart p q r lp lq l x (inr m) =
              let e : r ≡ k + 1 = omega (arith, l, m) in
              let y = subst (Separated Move p q) e x in
              subst (λ (j : ℕ). OwnEntry Move p q j (entry_number book' (pair_place p q))) (sym e)
              (own_entry_of_apart lp lq (W.entered p q (omega (arith, lp, states_le)) (omega (arith, lq, states_le))
              (separated_below_of_separated lp lq y)))

-- ---- the first round, and the last

pub book_up_to-zero : {Move : Moves} {n : ℕ} {book : List ℕ} → n ≤ state_limit → BookEmpty book → BookUpTo Move n 0 book
book_up_to-zero {Move} states_le empty = record {
  apart = λ p q r lp lq l x. absurd (omega (arith, l, separated_pos Move p q r x));
  together = λ p q lp lq h. empty (pair_place p q) (omega (arith, lp, lq, states_le));
  outside = λ p q lp lq h. empty (pair_place p q) (omega (arith, lp, lq));
}

pub book_filled_of_settled : {Move : Moves} {n : ℕ} {round : (ℕ → ℕ → Bool) → ℕ → ℕ → Bool} → Game Move n round
    → {last : ℕ} {start book : List ℕ} → Settled Move n last → BookUpTo Move n last book → Past book_length start book
    → BookFilled Move n start book
book_filled_of_settled {Move} {n} {round} G {last} S B past = record {
  own = record {
    apart = λ p q r lp lq x l.
        B.apart p q r lp lq (rank_le_settled Move n round G last p q r S lp lq x) (separated_of_rank Move p q r l x);
    together = λ p q lp lq x.
        B.together p q lp lq (bisimilar→Alike Move last p q (bisimilar_of_rank Move p q 0 refl x));
    outside = B.outside;
  };
  past = past;
}
