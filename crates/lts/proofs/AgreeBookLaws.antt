-- Moves that agree on all n states have the same book of our own: an opening under an idle label stays where it is, the
-- other side may stay too, and so it never leads to a lower rank. With `weak_agree_all` this is so of the low steps and
-- of the moves that are played where there is no silent step. Document 02, (v) and (vii). Assumes nothing.
use Rattle.std.specs.Prelude.{◌⊎◌, ◌≡◌, Bool, ℕ, ◌<◌}
use Rattle.std.proofs.Common.{inl, inr, sym, subst, arith}
use Rattle.lts.specs.Alike.{Moves, Rank}
use Rattle.lts.proofs.AlikeLaws.{rank_sym, rank_unique}
use Rattle.lts.specs.Game.{Game}
use Rattle.lts.specs.Agree.{Agree}
use Rattle.lts.proofs.AgreeLaws.{rank_agree}
use Rattle.lts.specs.Book.{Entry, Book, Opens, Plays, first_opens, second_opens, LowerRank, OwnEntry, OwnBook}
use Rattle.lts.proofs.OwnBookLaws.{opens_turned, opens_turned_back}

module _ (Idle : ℕ → Type 0) (M N : Moves) (n : ℕ) (A : Agree (λ p. p < n) Idle M N)
    (roundM roundN : (ℕ → ℕ → Bool) → ℕ → ℕ → Bool) (GM : Game M n roundM) (GN : Game N n roundN) where
  rank_forth : (p q r : ℕ) → p < n → q < n → Rank M p q r → Rank N p q r
  rank_forth p q r lp lq = (rank_agree (λ p. p < n) Idle M N A n roundM roundN GM GN p q r lp lq lp lq).0

  rank_back : (p q r : ℕ) → p < n → q < n → Rank N p q r → Rank M p q r
  rank_back p q r lp lq = (rank_agree (λ p. p < n) Idle M N A n roundM roundN GM GN p q r lp lq lp lq).1

  lower_rank_forth : (d p q : ℕ) → p < n → q < n → LowerRank M d p q → LowerRank N d p q
  lower_rank_forth d p q lp lq x = record {
    rank = x.rank;
    rank_is = rank_forth p q x.rank lp lq x.rank_is;
    rank_pos = x.rank_pos;
    rank_lt = x.rank_lt;
  }

  lower_rank_back : (d p q : ℕ) → p < n → q < n → LowerRank N d p q → LowerRank M d p q
  lower_rank_back d p q lp lq x = record {
    rank = x.rank;
    rank_is = rank_back p q x.rank lp lq x.rank_is;
    rank_pos = x.rank_pos;
    rank_lt = x.rank_lt;
  }

  -- ---- openings

  opens_forth : (d p q a t : ℕ) → p < n → q < n → Opens M (LowerRank M d) p q a t → Opens N (LowerRank N d) p q a t
  opens_forth d p q a t lp lq o = record {
    opening = A.forth p a t lp o.opening;
    answers = λ u m. go u (A.back q a u lq m);
  }
    where
      go : (u : ℕ) → M q a u ⊎ (Idle a × (q ≡ u)) → LowerRank N d t u
      go u (inl m) = lower_rank_forth d t u (A.closed p a t lp o.opening) (A.closed q a u lq m) (o.answers u m)
      go u (inr i) = absurd (A.not_idle p a t lp o.opening i.0)

  -- p and q have the rank d.
  opens_back : (d p q a t : ℕ) → p < n → q < n → Rank N p q d → Opens N (LowerRank N d) p q a t
      → Opens M (LowerRank M d) p q a t
  opens_back d p q a t lp lq x o = go (A.back p a t lp o.opening)
    where
      go : M p a t ⊎ (Idle a × (p ≡ t)) → Opens M (LowerRank M d) p q a t
      go (inl m) = record {
        opening = m;
        answers = λ u k. lower_rank_back d t u (A.closed p a t lp m) (A.closed q a u lq k)
            (o.answers u (A.forth q a u lq k));
      }
      go (inr (i, e)) =
          let y : LowerRank N d p q = subst (λ (z : ℕ). LowerRank N d z q) (sym e) (o.answers q (A.idle q a lq i)) in
          absurd (omega (arith, rank_unique N p q y.rank d y.rank_is x, y.rank_lt))

  plays_forth : (d p q s a t : ℕ) → p < n → q < n → Plays M (LowerRank M d) p q s a t
      → Plays N (LowerRank N d) p q s a t
  plays_forth d p q s a t lp lq (first_opens e o) = first_opens e (opens_forth d p q a t lp lq o)
  plays_forth d p q s a t lp lq (second_opens e o) =
      second_opens e (opens_turned_back (opens_forth d q p a t lq lp (opens_turned o)))

  plays_back : (d p q s a t : ℕ) → p < n → q < n → Rank N p q d → Plays N (LowerRank N d) p q s a t
      → Plays M (LowerRank M d) p q s a t
  plays_back d p q s a t lp lq x (first_opens e o) = first_opens e (opens_back d p q a t lp lq x o)
  plays_back d p q s a t lp lq x (second_opens e o) =
      second_opens e (opens_turned_back (opens_back d q p a t lq lp (rank_sym N p q d x) (opens_turned o)))

  -- ---- the book

  own_entry_agree : (p q r : ℕ) (e : Entry) → p < n → q < n → Rank N p q r → OwnEntry M p q r e → OwnEntry N p q r e
  own_entry_agree p q r e lp lq x o = record {
    depth_is = o.depth_is;
    opening = record {
      plays = plays_forth r p q _ _ _ lp lq o.opening.plays;
      first_side = λ s b u y. o.opening.first_side s b u (plays_back r p q s b u lp lq x y);
      lowest_action = λ b u y. o.opening.lowest_action b u (plays_back r p q _ b u lp lq x y);
      lowest_target = λ u y. o.opening.lowest_target u (plays_back r p q _ _ u lp lq x y);
    };
  }

  -- Of moves that agree on the n states alone, and but for idle ones: more than `own_book_same` can take.
  pub own_book_agree : (limit : ℕ) (book : Book) → OwnBook M n limit book → OwnBook N n limit book
  own_book_agree limit book o = record {
    apart = λ p q r lp lq x l.
        own_entry_agree p q r (book p q) lp lq x (o.apart p q r lp lq (rank_back p q r lp lq x) l);
    together = λ p q lp lq x. o.together p q lp lq (rank_back p q 0 lp lq x);
    outside = o.outside;
  }
