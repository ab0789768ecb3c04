-- There is just one book of our own, it is sound, and each of its entries can be found.
-- Document 02, (v). Assumes nothing.
use Rattle.std.specs.Prelude.{◌⊎◌, ◌≡◌, refl, Bool, not}
use Rattle.std.proofs.Common.{inl, inr, sym, ap, ◌∙◌, subst, arith}
use Prim.Native.Nat.{ℕ, zero, suc, ◌≤◌, ◌<◌}
use Rattle.std.proofs.Math.Dec.{T}
use Rattle.lts.proofs.TestsLaws.{lt_or_le, le_of_not_lt}
use Rattle.lts.specs.Alike.{Moves, Relation, Alike, Rank}
use Rattle.lts.proofs.AlikeLaws.{bisimilar→Alike, separated_of_rank, bisimilar_of_rank, rank_sym}
use Rattle.lts.proofs.AgreeLaws.{rank_same}
use Rattle.lts.specs.Game.{Opening, by_first, by_second, Game, alike?}
use Rattle.lts.proofs.GameLaws.{not_alike?→¬Alike, ¬Alike→not_alike?}
use Rattle.lts.proofs.RankLaws.{rank_exists}
use Rattle.lts.proofs.BookLaws.{opens-map, plays-map, plays_side_pos}
use Rattle.lts.specs.Book.{Entry, Book, Present, Opens, Plays, first_opens, second_opens, LowerEntry}
use Rattle.lts.specs.Book.{Sound, LowerRank, FirstPlay, OwnEntry, no_entry, OwnBook}

-- ---- entries

pub entry_ext : (e f : Entry) → e.side ≡ f.side → e.action ≡ f.action → e.target ≡ f.target
    → e.depth ≡ f.depth → e ≡ f
entry_ext e f s a t d =
    ap (λ (x : ℕ). record { side = x; action = e.action; target = e.target; depth = e.depth }) s
    ∙ ap (λ (x : ℕ). record { side = f.side; action = x; target = e.target; depth = e.depth }) a
    ∙ ap (λ (x : ℕ). record { side = f.side; action = f.action; target = x; depth = e.depth }) t
    ∙ ap (λ (x : ℕ). record { side = f.side; action = f.action; target = f.target; depth = x }) d

-- There is one first play.
pub first_play_unique : {Move : Moves} {Leads : Relation} {p q s a t s' a' t' : ℕ} → FirstPlay Move Leads p q s a t
    → FirstPlay Move Leads p q s' a' t' → (s ≡ s') × (a ≡ a') × (t ≡ t')
first_play_unique {Move} {Leads} {p} {q} {s} {a} {t} {s'} {a'} {t'} x y = (side, action, target)
  where
    side : s ≡ s'
    side = omega (arith, x.first_side s' a' t' y.plays, y.first_side s a t x.plays)

    theirs : Plays Move Leads p q s a' t'
    theirs = subst (λ (z : ℕ). Plays Move Leads p q z a' t') (sym side) y.plays

    ours : Plays Move Leads p q s' a t
    ours = subst (λ (z : ℕ). Plays Move Leads p q z a t) side x.plays

    action : a ≡ a'
    action = omega (arith, x.lowest_action a' t' theirs, y.lowest_action a t ours)

    target : t ≡ t'
    target = omega (
      arith,
      x.lowest_target t' (subst (λ (b : ℕ). Plays Move Leads p q s b t') (sym action) theirs),
      y.lowest_target t (subst (λ (b : ℕ). Plays Move Leads p q s' b t) action ours),
    )

-- ---- ranks

pub lower_rank_sym : {Move : Moves} {d x y : ℕ} → LowerRank Move d x y → LowerRank Move d y x
lower_rank_sym {Move} {d} {x} {y} h = record {
  rank = h.rank;
  rank_is = rank_sym Move x y h.rank h.rank_is;
  rank_pos = h.rank_pos;
  rank_lt = h.rank_lt;
}

-- What leads to a lower rank does so with the two sides turned.
pub opens_turned : {Move : Moves} {d p q a t : ℕ} → Opens Move (λ x y. LowerRank Move d y x) p q a t
    → Opens Move (LowerRank Move d) p q a t
opens_turned = opens-map (λ m. m) (λ u m. m) (λ x y. lower_rank_sym)

pub opens_turned_back : {Move : Moves} {d p q a t : ℕ} → Opens Move (LowerRank Move d) p q a t
    → Opens Move (λ x y. LowerRank Move d y x) p q a t
opens_turned_back = opens-map (λ m. m) (λ u m. m) (λ x y. lower_rank_sym)

-- ---- our own book is sound

module _ (Move : Moves) (n : ℕ) (round : (ℕ → ℕ → Bool) → ℕ → ℕ → Bool) (G : Game Move n round) where
  -- States that are not k-alike have a rank above 0 and at most k.
  lower_rank_of_not_alike : (k p q : ℕ) → p < n → q < n → ¬ (Alike Move k p q) → LowerRank Move (suc k) p q
  lower_rank_of_not_alike k p q lp lq d = go (rank_exists Move n round G p q lp lq)
    where
      go : (r : ℕ) × (r < n) × Rank Move p q r → LowerRank Move (suc k) p q
      go (zero, _, x) = absurd (d (bisimilar→Alike Move k p q (bisimilar_of_rank Move p q 0 refl x)))
      go (suc r, _, x) =
          let s = separated_of_rank Move p q (suc r) (omega arith) x in
          record {
            rank = suc r;
            rank_is = x;
            rank_pos = omega arith;
            rank_lt = omega (arith, le_of_not_lt (suc r) k (λ l. d (s.alike_before k l)));
          }

  -- Two states of a rank above 0 have an opening whose answers all lead to a lower rank.
  pub play_exists : (p q r : ℕ) → p < n → q < n → Rank Move p q r → 0 < r
      → (side : ℕ) × (a : ℕ) × (t : ℕ) × Plays Move (LowerRank Move r) p q side a t
  unfolding alike?
  play_exists p q zero lp lq x l = absurd (omega arith)
  play_exists p q (suc k) lp lq x l =
      let s = separated_of_rank Move p q (suc k) l x in
      go (G.fails (alike? round k) p q (¬Alike→not_alike? Move n round G (suc k) p q s.not_alike))
    where
      lower : (y z : ℕ) → y < n → z < n → T (not (alike? round k y z)) → LowerRank Move (suc k) y z
      lower y z ly lz t = lower_rank_of_not_alike k y z ly lz (not_alike?→¬Alike Move n round G k y z t)

      go : Opening Move (alike? round k) p q
          → (side : ℕ) × (a : ℕ) × (t : ℕ) × Plays Move (LowerRank Move (suc k)) p q side a t
      go (by_first a p' m f) = (
        1,
        a,
        p',
        first_opens refl (record {
          opening = m;
          answers = λ u w. lower p' u (G.target_lt p a p' lp m) (G.target_lt q a u lq w) (f u w);
        }),
      )
      go (by_second a q' m f) = (
        2,
        a,
        q',
        second_opens refl (record {
          opening = m;
          answers = λ u w. lower u q' (G.target_lt p a u lp w) (G.target_lt q a q' lq m) (f u w);
        }),
      )

  module _ {limit : ℕ} {book : Book} (own : OwnBook Move n limit book) where
    -- "has entries for just the pairs of nonzero rank, and its depths are the ranks"
    pub own_present : (p q r : ℕ) → p < n → q < n → Rank Move p q r → 0 < r → Present (book p q)
    own_present p q r lp lq x l e =
        omega (arith, e, plays_side_pos (own.apart p q r lp lq x l).opening.plays)

    lower_entry_of_lower_rank : (d x y : ℕ) → x < n → y < n → LowerRank Move d x y → LowerEntry book d x y
    lower_entry_of_lower_rank d x y lx ly h = record {
      present = own_present x y h.rank lx ly h.rank_is h.rank_pos;
      depth_lt = omega (arith, (own.apart x y h.rank lx ly h.rank_is h.rank_pos).depth_is, h.rank_lt);
    }

    -- The answers to an opening of two states lead to states.
    played_lower : (d p q s a t : ℕ) → p < n → q < n → Plays Move (LowerRank Move d) p q s a t
        → Plays Move (LowerEntry book d) p q s a t
    played_lower d p q s a t lp lq (first_opens e o) = first_opens e (record {
      opening = o.opening;
      answers = λ u m.
          lower_entry_of_lower_rank d t u (G.target_lt p a t lp o.opening) (G.target_lt q a u lq m)
          (o.answers u m);
    })
    played_lower d p q s a t lp lq (second_opens e o) = second_opens e (record {
      opening = o.opening;
      answers = λ u m.
          lower_entry_of_lower_rank d u t (G.target_lt p a u lp m) (G.target_lt q a t lq o.opening)
          (o.answers u m);
    })

    -- "Our own book is accepted".
    pub own_sound : Sound Move limit book
    own_sound p q lp lq e = go (lt_or_le p n) (lt_or_le q n)
      where
        play : Type 0
        play = Plays Move (LowerEntry book (book p q).depth) p q (book p q).side (book p q).action
            (book p q).target

        absent : (book p q ≡ no_entry) → play
        absent z = absurd (e (ap (λ (x : Entry). x.side) z))

        ranked : p < n → q < n → (r : ℕ) × (r < n) × Rank Move p q r → play
        ranked kp kq (zero, _, x) = absent (own.together p q kp kq x)
        ranked kp kq (suc r, _, x) =
            let o = own.apart p q (suc r) kp kq x (omega arith) in
            played_lower (book p q).depth p q _ _ _ kp kq
            (subst (λ (d : ℕ). Plays Move (LowerRank Move d) p q (book p q).side (book p q).action
            (book p q).target) (sym o.depth_is) o.opening.plays)

        go : (p < n) ⊎ (n ≤ p) → (q < n) ⊎ (n ≤ q) → play
        go (inl kp) (inl kq) = ranked kp kq (rank_exists Move n round G p q kp kq)
        go (inl kp) (inr kq) = absent (own.outside p q lp lq (inr kq))
        go (inr kp) kq = absent (own.outside p q lp lq (inl kp))

  -- ---- one own book

  own_entry_unique : (p q r : ℕ) (e f : Entry) → OwnEntry Move p q r e → OwnEntry Move p q r f → e ≡ f
  own_entry_unique p q r e f x y =
      let u = first_play_unique x.opening y.opening in
      entry_ext e f u.0 u.1 u.2 (x.depth_is ∙ sym y.depth_is)

  pub own_unique : {limit : ℕ} {book book' : Book} → OwnBook Move n limit book → OwnBook Move n limit book'
      → (p q : ℕ) → p < limit → q < limit → book p q ≡ book' p q
  own_unique {limit} {book} {book'} x y p q lp lq = go (lt_or_le p n) (lt_or_le q n)
    where
      ranked : p < n → q < n → (r : ℕ) × (r < n) × Rank Move p q r → book p q ≡ book' p q
      ranked kp kq (zero, _, z) = x.together p q kp kq z ∙ sym (y.together p q kp kq z)
      ranked kp kq (suc r, _, z) =
          let l : 0 < suc r = omega arith in
          own_entry_unique p q (suc r) _ _ (x.apart p q (suc r) kp kq z l) (y.apart p q (suc r) kp kq z l)

      go : (p < n) ⊎ (n ≤ p) → (q < n) ⊎ (n ≤ q) → book p q ≡ book' p q
      go (inl kp) (inl kq) = ranked kp kq (rank_exists Move n round G p q kp kq)
      go (inl kp) (inr kq) = x.outside p q lp lq (inr kq) ∙ sym (y.outside p q lp lq (inr kq))
      go (inr kp) kq = x.outside p q lp lq (inl kp) ∙ sym (y.outside p q lp lq (inl kp))

-- ---- the same moves, said in two ways

lower_rank_same : {M N : Moves} → ((p a q : ℕ) → M p a q → N p a q) → ((p a q : ℕ) → N p a q → M p a q) → (d p q : ℕ)
    → LowerRank M d p q → LowerRank N d p q
lower_rank_same forth back d p q x = record {
  rank = x.rank;
  rank_is = rank_same forth back p q x.rank_is;
  rank_pos = x.rank_pos;
  rank_lt = x.rank_lt;
}

module _ {M N : Moves} (forth : (p a q : ℕ) → M p a q → N p a q) (back : (p a q : ℕ) → N p a q → M p a q) where
  own_entry_same : (p q r : ℕ) (e : Entry) → OwnEntry M p q r e → OwnEntry N p q r e
  own_entry_same p q r e o = record {
    depth_is = o.depth_is;
    opening = record {
      plays = plays-map forth back (lower_rank_same forth back r) o.opening.plays;
      first_side = λ s b u x. o.opening.first_side s b u (there x);
      lowest_action = λ b u x. o.opening.lowest_action b u (there x);
      lowest_target = λ u x. o.opening.lowest_target u (there x);
    };
  }
    where
      there : {s b u : ℕ} → Plays N (LowerRank N r) p q s b u → Plays M (LowerRank M r) p q s b u
      there = plays-map back forth (lower_rank_same back forth r)

  -- Of the same moves: `own_book_agree` would ask for tests of the rounds.
  pub own_book_same : (n limit : ℕ) (book : Book) → OwnBook M n limit book → OwnBook N n limit book
  own_book_same n limit book o = record {
    apart = λ p q r lp lq x l.
        own_entry_same p q r (book p q) (o.apart p q r lp lq (rank_same back forth p q x) l);
    together = λ p q lp lq x. o.together p q lp lq (rank_same back forth p q x);
    outside = o.outside;
  }
