-- The first opening of either side is the first play, and no bisimulation pairs two states that a sound book has an
-- entry for.
-- Document 02, (v). Assumes nothing.
use Rattle.std.specs.Prelude.{◌⊎◌, ◌≡◌, refl, ℕ, zero, suc, ◌≤◌, ◌<◌, T}
use Rattle.std.proofs.Common.{inl, inr, ⊎_elim, arith}
use Rattle.lts.proofs.TestsLaws.{eq_or_not}
use Rattle.lts.specs.Alike.{Moves, Relation, Bisimulation, Bisimilar, Rank}
use Rattle.lts.proofs.AlikeLaws.{bisimilar_of_rank}
use Rattle.lts.specs.Book.{Book, Present, Opens, Plays, first_opens, second_opens, LowerEntry, SoundAt}
use Rattle.lts.specs.Book.{Sound, FirstPlay}

-- ---- plays

pub opens-map : {M N : Moves} {R S : Relation} {p q a t : ℕ} → (M p a t → N p a t) → ((u : ℕ) → N q a u → M q a u)
    → ((x y : ℕ) → R x y → S x y) → Opens M R p q a t → Opens N S p q a t
opens-map f g h o = record { opening = f o.opening; answers = λ u m. h _ u (o.answers u (g u m)) }

-- Plays over the same moves, where Leads becomes weaker.
pub plays-map : {M N : Moves} {R S : Relation} {p q side a t : ℕ} → ((x b y : ℕ) → M x b y → N x b y)
    → ((x b y : ℕ) → N x b y → M x b y) → ((x y : ℕ) → R x y → S x y) → Plays M R p q side a t
    → Plays N S p q side a t
plays-map f g h (first_opens e o) = first_opens e (opens-map (f _ _ _) (λ u. g _ _ u) h o)
plays-map f g h (second_opens e o) = second_opens e (opens-map (f _ _ _) (λ u. g _ _ u) (λ x y. h y x) o)

module _ {Move : Moves} {R : Relation} {p q side a t : ℕ} where
  pub plays_side_pos : Plays Move R p q side a t → 0 < side
  plays_side_pos (first_opens e _) = omega arith
  plays_side_pos (second_opens e _) = omega arith

  -- The opener of a known side.
  pub opens_of_first : side ≡ 1 → Plays Move R p q side a t → Opens Move R p q a t
  opens_of_first e (first_opens _ o) = o
  opens_of_first e (second_opens d _) = absurd (omega (arith, e, d))

  pub opens_of_second : side ≡ 2 → Plays Move R p q side a t → Opens Move (λ x y. R y x) q p a t
  opens_of_second e (first_opens d _) = absurd (omega (arith, e, d))
  opens_of_second e (second_opens _ o) = o

  pub no_other_side : ¬ (side ≡ 1) → ¬ (side ≡ 2) → ¬ (Plays Move R p q side a t)
  no_other_side f s (first_opens d _) = f d
  no_other_side f s (second_opens d _) = s d

-- ---- the first opening of either side

module _ {Move : Moves} {Leads : Relation} {p q : ℕ} where
  -- The first side opens with its first opening.
  pub first_play_of_first : {a t : ℕ} → Opens Move Leads p q a t
      → ((b u : ℕ) → Opens Move Leads p q b u → (a < b) ⊎ ((a ≡ b) × (t ≤ u))) → FirstPlay Move Leads p q 1 a t
  first_play_of_first o m = record {
    plays = first_opens refl o;
    first_side = λ s b u x. omega (arith, plays_side_pos x);
    lowest_action = λ b u x. ⊎_elim (λ l. omega (arith, l)) (λ e. omega (arith, e.0)) (m b u (opens_of_first refl x));
    lowest_target = λ u x. ⊎_elim (λ l. absurd (omega (arith, l))) (λ e. e.1) (m _ u (opens_of_first refl x));
  }

  module _ (turn : (x y : ℕ) → Leads x y → Leads y x) (none : (b u : ℕ) → ¬ (Opens Move Leads p q b u)) where
    -- Where the first side cannot open, the second does.
    pub opens_by_second : {s b u : ℕ} → Plays Move Leads p q s b u → (s ≡ 2) × Opens Move Leads q p b u
    opens_by_second (first_opens e o) = absurd (none _ _ o)
    opens_by_second (second_opens e o) = (e, opens-map (λ m. m) (λ u m. m) (λ x y. turn y x) o)

    -- Its first opening is the first play.
    pub first_play_of_second : {a t : ℕ} → Opens Move Leads q p a t
        → ((b u : ℕ) → Opens Move Leads q p b u → (a < b) ⊎ ((a ≡ b) × (t ≤ u))) → FirstPlay Move Leads p q 2 a t
    first_play_of_second o m = record {
      plays = second_opens refl (opens-map (λ m. m) (λ u m. m) turn o);
      first_side = λ s b u x. omega (arith, (opens_by_second x).0);
      lowest_action = λ b u x.
          ⊎_elim (λ l. omega (arith, l)) (λ e. omega (arith, e.0)) (m b u (opens_by_second x).1);
      lowest_target = λ u x. ⊎_elim (λ l. absurd (omega (arith, l))) (λ e. e.1) (m _ u (opens_by_second x).1);
    }

-- ---- sound books

module _ (Move : Moves) (limit : ℕ) (stays : (p a q : ℕ) → p < limit → Move p a q → q < limit) (book : Book)
    (sound : Sound Move limit book) where
  -- An opening is never answered inside a bisimulation: the answers would lead to ever lower depths.
  not_paired_below : (R : Relation) → Bisimulation Move R → (k p q : ℕ) → p < limit → q < limit → Present (book p q)
      → (book p q).depth < k → ¬ (R p q)
  not_paired_below R b zero p q lp lq e l r = absurd (omega arith)
  not_paired_below R b (suc k) p q lp lq e l r = go
      (λ x y lx ly h. not_paired_below R b k x y lx ly h.present (omega (arith, h.depth_lt, l)))
      (sound p q lp lq e)
    where
      go : ((x y : ℕ) → x < limit → y < limit → LowerEntry book (book p q).depth x y → ¬ (R x y))
          → Plays Move (LowerEntry book (book p q).depth) p q (book p q).side (book p q).action (book p q).target
          → ⊥
      go lower (first_opens _ o) =
          let c = (b p q r).there _ _ o.opening in
          lower _ c.0 (stays _ _ _ lp o.opening) (stays _ _ _ lq c.1) (o.answers c.0 c.1) c.2
      go lower (second_opens _ o) =
          let c = (b p q r).back _ _ o.opening in
          lower c.0 _ (stays _ _ _ lp c.1) (stays _ _ _ lq o.opening) (o.answers c.0 c.1) c.2

  -- "No low-view bisimulation pairs two states that an accepted book has an entry for."
  pub sound_not_paired : (R : Relation) → Bisimulation Move R → (p q : ℕ) → p < limit → q < limit → Present (book p q)
      → ¬ (R p q)
  sound_not_paired R b p q lp lq e = not_paired_below R b (suc (book p q).depth) p q lp lq e (omega arith)

  sound_not_bisimilar : (p q : ℕ) → p < limit → q < limit → Present (book p q) → ¬ (Bisimilar Move p q)
  sound_not_bisimilar p q lp lq e b = sound_not_paired (λ x y. T (b.rel x y)) b.bisimulation p q lp lq e b.pairs

  -- Two states of rank 0 have no entry in any sound book.
  pub sound_rank_zero : (p q : ℕ) → p < limit → q < limit → Rank Move p q 0 → (book p q).side ≡ 0
  sound_rank_zero p q lp lq x = go (eq_or_not (book p q).side 0)
    where
      go : ((book p q).side ≡ 0) ⊎ Present (book p q) → (book p q).side ≡ 0
      go (inl e) = e
      go (inr e) = absurd (sound_not_bisimilar p q lp lq e (bisimilar_of_rank Move p q 0 refl x))

-- ---- the same moves, said in two ways

module _ {M N : Moves} (forth : (p a q : ℕ) → M p a q → N p a q) (back : (p a q : ℕ) → N p a q → M p a q) where
  pub sound_at_same : (book : Book) (p q : ℕ) → SoundAt M book p q → SoundAt N book p q
  sound_at_same book p q s e = plays-map forth back (λ x y h. h) (s e)
