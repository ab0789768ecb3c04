-- No rank exceeds the number of states with a move: each round that separates a pair adds a class, and the states
-- without a move are one class. The same holds inside any set of states that the moves do not leave.
-- Document 01, "Rank". Assumes nothing.
use Rattle.std.specs.Prelude.{◌⊎◌, Bool, not, ◌&&◌, T}
use Rattle.std.proofs.Common.{inl, inr, arith, T_not}
use Prim.Native.Nat.{ℕ, zero, suc, ◌-◌, ◌≤◌, ◌<◌}
use Rattle.lts.specs.Tests.{count}
use Rattle.lts.proofs.TestsLaws.{and_intro, and_left, and_right, eq_of_not_lt}
use Rattle.lts.proofs.CountLaws.{count_le-suc}
use Rattle.lts.specs.Alike.{Moves, Alike, Rank, bisimilar, separated}
use Rattle.lts.proofs.AlikeLaws.{rank_of_separated}
use Rattle.lts.specs.Game.{Game, Separates, Settled}
use Rattle.lts.proofs.GameLaws.{rank_le_settled}
use Rattle.lts.specs.Classes.{lowest?, classes}
use Rattle.lts.proofs.ClassesLaws.{lowest?→¬Alike, classes_gt, separates_or_settled}
use Rattle.lts.specs.Agree.{Agree}
use Rattle.lts.proofs.AgreeLaws.{separated_agree}
use Rattle.lts.specs.View.{View}
use Rattle.lts.specs.Run.{Reachable, onward}
use Rattle.lts.proofs.RunLaws.{reachable_lt}
use Rattle.lts.specs.Weak.{silent_label, LowStep, WeakMove, NoTick}
use Rattle.lts.proofs.WeakLaws.{weak_rank}
use Rattle.lts.specs.Decided.{Decided, answers?, ViewTest, DecidedView, within?}
use Rattle.lts.proofs.DecidedLaws.{decided_game, decided→Bounded}
use Rattle.lts.proofs.DistanceLaws.{Reachable→within?, within?→Reachable}
use Rattle.lts.specs.Checked.{low_step?, low_round, weak_round}
use Rattle.lts.proofs.CheckedLaws.{decided_low, low_game, weak_view_game, no_silent_label_of_decided}

-- ---- among n states

module _ (Move : Moves) (n : ℕ) (round : (ℕ → ℕ → Bool) → ℕ → ℕ → Bool) (G : Game Move n round) where
  -- Each round before the rank of two states separates a pair.
  pub separates_of_rank : (p q r : ℕ) → p < n → q < n → Rank Move p q r → (j : ℕ) → j < r → Separates Move n j
  separates_of_rank p q r lp lq x j l = go (separates_or_settled Move n round G j)
    where
      go : Separates Move n j ⊎ Settled Move n j → Separates Move n j
      go (inl s) = s
      go (inr s) = absurd (omega (arith, rank_le_settled Move n round G j p q r s lp lq x))

  module _ (moves? : ℕ → Bool) (moves : (p a q : ℕ) → Move p a q → T (moves? p)) where
    -- States without a move are alike.
    still_alike : (k p q : ℕ) → T (not (moves? p)) → T (not (moves? q)) → Alike Move k p q
    unfolding Alike
    still_alike zero p q t u = tt
    still_alike (suc k) p q t u = record {
      there = λ a p' m. absurd (T_not (moves? p) t (moves p a p' m));
      back = λ a q' m. absurd (T_not (moves? q) u (moves q a q' m));
    }

    -- So no more than one class has no move.
    classes_le : (k : ℕ) → classes round n k ≤ suc (count n moves?)
    classes_le k = count_le-suc n (lowest? round k) moves? (λ i j _ _ t u v w. eq_of_not_lt i j
        (λ l. lowest?→¬Alike Move n round G k j v i l (still_alike k i j u w))
        (λ l. lowest?→¬Alike Move n round G k i t j l (still_alike k j i w u)))

    pub rank_le_moving : (p q r : ℕ) → p < n → q < n → Rank Move p q r → r ≤ count n moves?
    rank_le_moving p q r lp lq x =
        let g = classes_gt Move n round G (omega arith) r (separates_of_rank p q r lp lq x) in
        omega (arith, classes_le r)

-- ---- among the states of a set that the moves do not leave

module _ (Move : Moves) (n l : ℕ) (move? : ℕ → ℕ → ℕ → Bool) (D : Decided Move n l move?) (among? : ℕ → Bool)
    (closed : (p a q : ℕ) → T (among? p) → Move p a q → T (among? q)) where
  -- The moves from the states of the set.
  abbrev MoveAmong : Moves
  MoveAmong p a q = T (among? p) × Move p a q

  decided_among : Decided MoveAmong n l (λ p a q. among? p && move? p a q)
  decided_among = record {
    move?→Move = λ p a q t.
        (and_left (among? p) (move? p a q) t, D.move?→Move p a q (and_right (among? p) (move? p a q) t));
    Move→move? = λ p a q m. and_intro (among? p) (move? p a q) m.0 (D.Move→move? p a q m.1);
    source_lt = λ p a q m. D.source_lt p a q m.1;
    label_lt = λ p a q m. D.label_lt p a q m.1;
    target_lt = λ p a q m. D.target_lt p a q m.1;
  }

  among_agree : Agree (λ p. T (among? p)) (λ _. ⊥) MoveAmong Move
  among_agree = record {
    closed = λ p a q c m. closed p a q c m.1;
    forth = λ p a q c m. m.1;
    back = λ p a q c m. inl (c, m);
    idle = λ p a c i. absurd i;
    not_idle = λ p a q c m i. i;
  }

  -- No rank of two states of the set exceeds the number of its states with a move.
  pub rank_le_moving_among : (moves? : ℕ → Bool) → ((p a q : ℕ) → T (among? p) → Move p a q → T (moves? p))
      → (p q r : ℕ) → p < n → q < n → T (among? p) → T (among? q) → Rank Move p q r
      → r ≤ count n (λ x. among? x && moves? x)
  rank_le_moving_among moves? moves p q r lp lq cp cq (bisimilar b) = omega arith
  rank_le_moving_among moves? moves p q r lp lq cp cq (separated d x) =
      rank_le_moving MoveAmong n (answers? n l (λ p a q. among? p && move? p a q))
      (decided_game MoveAmong n l (λ p a q. among? p && move? p a q) decided_among) (λ x. among? x && moves? x)
      (λ p a q m. and_intro (among? p) (moves? p) m.0 (moves p a q m.0 m.1))
      p q r lp lq (rank_of_separated MoveAmong p q r
      ((separated_agree (λ p. T (among? p)) (λ _. ⊥) MoveAmong Move among_agree p q r cp cq).1 x))

-- ---- among the reachable states

module _ (v : View) (tests : ViewTest) (D : DecidedView v tests) where
  abbrev reachable? : ℕ → Bool
  reachable? = within? v tests (v.states - 1)

  reached : (p : ℕ) → T (reachable? p) → Reachable v p
  reached p t = within?→Reachable v tests D (v.states - 1) p t

  -- No rank of two reachable states exceeds the number of reachable states with a low step.
  pub rank_le_moving_reachable : (moves? : ℕ → Bool)
      → ((p a q : ℕ) → Reachable v p → LowStep v p a q → T (moves? p)) → (p q r : ℕ) → Reachable v p → Reachable v q
      → Rank (LowStep v) p q r → r ≤ count v.states (λ x. within? v tests (v.states - 1) x && moves? x)
  rank_le_moving_reachable moves? moves p q r cp cq x =
      let B = decided→Bounded v tests D in
      rank_le_moving_among (LowStep v) v.states tests.actions (low_step? v tests) (decided_low v tests D)
      reachable?
      (λ p a q t m. Reachable→within? v tests D q (onward (reached p t) m.1))
      moves? (λ p a q t m. moves p a q (reached p t) m) p q r (reachable_lt v B p cp) (reachable_lt v B q cq)
      (Reachable→within? v tests D p cp) (Reachable→within? v tests D q cq) x

  -- The same of the moves that are played, where no silent step can be reached.
  pub weak_rank_le_moving : tests.actions ≤ silent_label → NoTick v → (moves? : ℕ → Bool)
      → ((p a q : ℕ) → Reachable v p → LowStep v p a q → T (moves? p)) → (p q r : ℕ) → Reachable v p → Reachable v q
      → Rank (WeakMove v) p q r → r ≤ count v.states (λ x. within? v tests (v.states - 1) x && moves? x)
  weak_rank_le_moving le still moves? moves p q r cp cq x =
      rank_le_moving_reachable moves? moves p q r cp cq
      ((weak_rank v still (decided→Bounded v tests D) (no_silent_label_of_decided v tests D le) (low_round v tests)
      (weak_round v tests) (low_game v tests D) (weak_view_game v tests D le) p q r cp cq).1 x)
