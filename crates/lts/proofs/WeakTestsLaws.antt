-- Tests decide the silent moves and the moves that are played where they decide the low steps and the silent ones, so
-- these moves make a game, and all that is shown of ranks holds of them. Document 02, (vii). Assumes nothing.
use Rattle.std.specs.Prelude.{◌≡◌, refl, ◌⊎◌, not, ◌&&◌, ◌||◌, eqb, ltb}
use Rattle.std.proofs.Common.{subst, inl, inr, arith, eqb→eq, ltb→lt, lt→ltb}
use Rattle.std.proofs.Math.Bool.{Bool}
use Prim.Native.Nat.{ℕ, ◌-◌, ◌≤◌, ◌<◌}
use Rattle.std.proofs.Math.Dec.{T, eqb_refl}
use Rattle.lts.specs.Tests.{any}
use Rattle.lts.proofs.TestsLaws.{T-eqb, and_intro, and_left, and_right, not-and_cases, or_left, or_right, or_cases}
use Rattle.lts.proofs.TestsLaws.{any→Some, Some→any}
use Rattle.lts.specs.Alike.{Moves, Relation, Answered}
use Rattle.lts.specs.Game.{Game, Opening, by_first, by_second}
use Rattle.lts.specs.Run.{Reachable, begin, onward}
use Rattle.lts.specs.Decided.{Decided, answers?, DecidedView}
use Rattle.lts.proofs.DecidedLaws.{decided_game}
use Rattle.lts.proofs.DistanceLaws.{Reachable→within?, within?→Reachable}
use Rattle.lts.specs.Weak.{Silent, stay, tick, LowMove, silent_label, Weak, low, silent}
use Rattle.lts.specs.WeakTests.{DecidedTick, silent_test, silent_view, silent_move?, around?, low_move?, weak?}
use Rattle.lts.specs.WeakTests.{weak_answers?}
use Rattle.lts.proofs.WeakLaws.{silent_lt, silent_source_lt, silent_trans, silent_one, weak_target_lt}

-- ---- silent moves

module _ (Tick : Relation) (n : ℕ) (tick? : ℕ → ℕ → Bool) (D : DecidedTick Tick n tick?) where
  -- The test of silent steps, where the view's step passes.
  ticks : (x a y : ℕ) → T (eqb a 0 && tick? x y) → Tick x y
  ticks x a y t = D.tick?→Tick x y (and_right (eqb a 0) (tick? x y) t)

  decided_silent : (p : ℕ) → DecidedView (silent_view n tick? p) (silent_test n tick? p)
  decided_silent p = record {
    steps = record {
      move?→Move = λ x a y t. t;
      Move→move? = λ x a y t. t;
      source_lt = λ x a y t. D.source_lt x y (ticks x a y t);
      label_lt = λ x a y t. omega (arith, eqb→eq a 0 (and_left (eqb a 0) (tick? x y) t));
      target_lt = λ x a y t. D.target_lt x y (ticks x a y t);
    };
    start?→Start = λ x t. t;
    Start→start? = λ x t. t;
    start_lt = λ x t. ltb→lt x n (and_right (eqb x p) (ltb x n) t);
  }

  reachable→Silent : (p q : ℕ) → Reachable (silent_view n tick? p) q → Silent Tick n p q
  reachable→Silent p q (begin i) =
      subst (λ (x : ℕ). Silent Tick n x q) (eqb→eq q p (and_left (eqb q p) (ltb q n) i))
      (stay (ltb→lt q n (and_right (eqb q p) (ltb q n) i)))
  reachable→Silent p q (onward {p = x} {a = a} r s) =
      silent_trans (reachable→Silent p x r) (silent_one (ticks x a q s) (D.target_lt x q (ticks x a q s)))

  silent→Reachable : (p : ℕ) {x q : ℕ} → Silent Tick n x q → Reachable (silent_view n tick? p) x
      → Reachable (silent_view n tick? p) q
  silent→Reachable p (stay l) r = r
  silent→Reachable p (tick {p = x} {q = y} t s) r = silent→Reachable p s (onward {a = 0} r (D.Tick→tick? x y t))

  pub silent_move?→Silent : (p q : ℕ) → T (silent_move? n tick? p q) → Silent Tick n p q
  unfolding silent_move?
  silent_move?→Silent p q t =
      reachable→Silent p q
      (within?→Reachable (silent_view n tick? p) (silent_test n tick? p) (decided_silent p) (n - 1) q t)

  pub Silent→silent_move? : (p q : ℕ) → Silent Tick n p q → T (silent_move? n tick? p q)
  unfolding silent_move?
  Silent→silent_move? p q s =
      let l = silent_source_lt D.source_lt s in
      Reachable→within? (silent_view n tick? p) (silent_test n tick? p) (decided_silent p) q
      (silent→Reachable p s (begin (and_intro (eqb p p) (ltb p n) (eqb_refl p) (lt→ltb p n l))))

-- ---- the moves that are played

module _ (Low : Moves) (Tick : Relation) (n l : ℕ) (low? : ℕ → ℕ → ℕ → Bool) (tick? : ℕ → ℕ → Bool)
    (DL : Decided Low n l low?) (DT : DecidedTick Tick n tick?) where
  -- Short names: the test of a silent move, and of a low step from x to y with silent moves around it.
  abbrev quiet? : ℕ → ℕ → Bool
  quiet? = silent_move? n tick?

  abbrev via? : ℕ → ℕ → ℕ → ℕ → ℕ → Bool
  via? p a q x y = low? x a y && around? n tick? p x y q

  low_move?→LowMove : (p a q : ℕ) → T (low_move? n low? tick? p a q) → LowMove Low Tick n p a q
  unfolding low_move?
  low_move?→LowMove p a q t =
      let i = any→Some n (λ x. any n (via? p a q x)) t in
      let x = i.0 in
      let j = any→Some n (via? p a q x) i.2 in
      let y = j.0 in
      let u = and_right (low? x a y) (around? n tick? p x y q) j.2 in
      record {
        from = x;
        to = y;
        before = silent_move?→Silent Tick n tick? DT p x (and_left (quiet? p x) (quiet? y q) u);
        step = DL.move?→Move x a y (and_left (low? x a y) (around? n tick? p x y q) j.2);
        after = silent_move?→Silent Tick n tick? DT y q (and_right (quiet? p x) (quiet? y q) u);
      }

  LowMove→low_move? : (p a q : ℕ) → LowMove Low Tick n p a q → T (low_move? n low? tick? p a q)
  unfolding low_move?
  LowMove→low_move? p a q m =
      let x = m.from in
      let y = m.to in
      let t = and_intro (quiet? p x) (quiet? y q) (Silent→silent_move? Tick n tick? DT p x m.before)
      (Silent→silent_move? Tick n tick? DT y q m.after) in
      Some→any n (λ x. any n (via? p a q x)) x (DL.source_lt x a y m.step) (Some→any n (via? p a q x) y
      (DL.target_lt x a y m.step) (and_intro (low? x a y) (around? n tick? p x y q)
      (DL.Move→move? x a y m.step) t))

  decided_low_move : Decided (LowMove Low Tick n) n l (low_move? n low? tick?)
  decided_low_move = record {
    move?→Move = low_move?→LowMove;
    Move→move? = LowMove→low_move?;
    source_lt = λ p a q m. silent_source_lt DT.source_lt m.before;
    label_lt = λ p a q m. DL.label_lt m.from a m.to m.step;
    target_lt = λ p a q m. silent_lt m.after;
  }

  module _ (le : l ≤ silent_label) where
    pub weak_decided : Decided (Weak Low Tick n) n 256 (weak? n low? tick?)
    unfolding weak?
    weak_decided = record {
      move?→Move = λ p a q t. of_test p a q (or_cases (low_move? n low? tick? p a q)
          (eqb a silent_label && quiet? p q) t);
      Move→move? = test_of;
      source_lt = source;
      label_lt = label;
      target_lt = λ p a q m. weak_target_lt m;
    }
      where
        of_test : (p a q : ℕ) → T (low_move? n low? tick? p a q) ⊎ T (eqb a silent_label && quiet? p q)
            → Weak Low Tick n p a q
        of_test p a q (inl t) = low (low_move?→LowMove p a q t)
        of_test p a q (inr t) = silent (eqb→eq a silent_label (and_left (eqb a silent_label) (quiet? p q) t))
            (silent_move?→Silent Tick n tick? DT p q (and_right (eqb a silent_label) (quiet? p q) t))

        test_of : (p a q : ℕ) → Weak Low Tick n p a q
            → T (low_move? n low? tick? p a q || (eqb a silent_label && quiet? p q))
        test_of p a q (low m) = or_left (low_move? n low? tick? p a q) (eqb a silent_label && quiet? p q)
            (LowMove→low_move? p a q m)
        test_of p a q (silent e s) = or_right (low_move? n low? tick? p a q) (eqb a silent_label && quiet? p q)
            (and_intro (eqb a silent_label) (quiet? p q) (T-eqb e) (Silent→silent_move? Tick n tick? DT p q s))

        source : (p a q : ℕ) → Weak Low Tick n p a q → p < n
        source p a q (low m) = silent_source_lt DT.source_lt m.before
        source p a q (silent e s) = silent_source_lt DT.source_lt s

        label : (p a q : ℕ) → Weak Low Tick n p a q → a < 256
        label p a q (low m) = omega (arith, DL.label_lt m.from a m.to m.step, le)
        label p a q (silent e s) = omega (arith, e)

    -- So they make a game.
    pub weak_game : Game (Weak Low Tick n) n (answers? n 256 (weak? n low? tick?))
    weak_game = decided_game (Weak Low Tick n) n 256 (weak? n low? tick?) weak_decided

    -- ---- the round that computes less

    -- The silent moves under the label 0.
    abbrev Quiet : Moves
    Quiet p a q = (a ≡ 0) × Silent Tick n p q

    decided_quiet : Decided Quiet n 1 (λ x a y. eqb a 0 && quiet? x y)
    decided_quiet = record {
      move?→Move = λ p a q t. (
        eqb→eq a 0 (and_left (eqb a 0) (quiet? p q) t),
        silent_move?→Silent Tick n tick? DT p q (and_right (eqb a 0) (quiet? p q) t),
      );
      Move→move? = λ p a q m. and_intro (eqb a 0) (quiet? p q) (T-eqb m.0)
          (Silent→silent_move? Tick n tick? DT p q m.1);
      source_lt = λ p a q m. silent_source_lt DT.source_lt m.1;
      label_lt = λ p a q m. omega (arith, m.0);
      target_lt = λ p a q m. silent_lt m.1;
    }

    answered_of_both : (R : Relation) (p q : ℕ) → Answered (LowMove Low Tick n) R p q → Answered Quiet R p q
        → Answered (Weak Low Tick n) R p q
    answered_of_both R p q f g a p' (low m) = let r = f a p' m in (r.0, low r.1, r.2)
    answered_of_both R p q f g a p' (silent e s) =
        let r = g 0 p' (refl, s) in
        (r.0, silent e r.1.1, r.2)

    -- What no low move answers, no move with its label answers; nor a silent move what no silent move does.
    not_low : (R : ℕ → Bool) (q a : ℕ) → a < l → ((q' : ℕ) → LowMove Low Tick n q a q' → T (not (R q')))
        → (q' : ℕ) → Weak Low Tick n q a q' → T (not (R q'))
    not_low R q a k f q' (low m) = f q' m
    not_low R q a k f q' (silent e s) = absurd (omega (arith, k, le, e))

    not_quiet : (R : ℕ → Bool) (q a : ℕ) → a ≡ 0 → ((q' : ℕ) → Quiet q a q' → T (not (R q')))
        → (q' : ℕ) → Weak Low Tick n q silent_label q' → T (not (R q'))
    not_quiet R q a z f q' (low m) = absurd (omega (arith, DL.label_lt m.from silent_label m.to m.step, le))
    not_quiet R q a z f q' (silent e s) = f q' (z, s)

    opening_of_low : (R : ℕ → ℕ → Bool) (p q : ℕ) → Opening (LowMove Low Tick n) R p q → Opening (Weak Low Tick n) R p q
    opening_of_low R p q (by_first a p' m f) = by_first a p' (low m)
        (not_low (R p') q a (decided_low_move.label_lt p a p' m) f)
    opening_of_low R p q (by_second a q' m f) = by_second a q' (low m)
        (not_low (λ x. R x q') p a (decided_low_move.label_lt q a q' m) f)

    opening_of_quiet : (R : ℕ → ℕ → Bool) (p q : ℕ) → Opening Quiet R p q → Opening (Weak Low Tick n) R p q
    opening_of_quiet R p q (by_first a p' m f) = by_first silent_label p' (silent refl m.1)
        (not_quiet (R p') q a m.0 f)
    opening_of_quiet R p q (by_second a q' m f) = by_second silent_label q' (silent refl m.1)
        (not_quiet (λ x. R x q') p a m.0 f)

    pub weak_answers_game : Game (Weak Low Tick n) n (weak_answers? n l low? tick?)
    unfolding weak_answers?
    weak_answers_game = record {
      target_lt = λ p a q _ m. weak_target_lt m;
      passes = λ R p q t.
          let f = lows.passes R p q (and_left (low_round R p q) (quiet_round R p q) t) in
          let g = quiets.passes R p q (and_right (low_round R p q) (quiet_round R p q) t) in
          record {
            there = answered_of_both (λ x y. T (R x y)) p q f.there g.there;
            back = answered_of_both (λ x y. T (R y x)) q p f.back g.back;
          };
      fails = λ R p q t. go R p q (not-and_cases (low_round R p q) (quiet_round R p q) t);
    }
      where
        low_round : (ℕ → ℕ → Bool) → ℕ → ℕ → Bool
        low_round = answers? n l (low_move? n low? tick?)

        quiet_round : (ℕ → ℕ → Bool) → ℕ → ℕ → Bool
        quiet_round = answers? n 1 (λ x a y. eqb a 0 && quiet? x y)

        lows : Game (LowMove Low Tick n) n low_round
        lows = decided_game (LowMove Low Tick n) n l (low_move? n low? tick?) decided_low_move

        quiets : Game Quiet n quiet_round
        quiets = decided_game Quiet n 1 (λ x a y. eqb a 0 && quiet? x y) decided_quiet

        go : (R : ℕ → ℕ → Bool) (p q : ℕ) → T (not (low_round R p q)) ⊎ T (not (quiet_round R p q))
            → Opening (Weak Low Tick n) R p q
        go R p q (inl t) = opening_of_low R p q (lows.fails R p q t)
        go R p q (inr t) = opening_of_quiet R p q (quiets.fails R p q t)
