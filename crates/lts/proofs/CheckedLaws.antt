-- The tests of BNID and of deterministic say what the definitions say. Document 01, "The meaning"; definition 22 of
-- source 000. Assumes nothing.
use Rattle.std.specs.Prelude.{◌≡◌, ◌&&◌, T, eqb}
use Rattle.std.proofs.Math.Bool.{Bool}
use Prim.Native.Nat.{ℕ, ◌-◌, ◌≤◌, ◌<◌}
use Rattle.std.proofs.Common.{arith}
use Rattle.std.proofs.Math.Dec.{eqb→eq, eqb_refl}
use Rattle.lts.specs.Tests.{all}
use Rattle.lts.proofs.TestsLaws.{and_intro, and_left, and_right, implies_elim, implies_intro, all→Each, Each→all}
use Rattle.lts.proofs.TestsLaws.{any→Some, Some→any}
use Rattle.lts.specs.Alike.{Rank, bisimilar}
use Rattle.lts.proofs.AlikeLaws.{bisimilar_of_rank}
use Rattle.lts.specs.Game.{Game}
use Rattle.lts.proofs.RankLaws.{rank→Rank, Rank→rank}
use Rattle.lts.specs.View.{View}
use Rattle.lts.specs.Run.{Reachable, Deterministic}
use Rattle.lts.specs.Noninterference.{BNID}
use Rattle.lts.specs.Weak.{silent_label, LowStep, Tick, WeakMove, NoSilentLabel}
use Rattle.lts.specs.WeakTests.{DecidedTick}
use Rattle.lts.proofs.WeakTestsLaws.{weak_decided, weak_answers_game}
use Rattle.lts.specs.Decided.{Decided, ViewTest, DecidedView, within?}
use Rattle.lts.proofs.DecidedLaws.{decided_game, decided_labels}
use Rattle.lts.proofs.DistanceLaws.{Reachable→within?, within?→Reachable}
use Rattle.lts.specs.Checked.{low_step?, low_round, low_rank, tick?, weak_move?, weak_round, weak_rank}
use Rattle.lts.specs.Checked.{reachable_step?, harmless?, bnid?, one_target?, deterministic?}

module _ (v : View) (tests : ViewTest) (D : DecidedView v tests) where
  -- The numbers of states and of actions, the tests of low and silent actions and of steps, for short.
  abbrev n : ℕ
  n = v.states

  abbrev l : ℕ
  l = tests.actions

  abbrev low? : ℕ → Bool
  low? = v.levels.low?

  abbrev silent? : ℕ → Bool
  silent? = v.levels.silent?

  abbrev step? : ℕ → ℕ → ℕ → Bool
  step? = tests.step?

  -- ---- low steps

  -- The low steps of a decided view are decided.
  pub decided_low : Decided (LowStep v) v.states tests.actions (low_step? v tests)
  decided_low = decided_labels v.Step n l step? D.steps low?

  -- The game of the low steps.
  pub low_game : Game (LowStep v) v.states (low_round v tests)
  low_game = decided_game (LowStep v) v.states tests.actions (low_step? v tests) decided_low

  -- The computed rank under the low steps is the rank.
  pub low_rank→Rank : (p q : ℕ) → p < v.states → q < v.states → Rank (LowStep v) p q (low_rank v tests p q)
  low_rank→Rank = rank→Rank (LowStep v) v.states (low_round v tests) low_game

  -- ---- the moves that are played

  decided_tick : DecidedTick (Tick v) n (tick? v tests)
  decided_tick = record {
    tick?→Tick = λ p q t.
        let i = any→Some l (λ a. silent? a && step? p a q) t in
        let a = i.0 in
        record {
          action = a;
          is_silent = and_left (silent? a) (step? p a q) i.2;
          step = D.steps.move?→Move p a q (and_right (silent? a) (step? p a q) i.2);
        };
    Tick→tick? = λ p q m.
        let a = m.action in
        Some→any l (λ a. silent? a && step? p a q) a (D.steps.label_lt p a q m.step)
        (and_intro (silent? a) (step? p a q) m.is_silent (D.steps.Move→move? p a q m.step));
    source_lt = λ p q m. D.steps.source_lt p m.action q m.step;
    target_lt = λ p q m. D.steps.target_lt p m.action q m.step;
  }

  module _ (le : tests.actions ≤ silent_label) where
    pub weak_view_decided : Decided (WeakMove v) v.states 256 (weak_move? v tests)
    weak_view_decided = weak_decided (LowStep v) (Tick v) n l (low_step? v tests) (tick? v tests) decided_low
        decided_tick le

    -- The game of the moves that are played.
    pub weak_view_game : Game (WeakMove v) v.states (weak_round v tests)
    weak_view_game = weak_answers_game (LowStep v) (Tick v) n l (low_step? v tests) (tick? v tests) decided_low
        decided_tick le

    -- The computed rank under them is the rank.
    pub weak_rank→Rank : (p q : ℕ) → p < v.states → q < v.states → Rank (WeakMove v) p q (weak_rank v tests p q)
    weak_rank→Rank = rank→Rank (WeakMove v) n (weak_round v tests) weak_view_game

    -- No action has the silent moves' label.
    pub no_silent_label_of_decided : NoSilentLabel v
    no_silent_label_of_decided p a q r m e = omega (arith, D.steps.label_lt p a q m.1, le, e)

  -- ---- reachable steps

  -- The tests of reachable states and of reachable steps, for short.
  abbrev reachable? : ℕ → Bool
  reachable? = within? v tests (v.states - 1)

  abbrev reached? : ℕ → ℕ → ℕ → Bool
  reached? = reachable_step? v tests

  reachable_step : (p a q : ℕ) → Reachable v p → v.Step p a q → T (reached? p a q)
  reachable_step p a q r s = and_intro (step? p a q) (reachable? p) (D.steps.Move→move? p a q s)
      (Reachable→within? v tests D p r)

  -- What a reachable step found by the test is.
  reachable_step?→Reachable : (p a q : ℕ) → T (reached? p a q) → Reachable v p × v.Step p a q
  reachable_step?→Reachable p a q t = (
    within?→Reachable v tests D (v.states - 1) p (and_right (step? p a q) (reachable? p) t),
    D.steps.move?→Move p a q (and_left (step? p a q) (reachable? p) t),
  )

  -- ---- deterministic

  pub deterministic?→Deterministic : T (deterministic? v tests) → Deterministic v
  unfolding deterministic?
  deterministic?→Deterministic t p a q r c s u =
      eqb→eq q r (implies_elim (reached? p a q && step? p a r) (eqb q r) at_r
      (and_intro (reached? p a q) (step? p a r) (reachable_step p a q c s) (D.steps.Move→move? p a r u)))
    where
      f : ℕ → ℕ → ℕ → ℕ → Bool
      f = one_target? v tests

      at_p : T (all l (λ a. all n (λ q. all n (f p a q))))
      at_p = all→Each n (λ p. all l (λ a. all n (λ q. all n (f p a q)))) t p (D.steps.source_lt p a q s)

      at_a : T (all n (λ q. all n (f p a q)))
      at_a = all→Each l (λ a. all n (λ q. all n (f p a q))) at_p a (D.steps.label_lt p a q s)

      at_q : T (all n (f p a q))
      at_q = all→Each n (λ q. all n (f p a q)) at_a q (D.steps.target_lt p a q s)

      at_r : T (f p a q r)
      at_r = all→Each n (f p a q) at_q r (D.steps.target_lt p a r u)

  pub Deterministic→deterministic? : Deterministic v → T (deterministic? v tests)
  unfolding deterministic?
  Deterministic→deterministic? d = Each→all n (λ p. all l (λ a. all n (λ q. all n (f p a q)))) (λ p lp.
      Each→all l (λ a. all n (λ q. all n (f p a q))) (λ a la. Each→all n (λ q. all n (f p a q)) (λ q lq.
      Each→all n (f p a q) (λ r lr.
      implies_intro (reached? p a q && step? p a r) (eqb q r) (same p a q r)))))
    where
      f : ℕ → ℕ → ℕ → ℕ → Bool
      f = one_target? v tests

      same : (p a q r : ℕ) → T (reached? p a q && step? p a r) → T (eqb q r)
      same p a q r t =
          let s = reachable_step?→Reachable p a q (and_left (reached? p a q) (step? p a r) t) in
          let u = D.steps.move?→Move p a r (and_right (reached? p a q) (step? p a r) t) in
          let e : q ≡ r = d p a q r s.0 s.1 u in
          rw e (eqb_refl r)

  -- ---- BNID

  pub bnid?→BNID : tests.actions ≤ silent_label → T (bnid? v tests) → BNID v
  unfolding bnid?
  bnid?→BNID le t p a q r h s = bisimilar_of_rank (WeakMove v) p q (weak_rank v tests p q)
      (eqb→eq (weak_rank v tests p q) 0 zero_rank)
      (weak_rank→Rank le p q (D.steps.source_lt p a q s) (D.steps.target_lt p a q s))
    where
      f : ℕ → ℕ → ℕ → Bool
      f = harmless? v tests

      at_p : T (all l (λ a. all n (f p a)))
      at_p = all→Each n (λ p. all l (λ a. all n (f p a))) t p (D.steps.source_lt p a q s)

      at_a : T (all n (f p a))
      at_a = all→Each l (λ a. all n (f p a)) at_p a (D.steps.label_lt p a q s)

      at_q : T (f p a q)
      at_q = all→Each n (f p a) at_a q (D.steps.target_lt p a q s)

      zero_rank : T (eqb (weak_rank v tests p q) 0)
      zero_rank = implies_elim (v.levels.high? a && reached? p a q) (eqb (weak_rank v tests p q) 0) at_q
          (and_intro (v.levels.high? a) (reached? p a q) h (reachable_step p a q r s))

  pub BNID→bnid? : tests.actions ≤ silent_label → BNID v → T (bnid? v tests)
  unfolding bnid?
  BNID→bnid? le b = Each→all n (λ p. all l (λ a. all n (f p a))) (λ p lp. Each→all l (λ a. all n (f p a)) (λ a la.
      Each→all n (f p a) (λ q lq. implies_intro (v.levels.high? a && reached? p a q)
      (eqb (weak_rank v tests p q) 0) (zero_rank p a q lp lq))))
    where
      f : ℕ → ℕ → ℕ → Bool
      f = harmless? v tests

      zero_rank : (p a q : ℕ) → p < n → q < n → T (v.levels.high? a && reached? p a q)
          → T (eqb (weak_rank v tests p q) 0)
      zero_rank p a q lp lq t =
          let h = and_left (v.levels.high? a) (reached? p a q) t in
          let s = reachable_step?→Reachable p a q (and_right (v.levels.high? a) (reached? p a q) t) in
          let e : weak_rank v tests p q ≡ 0 = Rank→rank (WeakMove v) n (weak_round v tests) (weak_view_game le) p q 0
          lp lq (bisimilar (b p a q s.0 h s.1)) in
          rw e tt
