-- Listed systems are decided, so what the tests compute are facts on the definitions. Assumes nothing.
use Rattle.std.specs.Prelude.{◌≡◌, true, false, ◌&&◌, ℕ, ◌<◌, T, ltb}
use Rattle.std.proofs.Common.{arith, ltb→lt}
use Rattle.lts.proofs.TestsLaws.{and_left, and_right}
use Rattle.lts.specs.Alike.{Rank}
use Rattle.lts.specs.Game.{Game}
use Rattle.lts.specs.View.{Levels}
use Rattle.lts.specs.Run.{Deterministic}
use Rattle.lts.specs.Noninterference.{BNID}
use Rattle.lts.specs.Weak.{LowStep, WeakMove, NoSilentLabel}
use Rattle.lts.specs.Decided.{DecidedView}
use Rattle.lts.specs.Checked.{low_round, low_rank, weak_round, weak_rank, bnid?, deterministic?}
use Rattle.lts.proofs.CheckedLaws.{low_game, low_rank→Rank, bnid?→BNID, BNID→bnid?}
use Rattle.lts.proofs.CheckedLaws.{weak_view_game, weak_rank→Rank, no_silent_label_of_decided}
use Rattle.lts.proofs.CheckedLaws.{deterministic?→Deterministic}
use Rattle.lts.specs.Examples.Listed.{System, has, leads, step?, view, tests}

module _ (M : System) where
  inside : (p a q : ℕ) → T (step? M p a q) → (p < M.states) × (a < 3) × (q < M.states)
  inside p a q t =
      let n = M.states in
      let u = and_right (leads M.steps p a q) (ltb p n && (ltb a 3 && ltb q n)) t in
      let v = and_right (ltb p n) (ltb a 3 && ltb q n) u in (
        ltb→lt p n (and_left (ltb p n) (ltb a 3 && ltb q n) u),
        ltb→lt a 3 (and_left (ltb a 3) (ltb q n) v),
        ltb→lt q n (and_right (ltb a 3) (ltb q n) v),
      )

  pub decided : (L : Levels) → DecidedView (view L M) (tests M)
  decided L = record {
    steps = record {
      move?→Move = λ p a q t. t;
      Move→move? = λ p a q t. t;
      source_lt = λ p a q t. (inside p a q t).0;
      label_lt = λ p a q t. (inside p a q t).1;
      target_lt = λ p a q t. (inside p a q t).2;
    };
    start?→Start = λ p t. t;
    Start→start? = λ p t. t;
    start_lt = λ p t. ltb→lt p M.states (and_right (has M.starts p) (ltb p M.states) t);
  }

  module _ (L : Levels) where
    pub listed_deterministic : T (deterministic? (view L M) (tests M)) → Deterministic (view L M)
    listed_deterministic t = deterministic?→Deterministic (view L M) (tests M) (decided L) t

    pub low_step_game : Game (LowStep (view L M)) M.states (low_round (view L M) (tests M))
    low_step_game = low_game (view L M) (tests M) (decided L)

    pub listed_rank : (p q r : ℕ) → p < M.states → q < M.states → low_rank (view L M) (tests M) p q ≡ r
        → Rank (LowStep (view L M)) p q r
    listed_rank p q r lp lq e = rw e at (low_rank→Rank (view L M) (tests M) (decided L) p q lp lq)

    pub listed_weak_game : Game (WeakMove (view L M)) M.states (weak_round (view L M) (tests M))
    listed_weak_game = weak_view_game (view L M) (tests M) (decided L) (omega arith)

    pub listed_weak_rank : (p q r : ℕ) → p < M.states → q < M.states → weak_rank (view L M) (tests M) p q ≡ r
        → Rank (WeakMove (view L M)) p q r
    listed_weak_rank p q r lp lq e =
        rw e at (weak_rank→Rank (view L M) (tests M) (decided L) (omega arith) p q lp lq)

    pub listed_labels : NoSilentLabel (view L M)
    listed_labels = no_silent_label_of_decided (view L M) (tests M) (decided L) (omega arith)

    pub listed_passed : bnid? (view L M) (tests M) ≡ true → BNID (view L M)
    listed_passed e = bnid?→BNID (view L M) (tests M) (decided L) (omega arith) (rw e tt)

    pub listed_refused : bnid? (view L M) (tests M) ≡ false → ¬ (BNID (view L M))
    listed_refused e b = rw e at (BNID→bnid? (view L M) (tests M) (decided L) (omega arith) b)
