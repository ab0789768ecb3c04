-- Where a silent move leads from p to q, one of fewer steps than there are states does: backward from q, p is reached,
-- and what is reached has a distance below the number of states. Assumes nothing.
use Rattle.std.specs.Prelude.{refl, Bool, ◌&&◌, ℕ, ◌<◌, eqb, ltb}
use Rattle.std.proofs.Common.{arith, lt→ltb}
use Rattle.std.proofs.Math.Dec.{eqb→eq, ltb→lt}
use Rattle.lts.proofs.TestsLaws.{T-eqb, and_intro, and_left, and_right}
use Rattle.lts.specs.Alike.{Relation}
use Rattle.lts.specs.Run.{Reachable, begin, onward, Within}
use Rattle.lts.specs.Decided.{ViewTest, DecidedView}
use Rattle.lts.proofs.DistanceLaws.{distance_exists}
use Rattle.lts.specs.Weak.{Silent, stay, tick}
use Rattle.lts.specs.WeakTests.{DecidedTick}
use Rattle.silent.specs.Inner.Loops.{toward}

module _ {Tick : Relation} {n : ℕ} where
  silent→Reachable : {p q : ℕ} → Silent Tick n p q → Reachable (toward Tick n q) p
  silent→Reachable (stay l) = begin (refl, l)
  silent→Reachable (tick t s) = onward {a = 0} (silent→Reachable s) (refl, t)

  module _ {tick? : ℕ → ℕ → Bool} (D : DecidedTick Tick n tick?) where
    toward_test : ℕ → ViewTest
    toward_test q = record {
      step? = λ x a y. eqb a 0 && tick? y x;
      start? = λ x. eqb x q && ltb x n;
      actions = 1;
    }

    decided_toward : (q : ℕ) → DecidedView (toward Tick n q) (toward_test q)
    unfolding toward_test
    decided_toward q = record {
      steps = record {
        move?→Move = λ x a y t. (
          eqb→eq a 0 (and_left (eqb a 0) (tick? y x) t),
          D.tick?→Tick y x (and_right (eqb a 0) (tick? y x) t),
        );
        Move→move? = λ x a y s. and_intro (eqb a 0) (tick? y x) (T-eqb s.0) (D.Tick→tick? y x s.1);
        source_lt = λ x a y s. D.target_lt y x s.1;
        label_lt = λ x a y s. omega (arith, s.0);
        target_lt = λ x a y s. D.source_lt y x s.1;
      };
      start?→Start = λ x t. (
        eqb→eq x q (and_left (eqb x q) (ltb x n) t),
        ltb→lt x n (and_right (eqb x q) (ltb x n) t),
      );
      Start→start? = λ x s. and_intro (eqb x q) (ltb x n) (T-eqb s.0) (lt→ltb x n s.1);
      start_lt = λ x s. s.1;
    }

    pub silent→Within : {p q : ℕ} → Silent Tick n p q → (k : ℕ) × (k < n) × Within (toward Tick n q) k p
    silent→Within {p} {q} s =
        let d = distance_exists (toward Tick n q) (toward_test q) (decided_toward q) p (silent→Reachable s) in
        (d.0, d.1, d.2.within)
