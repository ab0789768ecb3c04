-- Moves that a test decides make a game, so all that is shown of ranks holds of them; a view that tests decide has its
-- runs among its states. Document 01, "Alike". Assumes nothing.
use Rattle.std.specs.Prelude.{◌⊎◌, Bool, ◌&&◌, ◌||◌}
use Rattle.std.proofs.Common.{inl, inr}
use Rattle.std.proofs.Math.Bool.{not}
use Prim.Native.Nat.{ℕ, ◌<◌}
use Rattle.std.proofs.Math.Dec.{T, T_not, not_T}
use Rattle.lts.specs.Tests.{all}
use Rattle.lts.proofs.TestsLaws.{and_intro, and_left, and_right, not-and_cases, implies_elim, not_implies}
use Rattle.lts.proofs.TestsLaws.{all→Each, not_all→Some, any→Some, not_any→Each}
use Rattle.lts.specs.Alike.{Moves, Answered}
use Rattle.lts.specs.Game.{Game, Opening, by_first, by_second}
use Rattle.lts.specs.View.{View}
use Rattle.lts.specs.Run.{Bounded}
use Rattle.lts.specs.Decided.{Decided, answer?, met?, answered?, answers?, simulation?, ViewTest, DecidedView}

pub decided→Bounded : (v : View) (t : ViewTest) → DecidedView v t → Bounded v
decided→Bounded v t D = record { start_lt = D.start_lt; target_lt = D.steps.target_lt }

module _ (Move : Moves) (n l : ℕ) (move? : ℕ → ℕ → ℕ → Bool) (D : Decided Move n l move?) where
  -- So are the moves whose label passes a test.
  pub decided_labels : (label? : ℕ → Bool)
      → Decided (λ p a q. T (label? a) × Move p a q) n l (λ p a q. label? a && move? p a q)
  decided_labels label? = record {
    move?→Move = λ p a q t.
        (and_left (label? a) (move? p a q) t, D.move?→Move p a q (and_right (label? a) (move? p a q) t));
    Move→move? = λ p a q m. and_intro (label? a) (move? p a q) m.0 (D.Move→move? p a q m.1);
    source_lt = λ p a q m. D.source_lt p a q m.1;
    label_lt = λ p a q m. D.label_lt p a q m.1;
    target_lt = λ p a q m. D.target_lt p a q m.1;
  }

  pub answered?→Answered : (R : ℕ → ℕ → Bool) (p q : ℕ) → T (answered? n l move? R p q)
      → Answered Move (λ x y. T (R x y)) p q
  unfolding answered?
  answered?→Answered R p q t a p' m =
      let s = all→Each l (λ a. all n (met? n move? R p q a)) t a (D.label_lt p a p' m) in
      let u = all→Each n (met? n move? R p q a) s p' (D.target_lt p a p' m) in
      let v = implies_elim (move? p a p') (answer? n move? (R p') q a) u (D.Move→move? p a p' m) in
      let i = any→Some n (λ q'. move? q a q' && R p' q') v in
      let q' = i.0 in
      (q', D.move?→Move q a q' (and_left (move? q a q') (R p' q') i.2), and_right (move? q a q') (R p' q') i.2)

  -- A move of p that q cannot answer inside R.
  pub not_answered?→Move : (R : ℕ → ℕ → Bool) (p q : ℕ) → T (not (answered? n l move? R p q))
      → (a p' : ℕ) × Move p a p' × ((q' : ℕ) → Move q a q' → T (not (R p' q')))
  unfolding answered?
  not_answered?→Move R p q t =
      let i = not_all→Some l (λ a. all n (met? n move? R p q a)) t in
      let a = i.0 in
      let j = not_all→Some n (met? n move? R p q a) i.2 in
      let p' = j.0 in
      let g = not_implies (move? p a p') (answer? n move? (R p') q a) j.2 in
      (a, p', D.move?→Move p a p' g.0, λ q' m. none a p' q' m g.1)
    where
      none : (a p' q' : ℕ) → Move q a q' → T (not (answer? n move? (R p') q a)) → T (not (R p' q'))
      none a p' q' m u = not_T (R p' q') (λ r. T_not (move? q a q' && R p' q')
          (not_any→Each n (λ q'. move? q a q' && R p' q') u q' (D.target_lt q a q' m))
          (and_intro (move? q a q') (R p' q') (D.Move→move? q a q' m) r))

  pub decided_game : Game Move n (answers? n l move?)
  unfolding answers?
  decided_game = record {
    target_lt = λ p a q _ m. D.target_lt p a q m;
    passes = λ R p q t. record {
      there = answered?→Answered R p q
          (and_left (answered? n l move? R p q) (answered? n l move? (λ x y. R y x) q p) t);
      back = answered?→Answered (λ x y. R y x) q p
          (and_right (answered? n l move? R p q) (answered? n l move? (λ x y. R y x) q p) t);
    };
    fails = λ R p q t. go R p q (not-and_cases (answered? n l move? R p q) (answered? n l move? (λ x y. R y x) q p) t);
  }
    where
      go : (R : ℕ → ℕ → Bool) (p q : ℕ)
          → T (not (answered? n l move? R p q)) ⊎ T (not (answered? n l move? (λ x y. R y x) q p)) → Opening Move R p q
      go R p q (inl u) = let o = not_answered?→Move R p q u in by_first o.0 o.1 o.2 o.3
      go R p q (inr u) = let o = not_answered?→Move (λ x y. R y x) q p u in by_second o.0 o.1 o.2 o.3

  -- A simulation found by the test, cut down to the states, is one.
  pub simulation?→Answered : (R : ℕ → ℕ → Bool) → T (simulation? n l move? R) → (p q : ℕ)
      → (p < n) × (q < n) × T (R p q) → Answered Move (λ x y. (x < n) × (y < n) × T (R x y)) p q
  unfolding simulation?
  simulation?→Answered R t p q (lp, lq, r) a p' m =
      let f = all→Each n (λ p. all n (λ q. not (R p q) || answered? n l move? R p q)) t p lp in
      let u = all→Each n (λ q. not (R p q) || answered? n l move? R p q) f q lq in
      let h = answered?→Answered R p q (implies_elim (R p q) (answered? n l move? R p q) u r) a p' m in
      (h.0, h.1, (D.target_lt p a p' m, D.target_lt q a h.0 h.1, h.2))
