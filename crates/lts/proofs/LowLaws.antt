-- k-alike states allow the same low sequences of length k and less, so bisimilar states allow the same ones; in a
-- deterministic model allowing the same ones is a bisimulation. Document 01, "Possible"; section 4.2 of source 000.
-- Assumes nothing.
use Rattle.std.specs.Prelude.{refl, ◌↔◌, Bool, T, length}
use mathlib.Core.List.{List, [], ◌∷◌}
use Prim.Native.Nat.{ℕ, zero, suc, ◌≤◌}
use Rattle.std.proofs.Common.{not-suc-le-zero, arith}
use Rattle.lts.specs.Alike.{Relation, Answered, Alike, Bisimulation, Bisimilar}
use Rattle.lts.proofs.AlikeLaws.{alike_sym, bisimilar→Alike, bisimilar→BisimilarBy}
use Rattle.lts.specs.Game.{Game}
use Rattle.lts.proofs.RankLaws.{bisimilar↔Bisimilar_by}
use Rattle.lts.specs.View.{View}
use Rattle.lts.specs.Run.{Run, Allows, Reachable, onward, Deterministic, Bounded}
use Rattle.lts.proofs.RunLaws.{allows_cons, allows_uncons, reachable_lt}
use Rattle.lts.specs.Noninterference.{Low, SameLow}
use Rattle.lts.specs.Weak.{LowStep, WeakMove, NoTick, NoSilentLabel}
use Rattle.lts.proofs.WeakLaws.{weak_bisimilar_by}

-- p and q are reachable and allow the same low sequences.
pub record SameLowReachable (v : View) (p q : ℕ) : Type 0 where
  pub first : Reachable v p
  pub second : Reachable v q
  pub same : SameLow v p q

module _ (v : View) where
  alike_allows_one : (k : ℕ) (w : List ℕ) (p q : ℕ) → Low v.levels w → length w ≤ k → Alike (LowStep v) k p q
      → Allows v.Step p w → Allows v.Step q w
  unfolding Alike Run Low
  alike_allows_one k [] p q l h a r = (q, refl)
  alike_allows_one zero (x ∷ w) p q l h a r = absurd (not-suc-le-zero h)
  alike_allows_one (suc k) (x ∷ w) p q l h a (e, r) =
      let m = a.there x r.0 (l.0, r.1) in
      allows_cons v.Step q x m.0 w m.1.1
      (alike_allows_one k w r.0 m.0 l.1 (omega arith) m.2 (e, r.2))

  -- k-alike states allow the same low sequences of length k and less.
  pub alike_allows : (k : ℕ) (w : List ℕ) (p q : ℕ) → Low v.levels w → length w ≤ k → Alike (LowStep v) k p q
      → Allows v.Step p w ↔ Allows v.Step q w
  alike_allows k w p q l h a =
      (alike_allows_one k w p q l h a, alike_allows_one k w q p l h (alike_sym (LowStep v) k p q a))

  -- Where q answers p one way, inside a relation that keeps answering so, q allows what p allows.
  pub simulation_allows : (R : Relation) → ((p q : ℕ) → R p q → Answered (LowStep v) R p q) → (w : List ℕ)
      → Low v.levels w → (p q : ℕ) → R p q → Allows v.Step p w → Allows v.Step q w
  unfolding Run Low
  simulation_allows R f [] l p q r h = (q, refl)
  simulation_allows R f (a ∷ w) l p q r (e, h) =
      let m = f p q r a h.0 (l.0, h.1) in
      allows_cons v.Step q a m.0 w m.1.1 (simulation_allows R f w l.1 h.0 m.0 m.2 (e, h.2))

  pub bisimilar→SameLow : (p q : ℕ) → Bisimilar (LowStep v) p q → SameLow v p q
  bisimilar→SameLow p q b w l =
      alike_allows (length w) w p q l (omega arith) (bisimilar→Alike (LowStep v) (length w) p q b)

  pub same_low_sym : (p q : ℕ) → SameLow v p q → SameLow v q p
  same_low_sym p q f w l = ((f w l).1, (f w l).0)

  pub same_low_trans : (p q r : ℕ) → SameLow v p q → SameLow v q r → SameLow v p r
  same_low_trans p q r f g w l = (λ h. (g w l).0 ((f w l).0 h), λ h. (f w l).1 ((g w l).1 h))

  -- ---- deterministic models

  module _ (det : Deterministic v) where
    flip : (p q : ℕ) → SameLowReachable v p q → SameLowReachable v q p
    flip p q x = record { first = x.second; second = x.first; same = same_low_sym p q x.same }

    after : (p q a p' q' : ℕ) → T (v.levels.low? a) → v.Step p a p' → v.Step q a q' → SameLowReachable v p q
        → (w : List ℕ) → Low v.levels w → Allows v.Step p' w → Allows v.Step q' w
    unfolding Low
    after p q a p' q' lo s t x w l h = allows_uncons v det q a q' w x.second t
        ((x.same (a ∷ w) (lo, l)).0 (allows_cons v.Step p a p' w s h))

    answer : (p q a p' : ℕ) → SameLowReachable v p q → LowStep v p a p'
        → (q' : ℕ) × LowStep v q a q' × SameLowReachable v p' q'
    unfolding Run Low
    answer p q a p' x (lo, s) =
        let y = (x.same (a ∷ []) (lo, tt)).0 (p', (p', s, refl)) in
        let q' = y.1.0 in
        let t : v.Step q a q' = y.1.1 in (
          q',
          (lo, t),
          record {
            first = onward x.first s;
            second = onward x.second t;
            same = λ w l. (after p q a p' q' lo s t x w l, after q p a q' p' lo t s (flip p q x) w l);
          },
        )

    -- Between reachable states, to allow the same low sequences is a low-view bisimulation.
    pub same_low_bisimulation : Bisimulation (LowStep v) (SameLowReachable v)
    same_low_bisimulation p q x = record {
      there = λ a p' m. answer p q a p' x m;
      back = λ a q' m.
          let y = answer q p a q' (flip p q x) m in
          (y.0, y.1, flip q' y.0 y.2);
    }

    module _ (B : Bounded v) (round : (ℕ → ℕ → Bool) → ℕ → ℕ → Bool) (G : Game (LowStep v) v.states round) where
      pub same_low→Bisimilar : (p q : ℕ) → Reachable v p → Reachable v q → SameLow v p q → Bisimilar (LowStep v) p q
      same_low→Bisimilar p q rp rq f =
          (bisimilar↔Bisimilar_by (LowStep v) v.states round G p q (reachable_lt v B p rp)
          (reachable_lt v B q rq)).1 (record {
            rel = SameLowReachable v;
            bisimulation = same_low_bisimulation;
            pairs = record { first = rp; second = rq; same = f };
          })

-- ---- the moves that are played, where no silent step can be reached

module _ (v : View) (B : Bounded v) (still : NoTick v) (labels : NoSilentLabel v) where
  -- Reachable states that are bisimilar allow the same low sequences.
  pub weakly_bisimilar→SameLow : (p q : ℕ) → Reachable v p → Reachable v q → Bisimilar (WeakMove v) p q → SameLow v p q
  weakly_bisimilar→SameLow p q rp rq b w l =
      let c = (weak_bisimilar_by v still B labels p q rp rq).1 (bisimilar→BisimilarBy (WeakMove v) p q b) in (
        simulation_allows v c.rel (λ x y r. (c.bisimulation x y r).there) w l p q c.pairs,
        simulation_allows v (λ x y. c.rel y x) (λ x y r. (c.bisimulation y x r).back) w l q p c.pairs,
      )

  module _ (det : Deterministic v) (round : (ℕ → ℕ → Bool) → ℕ → ℕ → Bool)
      (G : Game (WeakMove v) v.states round) where
    -- In a deterministic model those that allow the same low sequences are bisimilar.
    pub same_low→WeaklyBisimilar : (p q : ℕ) → Reachable v p → Reachable v q → SameLow v p q
        → Bisimilar (WeakMove v) p q
    same_low→WeaklyBisimilar p q rp rq f =
        (bisimilar↔Bisimilar_by (WeakMove v) v.states round G p q (reachable_lt v B p rp) (reachable_lt v B q rq)).1
        ((weak_bisimilar_by v still B labels p q rp rq).0 (record {
          rel = SameLowReachable v;
          bisimulation = same_low_bisimulation v det;
          pairs = record { first = rp; second = rq; same = f };
        }))
