-- For a deterministic model without a reachable silent step, from any set of starts, BNID, NID and INI are equivalent
-- (theorem 4 of source 000, with definition 22; document 02, (vii)). In a BNID model without one, deterministic or not,
-- a run has a run of its thinned sequence from the same start that ends in a bisimilar state (document 02, (xii)). Both
-- are one induction along the run: as long as no release follows, a bisimilar state keeps up by the low actions alone.
-- Assumes nothing.
use Rattle.std.specs.Prelude.{◌≡◌, ◌⊎◌, ◌↔◌, Bool, true, ◌&&◌, ℕ, T}
use Rattle.std.proofs.Math.Path.{refl}
use Rattle.std.proofs.Common.{sym, subst, inl, inr, true≢false, T_not}
use mathlib.Core.List.{List, [], ◌∷◌, ◌++◌}
use Rattle.std.proofs.Math.Bool.{false, not}
use Rattle.lts.proofs.TestsLaws.{T→true, not-T→false}
use Rattle.lts.specs.Alike.{Bisimilar}
use Rattle.lts.proofs.AlikeLaws.{bisimilar_answer, bisimilar_refl, bisimilar_sym, bisimilar_trans}
use Rattle.lts.specs.Game.{Game}
use Rattle.lts.specs.View.{View}
use Rattle.lts.specs.Run.{Run, Reachable, begin, onward, Deterministic, Bounded}
use Rattle.lts.proofs.RunLaws.{run_snoc, reachable_run, reachable→Run, reachable_lt, run_unique}
use Rattle.lts.specs.Noninterference.{Levelled, low, release, high, LevelledSteps, released?, thin}
use Rattle.lts.specs.Noninterference.{SameLow, BNID, NID, ThinnedRun, INI, ThinnedBisimilar}
use Rattle.lts.specs.Weak.{silent_label, LowStep, WeakMove, NoTick, NoSilentLabel}
use Rattle.lts.proofs.WeakLaws.{weak_target_lt, weak_agree}
use Rattle.lts.proofs.ThinLaws.{thin_cons_drop, thin_cons_keep, thin_snoc_high}
use Rattle.lts.proofs.LowLaws.{same_low_sym, same_low_trans, weakly_bisimilar→SameLow}
use Rattle.lts.proofs.LowLaws.{same_low→WeaklyBisimilar}

-- ---- deterministic models: sequences alone

module _ (v : View) (det : Deterministic v) where
  -- Two runs whose thinned sequences end in states that stand for them: the same thinned sequence, the same end.
  meet : (s : ℕ) → v.Start s → (u w : List ℕ) (x y : ℕ) → thin v.levels u ≡ thin v.levels w
      → ThinnedRun v (SameLow v) s u x → ThinnedRun v (SameLow v) s w y → SameLow v x y
  meet s i u w x y e f g =
      let h = subst (λ (z : List ℕ). Run v.Step s z f.0) e f.1 in
      let c : f.0 ≡ g.0 = run_unique v det (thin v.levels w) s f.0 g.0 (begin i) h g.1 in
      same_low_trans v x f.0 y f.2
      (subst (λ (z : ℕ). SameLow v z y) (sym c) (same_low_sym v y g.0 g.2))

  -- The thinned sequence ends in just one state, and it is that one which allows the same low sequences.
  pub ini_ends : INI v → (s : ℕ) → v.Start s → (w : List ℕ) (e e' : ℕ) → Run v.Step s w e
      → Run v.Step s (thin v.levels w) e' → SameLow v e e'
  ini_ends ini s i w e e' h g =
      let f = ini s i w e h in
      subst (λ (z : ℕ). SameLow v e z) (run_unique v det (thin v.levels w) s f.0 e' (begin i) f.1 g)
      f.2

  -- A run and the run with one high step more have the same thinned sequence.
  pub ini→NID : LevelledSteps v → INI v → NID v
  ini→NID levelled ini p a q r t s = go (levelled p a q r s)
    where
      go : Levelled v.levels a → SameLow v p q
      go (low _ _ x) = absurd (T_not (v.levels.high? a) x t)
      go (release _ _ x) = absurd (T_not (v.levels.high? a) x t)
      go (high _ u _) =
          let x = reachable→Run v p r in
          let w = x.2.0 in
          let z = w ++ (a ∷ []) in
          meet x.0 x.1 w z p q (sym (thin_snoc_high v.levels w a u t)) (ini x.0 x.1 w p x.2.1)
          (ini x.0 x.1 z q (run_snoc v.Step w a x.0 p q x.2.1 s))

-- ---- models without a reachable silent step

-- Where w has no release, a reachable state bisimilar to another follows its run of w by the thinned sequence.
abbrev Followed : View → List ℕ → Type 0
Followed v w = (p q e : ℕ) → released? v.levels w ≡ false → Reachable v p → Reachable v q
    → Bisimilar (WeakMove v) p q → Run v.Step p w e → ThinnedBisimilar v q w e

module _ (v : View) where
  thinned_nil : (p q e : ℕ) → p ≡ e → Bisimilar (WeakMove v) p q → ThinnedBisimilar v q [] e
  unfolding Run thin
  thinned_nil p q e h b = (q, refl, rw h at b)

  thinned_keep : (a : ℕ) (w : List ℕ) (q r e : ℕ) → (v.levels.high? a && not (released? v.levels w)) ≡ false
      → v.Step q a r → ThinnedBisimilar v r w e → ThinnedBisimilar v q (a ∷ w) e
  unfolding Run
  thinned_keep a w q r e k s f = (f.0, rw (thin_cons_keep v.levels a w k) (r, s, f.1), f.2)

  thinned_drop : (a : ℕ) (w : List ℕ) (q e : ℕ) → v.levels.high? a ≡ true → released? v.levels w ≡ false
      → ThinnedBisimilar v q w e → ThinnedBisimilar v q (a ∷ w) e
  thinned_drop a w q e c g f = rw (thin_cons_drop v.levels a w c g) f

module _ (v : View) (B : Bounded v) (levelled : LevelledSteps v) (still : NoTick v) (labels : NoSilentLabel v) where
  -- A low step of a reachable state has a low step for an answer.
  answer : (p a p' q : ℕ) → Reachable v p → Reachable v q → LowStep v p a p' → Bisimilar (WeakMove v) p q
      → (q' : ℕ) × LowStep v q a q' × Bisimilar (WeakMove v) p' q'
  answer p a p' q rp rq m b =
      let r = bisimilar_answer (WeakMove v) p q a p' b ((weak_agree v still B labels).forth p a p' rp m) in
      go r.0 r.2 ((weak_agree v still B labels).back q a r.0 rq r.1)
    where
      go : (q' : ℕ) → Bisimilar (WeakMove v) p' q' → LowStep v q a q' ⊎ ((a ≡ silent_label) × (q ≡ q'))
          → (q' : ℕ) × LowStep v q a q' × Bisimilar (WeakMove v) p' q'
      go q' c (inl o) = (q', o, c)
      go q' c (inr i) = absurd (labels p a p' rp m i.0)

  -- The state after a reachable high step, seen from a state bisimilar to its source.
  across : (p a p' q : ℕ) → BNID v → Reachable v p → T (v.levels.high? a) → v.Step p a p'
      → Bisimilar (WeakMove v) p q → Bisimilar (WeakMove v) p' q
  across p a p' q bnid r t s b =
      bisimilar_trans (WeakMove v) v.states (λ p a q _ m. weak_target_lt m) p' p q (reachable_lt v B p r)
      (bisimilar_sym (WeakMove v) p p' (bnid p a p' r t s)) b

  -- Where no release follows, a bisimilar state follows a run by the run's low actions alone.
  follow : BNID v → (w : List ℕ) → Followed v w
  unfolding Run released?
  follow bnid [] p q e f r c b h = thinned_nil v p q e h b
  follow bnid (a ∷ w) p q e f r c b h = go (levelled p a h.0 r h.1) (follow bnid w)
    where
      go : Levelled v.levels a → Followed v w → ThinnedBisimilar v q (a ∷ w) e
      go (low t u x) ih =
          let m = answer p a h.0 q r c (t, h.1) b in
          let g : released? v.levels w ≡ false = simp (not-T→false (v.levels.release? a) u) at f in
          let d : v.levels.high? a ≡ false = not-T→false (v.levels.high? a) x in
          let k : (v.levels.high? a && not (released? v.levels w)) ≡ false = simp d in
          thinned_keep v a w q m.0 e k m.1.1
          (ih h.0 m.0 e g (onward r h.1) (onward c m.1.1) m.2 h.2)
      go (release t u x) ih = absurd (true≢false (simp (T→true (v.levels.release? a) u) at f))
      go (high t u x) ih =
          let g : released? v.levels w ≡ false = simp (not-T→false (v.levels.release? a) u) at f in
          thinned_drop v a w q e (T→true (v.levels.high? a) x) g
          (ih h.0 q e g (onward r h.1) c (across p a h.0 q bnid r x h.1 b) h.2)

  -- In a BNID model, deterministic or not: document 02, (xii), first sentence.
  pub bnid→ThinnedBisimilar : BNID v → (w : List ℕ) (p e : ℕ) → Reachable v p → Run v.Step p w e
      → ThinnedBisimilar v p w e
  unfolding Run
  bnid→ThinnedBisimilar bnid [] p e r h = thinned_nil v p p e h (bisimilar_refl (WeakMove v) p)
  bnid→ThinnedBisimilar bnid (a ∷ w) p e r h =
      go (levelled p a h.0 r h.1) (released? v.levels w) refl
      (bnid→ThinnedBisimilar bnid w h.0 e (onward r h.1) h.2)
    where
      keep : (v.levels.high? a && not (released? v.levels w)) ≡ false → ThinnedBisimilar v h.0 w e
          → ThinnedBisimilar v p (a ∷ w) e
      keep k ih = thinned_keep v a w p h.0 e k h.1 ih

      go : Levelled v.levels a → (d : Bool) → released? v.levels w ≡ d → ThinnedBisimilar v h.0 w e
          → ThinnedBisimilar v p (a ∷ w) e
      go (low t u x) d g ih = keep (simp (not-T→false (v.levels.high? a) x)) ih
      go (release t u x) d g ih = keep (simp (not-T→false (v.levels.high? a) x)) ih
      go (high t u x) true g ih = keep (simp (T→true (v.levels.high? a) x, g)) ih
      go (high t u x) false g ih = thinned_drop v a w p e (T→true (v.levels.high? a) x) g
          (follow bnid w h.0 p e g (onward r h.1) r
          (across p a h.0 p bnid r x h.1 (bisimilar_refl (WeakMove v) p)) h.2)

  pub bnid→INI : BNID v → INI v
  bnid→INI bnid s i w e h =
      let f = bnid→ThinnedBisimilar bnid w s e (begin i) h in (
        f.0,
        f.1,
        weakly_bisimilar→SameLow v B still labels e f.0 (reachable_run v w s e (begin i) h)
            (reachable_run v (thin v.levels w) s f.0 (begin i) f.1) f.2,
      )

  pub bnid→NID : BNID v → NID v
  bnid→NID bnid p a q r t s = weakly_bisimilar→SameLow v B still labels p q r (onward r s) (bnid p a q r t s)

  -- ---- deterministic models

  module _ (det : Deterministic v) where
    -- Document 02, (xii), second sentence.
    pub same_low_of_same_thin : BNID v → (s : ℕ) → v.Start s → (u w : List ℕ) (x y : ℕ) → Run v.Step s u x
        → Run v.Step s w y → thin v.levels u ≡ thin v.levels w → SameLow v x y
    same_low_of_same_thin bnid s i u w x y h g e =
        meet v det s i u w x y e (bnid→INI bnid s i u x h) (bnid→INI bnid s i w y g)

    module _ (round : (ℕ → ℕ → Bool) → ℕ → ℕ → Bool) (G : Game (WeakMove v) v.states round) where
      pub nid→BNID : NID v → BNID v
      nid→BNID nid p a q r t s =
          same_low→WeaklyBisimilar v B still labels det round G p q r (onward r s) (nid p a q r t s)

      pub bnid↔NID : BNID v ↔ NID v
      bnid↔NID = (bnid→NID, nid→BNID)

      -- Theorem 4 of source 000.
      pub nid↔INI : NID v ↔ INI v
      nid↔INI = (λ x. bnid→INI (nid→BNID x), ini→NID v det levelled)

      pub bnid↔INI : BNID v ↔ INI v
      bnid↔INI = (bnid→INI, λ x. nid→BNID (ini→NID v det levelled x))
