-- The three equations of definition 19 of source 000, by the last action of a sequence, hold of the thinned sequence;
-- and how it goes by the first action. Document 01, "Thinned sequence". Assumes nothing.
use Rattle.std.specs.Prelude.{◌≡◌, Bool, ◌&&◌, ◌||◌, cond, ℕ, T}
use Rattle.std.proofs.Math.Path.{refl, ap}
use mathlib.Core.List.{List, [], ◌∷◌, ◌++◌}
use Rattle.std.proofs.Math.Bool.{true, false, not, and-false}
use Rattle.lts.proofs.TestsLaws.{T→true, not-T→false}
use Rattle.lts.specs.View.{Levels}
use Rattle.lts.specs.Noninterference.{released?, thin}

cond-append : (c : Bool) (b : ℕ) (w v : List ℕ) → cond c (w ++ v) (b ∷ (w ++ v)) ≡ cond c w (b ∷ w) ++ v
cond-append true b w v = refl
cond-append false b w v = refl

module _ (L : Levels) where
  -- ---- by the first action

  pub thin_cons_drop : (a : ℕ) (w : List ℕ) → L.high? a ≡ true → released? L w ≡ false → thin L (a ∷ w) ≡ thin L w
  unfolding thin
  thin_cons_drop a w e r = simp (e, r)

  pub thin_cons_keep : (a : ℕ) (w : List ℕ) → (L.high? a && not (released? L w)) ≡ false
      → thin L (a ∷ w) ≡ a ∷ thin L w
  unfolding thin
  thin_cons_keep a w e = simp e

  -- ---- by the last action

  released_snoc : (w : List ℕ) (a : ℕ) → L.release? a ≡ false → released? L (w ++ (a ∷ [])) ≡ released? L w
  unfolding released?
  released_snoc [] a e = simp e
  released_snoc (b ∷ w) a e = ap (λ (c : Bool). L.release? b || c) (released_snoc w a e)

  released_snoc_release : (w : List ℕ) (a : ℕ) → L.release? a ≡ true → released? L (w ++ (a ∷ [])) ≡ true
  unfolding released?
  released_snoc_release [] a e = simp e
  released_snoc_release (b ∷ w) a e = simp (released_snoc_release w a e) (go (L.release? b))
    where
      go : (c : Bool) → (c || true) ≡ true
      go true = refl
      go false = refl

  pub thin_nil : thin L [] ≡ []
  unfolding thin
  thin_nil = refl

  pub thin_snoc_low : (w : List ℕ) (a : ℕ) → T (not (L.release? a)) → T (not (L.high? a))
      → thin L (w ++ (a ∷ [])) ≡ thin L w ++ (a ∷ [])
  unfolding thin released?
  thin_snoc_low [] a d h = simp (not-T→false (L.high? a) h)
  thin_snoc_low (b ∷ w) a d h = simp (thin_snoc_low w a d h, released_snoc w a (not-T→false (L.release? a) d))
      (cond-append (L.high? b && not (released? L w)) b (thin L w) (a ∷ []))

  pub thin_snoc_high : (w : List ℕ) (a : ℕ) → T (not (L.release? a)) → T (L.high? a)
      → thin L (w ++ (a ∷ [])) ≡ thin L w
  unfolding thin released?
  thin_snoc_high [] a d h = simp (T→true (L.high? a) h)
  thin_snoc_high (b ∷ w) a d h = simp (thin_snoc_high w a d h, released_snoc w a (not-T→false (L.release? a) d))

  pub thin_snoc_release : (w : List ℕ) (a : ℕ) → T (L.release? a) → T (not (L.high? a))
      → thin L (w ++ (a ∷ [])) ≡ w ++ (a ∷ [])
  unfolding thin released?
  thin_snoc_release [] a d h = simp (not-T→false (L.high? a) h)
  thin_snoc_release (b ∷ w) a d h =
      simp (thin_snoc_release w a d h, released_snoc_release w a (T→true (L.release? a) d), and-false)
