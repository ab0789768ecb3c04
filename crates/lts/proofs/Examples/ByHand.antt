-- Facts on the definitions alone, with no law and no test of a round in between, and the two thinnings of document 01:
-- each rests on what one definition says, and is refused where it says otherwise.
-- Document 01, "Alike" and "Bench models". Assumes nothing.
use Rattle.std.specs.Prelude.{◌≡◌, refl, ◌⊎◌, [], ◌∷◌, false, ◌&&◌, ◌||◌, ℕ, zero, suc, ◌<◌, T, eqb, ltb}
use Rattle.std.proofs.Common.{sym, subst, inl, inr, arith, eqb→eq}
use Rattle.lts.proofs.TestsLaws.{and_left, or_cases}
use Rattle.lts.specs.Alike.{Alike, Rank, separated}
use Rattle.lts.specs.Noninterference.{released?, thin}
use Rattle.lts.specs.Weak.{LowStep}
use Rattle.lts.specs.Examples.Listed.{step?, view}
use Rattle.lts.specs.Examples.Systems.{scan, print, close, usual, close_low, page_system, release_system}

-- ---- thinned sequences

-- print scan close print scan thins to print scan close scan.
print-scan-close-print-scan : thin usual (print ∷ scan ∷ close ∷ print ∷ scan ∷ []) ≡ print ∷ scan ∷ close ∷ scan ∷ []
unfolding thin released?
print-scan-close-print-scan = refl

-- The empty sequence thins to itself.
empty_sequence : thin usual [] ≡ []
unfolding thin
empty_sequence = refl

-- With close low nothing is released, and both prints go.
close-low_sequence : thin close_low (print ∷ scan ∷ close ∷ print ∷ scan ∷ []) ≡ scan ∷ close ∷ scan ∷ []
unfolding thin released?
close-low_sequence = refl

-- ---- alike

-- scan leads from 2 to 3 alone.
pub page-scan-target : (x : ℕ) → T (step? page_system 2 scan x) → 3 ≡ x
page-scan-target x s =
    go (or_cases (eqb 3 x) false (and_left (eqb 3 x || false) (ltb 2 4 && (ltb scan 3 && ltb x 4)) s))
  where
    go : T (eqb 3 x) ⊎ T false → 3 ≡ x
    go (inl t) = eqb→eq 3 x t
    go (inr t) = absurd t

-- scan scan is not possible from 2.
pub page-scan-scan : (x y : ℕ) → T (step? page_system 2 scan x) → ¬ (T (step? page_system x scan y))
page-scan-scan x y s t = subst (λ (z : ℕ). T (step? page_system z scan y)) (sym (page-scan-target x s)) t

-- scan leads from 0 to 1, which answers another, and from 2 to 3, which does not: depth 1 would not tell.
page_not_alike : ¬ (Alike (LowStep (view usual page_system)) 2 0 2)
unfolding Alike
page_not_alike h =
    let r = h.there scan 1 (tt, tt) in
    let u = r.2.there scan 1 (tt, tt) in
    page-scan-scan r.0 u.0 r.1.1 u.1.1

-- With close low 0 has no move and 1 has close: the second state's moves are played too.
close-low_not_alike : ¬ (Alike (LowStep (view close_low release_system)) 1 0 1)
unfolding Alike
close-low_not_alike h = (h.back close 2 (tt, tt)).1.1

-- Its rank is 1, neither 0 nor 2.
close-low-rank : Rank (LowStep (view close_low release_system)) 0 1 1
unfolding Alike
close-low-rank = separated (λ b. ((b.bisimulation 0 1 b.pairs).back close 2 (tt, tt)).1.1)
    (record { not_alike = close-low_not_alike; alike_before = before })
  where
    before : (j : ℕ) → j < 1 → Alike (LowStep (view close_low release_system)) j 0 1
    before zero l = tt
    before (suc j) l = absurd (omega arith)

-- With close a release neither has a low move: release steps are never played.
release_alike : Alike (LowStep (view usual release_system)) 1 0 1
unfolding Alike
release_alike = record {
  there = λ a x (t, s). absurd (subst (λ (b : ℕ). T (step? release_system 0 b x)) (sym (eqb→eq scan a t)) s);
  back = λ a x (t, s). absurd (subst (λ (b : ℕ). T (step? release_system 1 b x)) (sym (eqb→eq scan a t)) s);
}
