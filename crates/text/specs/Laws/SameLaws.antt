-- The test `same?` decides whether two lists of numbers are equal.
-- Assumes nothing.
use Rattle.std.specs.Prelude.{Bool, true, false, ◌&&◌, List, [], ◌∷◌, ◌≡◌, refl, ℕ, suc, T, eqb, length}
use Rattle.std.proofs.Common.{ap, subst, eqb→eq}
use Rattle.std.proofs.Math.Dec.{eqb_refl}
use Rattle.lts.proofs.TestsLaws.{and_left, and_right, and_intro}
use Rattle.text.specs.Split.{same?}

pub same?→eq : (xs ys : List ℕ) → T (same? xs ys) → xs ≡ ys
unfolding same?
same?→eq [] [] t = refl
same?→eq [] (y ∷ ys) t = absurd t
same?→eq (x ∷ xs) [] t = absurd t
same?→eq (x ∷ xs) (y ∷ ys) t =
    let e = eqb→eq x y (and_left (eqb x y) (same? xs ys) t) in
    let f = same?→eq xs ys (and_right (eqb x y) (same? xs ys) t) in
    cc

pub same?_refl : (xs : List ℕ) → T (same? xs xs)
unfolding same?
same?_refl [] = tt
same?_refl (x ∷ xs) = and_intro (eqb x x) (same? xs xs) (eqb_refl x) (same?_refl xs)

pub eq→same? : (xs ys : List ℕ) → xs ≡ ys → T (same? xs ys)
eq→same? xs ys e = subst (λ (l : List ℕ). T (same? xs l)) e (same?_refl xs)

pub and-false : (t : Bool) → t && false ≡ false
and-false true = refl
and-false false = refl

-- lists of different lengths
pub same?-length : (xs ys : List ℕ) → (length xs ≡ length ys → ⊥) → same? xs ys ≡ false
unfolding same?
same?-length [] [] h = absurd (h refl)
same?-length [] (y ∷ ys) h = refl
same?-length (x ∷ xs) [] h = refl
same?-length (x ∷ xs) (y ∷ ys) h = rw (same?-length xs ys (λ e. h (ap suc e))) (and-false (eqb x y))
