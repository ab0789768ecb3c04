-- What a decision says once its answer is known.
-- Assumes nothing.
use Rattle.std.specs.Prelude.{Bool, true, false, not, ◌≡◌, refl, ℕ, T, eqb}
use Rattle.std.proofs.Common.{sym, subst, eqb→eq}
use Rattle.std.proofs.lemmas.Bool.{not-true, not-false}
use Rattle.lts.proofs.TestsLaws.{T-eqb}
use Rattle.text.specs.Decides.{Decides}

pub decides_true : (r : Bool) (P : Type 0) → Decides r P → r ≡ true → P
decides_true r P d e = subst (λ (b : Bool). Decides b P) e d

pub decides_false : (r : Bool) (P : Type 0) → Decides r P → r ≡ false → ¬ P
decides_false r P d e = subst (λ (b : Bool). Decides b P) e d

-- the same of a test `if !r { return false; }` that was passed, or that refused
pub decides_passed : (r : Bool) (P : Type 0) → Decides r P → not r ≡ false → P
decides_passed r P d e = decides_true r P d (not-false r e)

pub decides-refused : (r : Bool) (P : Type 0) → Decides r P → not r ≡ true → ¬ P
decides-refused r P d e = decides_false r P d (not-true r e)

-- what decides a claim decides each claim that is as strong
pub decides_iff : {P Q : Type 0} (r : Bool) → (P → Q) → (Q → P) → Decides r P → Decides r Q
decides_iff true f g d = f d
decides_iff false f g d = λ q. d (g q)

-- a function that answers a test decides it
pub decides_test : (r b : Bool) → r ≡ b → Decides r (T b)
decides_test true b e = subst T e tt
decides_test false b e = λ t. subst T (sym e) t

-- and so does one that answers whether two numbers are equal
pub decides_eqb : {P : Type 0} (m n : ℕ) → (m ≡ n → P) → (P → m ≡ n) → Decides (eqb m n) P
decides_eqb m n f g =
    decides_iff (eqb m n) (λ t. f (eqb→eq m n t)) (λ p. T-eqb (g p)) (decides_test (eqb m n) (eqb m n) refl)

-- a test, from its value, and the value from the test
pub T_of_true : (b : Bool) → b ≡ true → T b
T_of_true b e = subst T (sym e) tt

pub not-T_of_false : (b : Bool) → b ≡ false → T b → ⊥
not-T_of_false b e t = subst T e t
