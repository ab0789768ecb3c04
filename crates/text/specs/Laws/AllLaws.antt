-- What holds of each element of lists holds of each element of the lists made of them.
-- Assumes nothing.
use Rattle.std.specs.Prelude.{List, [], ◌∷◌, ◌++◌, map, ℕ, zero, suc, ◌<◌, length, get_or, replicate}
use Rattle.std.proofs.Common.{arith}
use Rattle.text.specs.All.{All}

pub all_intro : {A : Type 0} (P : A → Type 0) → ((x : A) → P x) → (xs : List A) → All P xs
all_intro P f [] = tt
all_intro P f (x ∷ xs) = (f x, all_intro P f xs)

pub all_append : {A : Type 0} (P : A → Type 0) (xs ys : List A) → All P xs → All P ys → All P (xs ++ ys)
all_append P [] ys p q = q
all_append P (x ∷ xs) ys p q = (p.0, all_append P xs ys p.1 q)

pub all_map : {A B : Type 0} (P : B → Type 0) (f : A → B) (xs : List A) → All (λ x. P (f x)) xs → All P (map f xs)
all_map P f [] p = tt
all_map P f (x ∷ xs) p = (p.0, all_map P f xs p.1)

pub all_replicate : {A : Type 0} (P : A → Type 0) (n : ℕ) (x : A) → P x → All P (replicate n x)
all_replicate P zero x p = tt
all_replicate P (suc n) x p = (p, all_replicate P n x p)

-- what holds of each element, and follows from it, holds of each
pub all_of_all : {A : Type 0} (P Q : A → Type 0) → ((x : A) → P x → Q x) → (xs : List A) → All P xs → All Q xs
all_of_all P Q f [] p = tt
all_of_all P Q f (x ∷ xs) p = (f x p.0, all_of_all P Q f xs p.1)

pub get_or_all : {A : Type 0} (P : A → Type 0) (xs : List A) (i : ℕ) (d : A) → All P xs → i < length xs → P
    (get_or xs i d)
get_or_all P [] i d p h = absurd (omega arith)
get_or_all P (x ∷ xs) zero d p h = p.0
get_or_all P (x ∷ xs) (suc i) d p h = get_or_all P xs i d p.1 (omega arith)
