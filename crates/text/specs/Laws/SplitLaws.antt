-- Laws of the parts of a list at the bytes of a kind: part by part, and from the place that a search finds.
-- Document 01, "The text". Assumes nothing.
use Rattle.std.specs.Prelude.{Bool, true, false, List, [], ◌∷◌, ◌≡◌, refl, ℕ, suc, ◌+◌, ◌-◌, ◌≤◌, ◌<◌, eqb, length}
use Rattle.std.specs.Prelude.{take, drop}
use Rattle.std.proofs.Common.{ap, ◌∙◌, arith, length-drop, drop-drop, take_all, eqb-true, eq-eqb, ne_eqb}
use Rattle.std.proofs.lemmas.Bool.{eqb-false}
use Rattle.text.specs.Bytes.{kind_of}
use Rattle.text.specs.Split.{cons_first, split, index_of}

-- ---- byte by byte

-- whether a number is another
pub data Is (x y : ℕ) : Type 0 where
  same : x ≡ y → Is x y
  other : (x ≡ y → ⊥) → Is x y

pub is : (x y : ℕ) → Is x y
is x y = by_test (eqb x y) refl
  where
    by_test : (t : Bool) → eqb x y ≡ t → Is x y
    by_test true e = same (eqb-true x y e)
    by_test false e = other (eqb-false x y e)

pub split-nil : (kind : ℕ) → split kind [] ≡ [] ∷ []
unfolding split
split-nil kind = refl

-- a byte of the kind ends the first part
pub split-end : (kind b : ℕ) (bs : List ℕ) → kind_of b ≡ kind → split kind (b ∷ bs) ≡ [] ∷ split kind bs
unfolding split
split-end kind b bs h = rw (eq-eqb (kind_of b) kind h)

-- any other byte belongs to the first part
pub split-cons : (kind b : ℕ) (bs : List ℕ) → (kind_of b ≡ kind → ⊥) → split kind (b ∷ bs) ≡ cons_first b
    (split kind bs)
unfolding split
split-cons kind b bs h = rw (ne_eqb (kind_of b) kind h)

-- there is always a first part
pub split_first : (kind : ℕ) (s : List ℕ) → (part : List ℕ) × (parts : List (List ℕ)) × (split kind s ≡ part ∷ parts)
unfolding cons_first
split_first kind [] = ([], [], split-nil kind)
split_first kind (b ∷ bs) = go (is (kind_of b) kind) (split_first kind bs)
  where
    go : Is (kind_of b) kind
        → (part : List ℕ) × (parts : List (List ℕ)) × (split kind bs ≡ part ∷ parts)
        → (part : List ℕ) × (parts : List (List ℕ)) × (split kind (b ∷ bs) ≡ part ∷ parts)
    go (same e) ih = ([], split kind bs, split-end kind b bs e)
    go (other e) ih = (b ∷ ih.0, ih.1, rw (split-cons kind b bs e, ih.2))

-- there is at most one part more than bytes
pub split-length_le : (kind : ℕ) (s : List ℕ) → length (split kind s) ≤ length s + 1
unfolding cons_first
split-length_le kind [] = rw (split-nil kind) (omega arith)
split-length_le kind (b ∷ bs) = go (is (kind_of b) kind) (split_first kind bs) (split-length_le kind bs)
  where
    go : Is (kind_of b) kind → (part : List ℕ) × (parts : List (List ℕ)) × (split kind bs ≡ part ∷ parts)
        → length (split kind bs) ≤ length bs + 1 → length (split kind (b ∷ bs)) ≤ length (b ∷ bs) + 1
    go (same e) w ih = rw (split-end kind b bs e) (omega arith)
    go (other e) w ih = let k = ap length w.2 in rw (split-cons kind b bs e, w.2) (omega arith)

pub index_of-nil : (kind : ℕ) → index_of kind [] ≡ 0
unfolding index_of
index_of-nil kind = refl

pub index_of-end : (kind b : ℕ) (bs : List ℕ) → kind_of b ≡ kind → index_of kind (b ∷ bs) ≡ 0
unfolding index_of
index_of-end kind b bs h = rw (eq-eqb (kind_of b) kind h)

pub index_of-cons : (kind b : ℕ) (bs : List ℕ) → (kind_of b ≡ kind → ⊥) → index_of kind (b ∷ bs) ≡ suc
    (index_of kind bs)
unfolding index_of
index_of-cons kind b bs h = rw (ne_eqb (kind_of b) kind h)

pub index_of_le : (kind : ℕ) (s : List ℕ) → index_of kind s ≤ length s
index_of_le kind [] = rw (index_of-nil kind) (omega arith)
index_of_le kind (b ∷ bs) = go (is (kind_of b) kind) (index_of_le kind bs)
  where
    go : Is (kind_of b) kind → index_of kind bs ≤ length bs → index_of kind (b ∷ bs) ≤ suc (length bs)
    go (same e) ih = rw (index_of-end kind b bs e) (omega arith)
    go (other e) ih = rw (index_of-cons kind b bs e) (omega arith)

-- ---- by the place of the first byte of the kind

-- the first part ends there
pub split-found : (kind : ℕ) (s : List ℕ) → index_of kind s < length s
    → split kind s ≡ take (index_of kind s) s ∷ split kind (drop (suc (index_of kind s)) s)
unfolding cons_first
split-found kind [] h = absurd (omega arith)
split-found kind (b ∷ bs) h = go (is (kind_of b) kind) (split-found kind bs)
  where
    go : Is (kind_of b) kind
        → (index_of kind bs < length bs
        → split kind bs ≡ take (index_of kind bs) bs ∷ split kind (drop (suc (index_of kind bs)) bs))
        → split kind (b ∷ bs)
        ≡ take (index_of kind (b ∷ bs)) (b ∷ bs) ∷ split kind (drop (suc (index_of kind (b ∷ bs))) (b ∷ bs))
    go (same e) ih = rw (index_of-end kind b bs e, split-end kind b bs e)
    go (other e) ih = let i = index_of-cons kind b bs e in rw (i, split-cons kind b bs e, ih (omega arith))

-- with no such byte there is one part
pub split_none : (kind : ℕ) (s : List ℕ) → length s ≤ index_of kind s → split kind s ≡ s ∷ []
unfolding cons_first
split_none kind [] h = split-nil kind
split_none kind (b ∷ bs) h = go (is (kind_of b) kind) (split_none kind bs)
  where
    go : Is (kind_of b) kind → (length bs ≤ index_of kind bs → split kind bs ≡ bs ∷ [])
        → split kind (b ∷ bs) ≡ (b ∷ bs) ∷ []
    go (same e) ih = let i = index_of-end kind b bs e in absurd (omega arith)
    go (other e) ih = let i = index_of-cons kind b bs e in rw (split-cons kind b bs e, ih (omega arith))

-- The same of what is left of a list from place `at`, where a search found e.
module _ (kind : ℕ) (s : List ℕ) (at e : ℕ) (le : at ≤ length s) (found : e ≡ at + index_of kind (drop at s)) where
  pub found_le : (at ≤ e) × (e ≤ length s)
  found_le = let i = index_of_le kind (drop at s) in let d = length-drop at s in (omega arith, omega arith)

  pub split_part : e < length s → split kind (drop at s) ≡ take (e - at) (drop at s) ∷ split kind (drop (e + 1) s)
  split_part h =
      let d = length-drop at s in
      let k : index_of kind (drop at s) ≡ e - at = omega arith in
      let l : index_of kind (drop at s) < length (drop at s) = omega arith in
      let m : at + suc (e - at) ≡ e + 1 = omega arith in
      split-found kind (drop at s) l ∙ rw (k, drop-drop, m)

  pub split_last : length s ≤ e → split kind (drop at s) ≡ take (e - at) (drop at s) ∷ []
  split_last h =
      let d = length-drop at s in
      let l : length (drop at s) ≤ index_of kind (drop at s) = omega arith in
      let k : length (drop at s) ≤ e - at = omega arith in
      split_none kind (drop at s) l ∙ rw (take_all (e - at) (drop at s) k)
