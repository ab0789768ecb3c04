-- The parts of a text between its line ends, and of a line between its commas.
-- Document 01, "The text": "Fields in fixed order parted by commas, no quoting, each line ended by byte 10."
use Rattle.std.specs.Prelude.{Bool, true, false, cond, ◌&&◌, List, [], ◌∷◌, ℕ, suc, eqb}
use Rattle.text.specs.Bytes.{kind_of}

-- a byte in front of the first part
unfoldable pub cons_first : ℕ → List (List ℕ) → List (List ℕ)
cons_first b [] = (b ∷ []) ∷ []
cons_first b (part ∷ parts) = (b ∷ part) ∷ parts

-- the parts between the bytes of a kind: one more than there are such bytes
unfoldable pub split : ℕ → List ℕ → List (List ℕ)
split kind [] = [] ∷ []
split kind (b ∷ bs) = cond (eqb (kind_of b) kind) ([] ∷ split kind bs) (cons_first b (split kind bs))

-- the place of the first byte of a kind, the length where there is none
unfoldable pub index_of : ℕ → List ℕ → ℕ
index_of kind [] = 0
index_of kind (b ∷ bs) = cond (eqb (kind_of b) kind) 0 (suc (index_of kind bs))

-- two lists of numbers are the same
unfoldable pub same? : List ℕ → List ℕ → Bool
same? [] [] = true
same? [] (y ∷ ys) = false
same? (x ∷ xs) [] = false
same? (x ∷ xs) (y ∷ ys) = eqb x y && same? xs ys
