-- Parts joined by a byte, as the fields of a line are by commas and the lines of a text by line ends.
-- Document 01, "The text".
use Rattle.std.specs.Prelude.{List, [], ◌∷◌, ◌++◌, ◌≡◌, ℕ}
use Rattle.text.specs.Bytes.{kind_of}
use Rattle.text.specs.All.{All}

-- the parts, with the byte between any two
unfoldable pub join : ℕ → List (List ℕ) → List ℕ
join b [] = []
join b (part ∷ []) = part
join b (part ∷ next ∷ parts) = part ++ (b ∷ join b (next ∷ parts))

-- no byte of a list is of the kind
abbrev pub Without : ℕ → List ℕ → Type 0
Without kind l = All (λ b. kind_of b ≡ kind → ⊥) l
