-- What lines of one kind state that stand one after the other. Only laws of the reading cite it.
-- Document 01, "The text".
use Rattle.std.specs.Prelude.{List, ◌++◌, map, ◌≡◌, ℕ, length}
use Rattle.model.specs.WellFormed.{EachAfter}

-- what n lines state that stand at the front of `parts`, and what holds of it and of the parts after them
pub record Stated {A : Type 0} (line : A → List ℕ) (Fits : List A → A → Type 0) (n : ℕ) (before : List A)
    (parts : List (List ℕ)) (After : List A → List (List ℕ) → Type 0) : Type 0 where
  pub stated : List A
  pub rest : List (List ℕ)
  pub count : length stated ≡ n
  pub lines : parts ≡ map line stated ++ rest
  pub fit : EachAfter Fits before stated
  pub after : After stated rest
