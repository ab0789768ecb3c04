-- Classes of states as lists: entry p is the number of the class of p. Only the contracts of inner functions cite it.
use Rattle.std.specs.Prelude.{List, ◌≡◌, ℕ, ◌<◌, get_or}
use Rattle.text.specs.Limits.{state_limit}

-- p and q are of one class.
abbrev pub Same : List ℕ → ℕ → ℕ → Type 0
Same class p q = get_or class p 0 ≡ get_or class q 0

-- There are no more numbers than there can be states.
pub record ClassNumbers (n : ℕ) (class : List ℕ) : Type 0 where
  pub class_lt : (p : ℕ) → p < n → get_or class p 0 < state_limit
