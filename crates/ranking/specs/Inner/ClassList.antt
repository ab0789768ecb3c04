-- Classes of states by number, over any moves, and one round on them. Only the contracts of inner functions cite it.
-- Document 01, "Alike" and operation 3.
use Rattle.std.specs.Prelude.{List, ◌≡◌, ℕ, ◌<◌, get_or}
use Rattle.lts.specs.Alike.{Moves, Answers, Alike}
use Rattle.lts.specs.Game.{Settled, Separates}
use Rattle.by_state.specs.Inner.Numbered.{Same}

-- The classes of k-alike states among n.
pub record Classes (Move : Moves) (n k : ℕ) (class : List ℕ) : Type 0 where
  pub same_of_alike : (p q : ℕ) → p < n → q < n → Alike Move k p q → Same class p q
  pub alike_of_same : (p q : ℕ) → p < n → q < n → Same class p q → Alike Move k p q

-- `next` has the classes one round after `class`: those of states that answer each other inside `class`.
pub record Refined (Move : Moves) (n : ℕ) (class next : List ℕ) : Type 0 where
  pub same_before : (p q : ℕ) → p < n → q < n → Same next p q → Same class p q
  pub answers_of_same : (p q : ℕ) → p < n → q < n → Same next p q → Answers Move (Same class) p q
  pub same_of_answers : (p q : ℕ) → p < n → q < n → Same class p q → Answers Move (Same class) p q → Same next p q

-- The first `changes` places of the list have just those of n states whose class changed, each once.
pub record Changed (n : ℕ) (class next changed : List ℕ) (changes : ℕ) : Type 0 where
  pub listed_lt : (i : ℕ) → i < changes → get_or changed i 0 < n
  pub differs : (i : ℕ) → i < changes → ¬ (get_or class (get_or changed i 0) 0 ≡ get_or next (get_or changed i 0) 0)
  pub complete : (p : ℕ) → p < n → ¬ (get_or class p 0 ≡ get_or next p 0)
      → (i : ℕ) × (i < changes) × (get_or changed i 0 ≡ p)
  pub distinct : (i j : ℕ) → i < changes → j < changes → get_or changed i 0 ≡ get_or changed j 0 → i ≡ j

-- The round after k of them separates a pair exactly if there are changes: states that change their class, or further
-- classes.
pub record RoundSeparates (Move : Moves) (n k changes : ℕ) : Type 0 where
  pub settled : changes ≡ 0 → Settled Move n k
  pub separates : 0 < changes → Separates Move n k
