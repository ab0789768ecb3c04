-- The loop that splits each class by a set. Only the proof of that function cites it.
use Rattle.std.specs.Prelude.{List, ℕ, ◌<◌}
use Rattle.by_state.specs.Inner.Numbered.{Same}
use Rattle.sets.specs.Inner.SetValues.{In}
use Rattle.sets.specs.declared.set.Set.{Set}

-- `left` has what some classes have of the set.
pub record LeftOf (n : ℕ) (class : List ℕ) (set left : Set) : Type 0 where
  pub state_lt : (p : ℕ) → In left p → p < n
  pub within : (p : ℕ) → In left p → In set p
  pub closed : (p q : ℕ) → p < n → q < n → Same class p q → In left p → In set q → In left q
