-- A partition of n states on its way through a round: the number of each state's class, and each class as a set. Only
-- the contracts of inner functions cite it.
use Rattle.std.specs.Prelude.{List, ◌⊎◌, ◌≡◌, ℕ, ◌≤◌, ◌<◌, ltb, get_or}
use Rattle.text.specs.Limits.{state_limit}
use Rattle.by_state.specs.Inner.Numbered.{Same}
use Rattle.sets.specs.Inner.Sets.{Member}
use Rattle.sets.specs.Inner.SetValues.{In}
use Rattle.sets.specs.declared.set.Set.{Set}
use Rattle.held.specs.Held.{chosen}

-- `classes` classes, none without a state; `together` has at least the states whose class has another.
pub record Partition (n : ℕ) (class members : List ℕ) (classes : ℕ) (together : Set) : Type 0 where
  pub classes_le : classes ≤ n
  pub class_lt : (p : ℕ) → p < n → get_or class p 0 < classes
  pub member : (p : ℕ) → p < n → Member members (get_or class p 0) p
  pub member_only : (c p : ℕ) → c < classes → Member members c p → (p < n) × (get_or class p 0 ≡ c)
  pub some : (c : ℕ) → c < classes → (p : ℕ) × (p < n) × (get_or class p 0 ≡ c)
  pub together_all : (p q : ℕ) → p < n → q < n → Same class p q → ¬ (p ≡ q) → In together p
  pub together_lt : (p : ℕ) → In together p → p < n

-- Set `class p` has just the states of the class of p.
pub record ClassSets (n : ℕ) (class members : List ℕ) : Type 0 where
  pub class_lt : (p : ℕ) → p < n → get_or class p 0 < state_limit
  pub alike : (p q : ℕ) → p < n → q < n → Same class p q → Member members (get_or class p 0) q
  pub only : (p q : ℕ) → p < n → Member members (get_or class p 0) q → (q < n) × Same class p q

-- ---- what a split does

-- `next` divides each class into the states that P holds of and the others.
pub record SplitBy (n : ℕ) (P : ℕ → Type 0) (class next : List ℕ) : Type 0 where
  pub same_before : (p q : ℕ) → p < n → q < n → Same next p q → Same class p q
  pub same_side : (p q : ℕ) → p < n → q < n → Same next p q → P p → P q
  pub stay : (p q : ℕ) → p < n → q < n → Same class p q → (P p → P q) → (P q → P p) → Same next p q

-- The class that class c was a part of when the round began, with `old` classes: a new one has noted it.
abbrev pub home : ℕ → List ℕ → ℕ → ℕ
home old origin c = chosen (ltb c old) c (get_or origin c 0)

-- Each state is still a part of the class that it was in when the round began, and what the old classes were divided
-- off has not changed.
pub record HomesKept (n old : ℕ) (origin class origin' class' : List ℕ) : Type 0 where
  pub same : (p : ℕ) → p < n → home old origin' (get_or class' p 0) ≡ home old origin (get_or class p 0)
  pub origin_kept : (j : ℕ) → j < old → get_or origin' j 0 ≡ get_or origin j 0

-- A split by P in a round that began with `old` classes.
pub record Split (n old : ℕ) (P : ℕ → Type 0) (class origin class' origin' : List ℕ) : Type 0 where
  pub by : SplitBy n P class class'
  pub homes : HomesKept n old origin class origin' class'

-- A split by P, in which Q divides the states that P holds of, and may divide the others; what neither tells apart
-- stays.
pub record SplitTwice (n old : ℕ) (P Q : ℕ → Type 0) (class origin class' origin' : List ℕ) : Type 0 where
  pub same_before : (p q : ℕ) → p < n → q < n → Same class' p q → Same class p q
  pub one : (p q : ℕ) → p < n → q < n → Same class' p q → P p → P q
  pub other : (p q : ℕ) → p < n → q < n → Same class' p q → P p → Q p → Q q
  pub stay : (p q : ℕ) → p < n → q < n → Same class p q → (P p → P q) → (P q → P p) → (Q p → Q q) → (Q q → Q p)
      → Same class' p q
  pub homes : HomesKept n old origin class origin' class'

-- ---- inner steps

-- The states of the set have got the class c, and the others are in theirs.
pub record Moved (s : Set) (c : ℕ) (entry exit : List ℕ) : Type 0 where
  pub moved : (p : ℕ) → In s p → get_or exit p 0 ≡ c
  pub kept : (p : ℕ) → ¬ (In s p) → get_or exit p 0 ≡ get_or entry p 0

-- Class c falls into two parts with states.
pub record TwoParts (members : List ℕ) (c : ℕ) (part rest : Set) : Type 0 where
  pub part_in : (p : ℕ) → In part p → Member members c p
  pub rest_in : (p : ℕ) → In rest p → Member members c p
  pub apart : (p : ℕ) → In part p → ¬ (In rest p)
  pub all : (p : ℕ) → Member members c p → In part p ⊎ In rest p
  pub some_part : (p : ℕ) × In part p
  pub some_rest : (p : ℕ) × In rest p
