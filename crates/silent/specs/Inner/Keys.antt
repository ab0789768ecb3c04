-- Sets along silent moves, and the keys of states: the classes that their moves with one label lead to. Only the
-- contracts of inner functions cite it.
use Rattle.std.specs.Prelude.{Bool, true, false, List, ◌≡◌, ℕ, ◌+◌, ◌-◌, ◌<◌, get_or}
use Rattle.lts.specs.Alike.{Moves, Relation}
use Rattle.lts.specs.Weak.{Silent}
use Rattle.text.specs.Limits.{state_limit}
use Rattle.sets.specs.Inner.Sets.{Member}

-- The place that a pass over the places from `begin` up to `end` looks at in its turn i: from the last place to the
-- first, or the other way.
abbrev pub turn_place : Bool → ℕ → ℕ → ℕ → ℕ
turn_place true begin end i = begin + (end - 1 - i)
turn_place false begin end i = i

-- Only sets of the first n states have members.
pub record OfStates (n : ℕ) (sets : List ℕ) : Type 0 where
  pub state_lt : (p x : ℕ) → p < state_limit → Member sets p x → p < n

-- Sets p below n have the number of their class alone, and the others have no member.
pub record OwnClasses (n : ℕ) (class sets : List ℕ) : Type 0 where
  pub own : (p : ℕ) → p < n → Member sets p (get_or class p 0)
  pub only : (p x : ℕ) → Member sets p x → (p < n) × (get_or class p 0 ≡ x)

-- Set p has got the members of the sets of all states that a silent move leads to from p, and no others.
pub record Closed (Tick : Relation) (n : ℕ) (entry exit : List ℕ) : Type 0 where
  pub reached : (p q x : ℕ) → Silent Tick n p q → Member entry q x → Member exit p x
  pub only : (p x : ℕ) → p < state_limit → Member exit p x → (q : ℕ) × Silent Tick n p q × Member entry q x

-- The same of a single pass over the silent steps: set p has got those of the states that one silent step leads to, and
-- maybe some of those that further ones lead to.
pub record SpreadOnce (Tick : Relation) (n : ℕ) (entry exit : List ℕ) : Type 0 where
  pub kept : (p x : ℕ) → Member entry p x → Member exit p x
  pub along : (p q x : ℕ) → Tick p q → Member entry q x → Member exit p x
  pub only : (p x : ℕ) → p < state_limit → Member exit p x → (q : ℕ) × Silent Tick n p q × Member entry q x

-- Set p has the members of the sets of all states that one silent step leads to from p.
pub record ClosedUnder (Tick : Relation) (sets : List ℕ) : Type 0 where
  pub along : (p q x : ℕ) → Tick p q → Member sets q x → Member sets p x

-- Set p has the members of the sets of all states that Step leads to from p, and no others.
pub record Gathered (Step : Relation) (sets gathered : List ℕ) : Type 0 where
  pub reached : (p q x : ℕ) → Step p q → Member sets q x → Member gathered p x
  pub only : (p x : ℕ) → p < state_limit → Member gathered p x → (q : ℕ) × Step p q × Member sets q x

-- The keys of the states under the label a: set p has the numbers of the classes that its moves with this label lead
-- to.
pub record Keys (Move : Moves) (a : ℕ) (class keys : List ℕ) : Type 0 where
  pub reached : (p q : ℕ) → Move p a q → Member keys p (get_or class q 0)
  pub only : (p c : ℕ) → p < state_limit → Member keys p c → (q : ℕ) × Move p a q × (get_or class q 0 ≡ c)
