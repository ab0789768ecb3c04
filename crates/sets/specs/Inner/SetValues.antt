-- Sets of numbers below 128 as values: two words of 64 bits, that of the lower numbers first. Only the contracts of
-- inner functions cite it.
use Rattle.std.specs.Prelude.{List, Option, Some, None, ◌≡◌, ℕ, zero, suc, ◌+◌, ◌/◌, ◌%◌, ◌^◌, ◌≤◌, ◌<◌}
use Rattle.lts.specs.Alike.{Relation}
use Rattle.text.specs.Limits.{state_limit}
use Rattle.sets.specs.declared.set.Set.{Set}
use Rattle.sets.specs.Inner.Sets.{word_bits, Member}

-- The first word or the second.
abbrev pub word_of : Set → ℕ → ℕ
word_of s zero = s.0
word_of s (suc h) = s.1

-- x is a member of s.
pub record In (s : Set) (x : ℕ) : Type 0 where
  pub member_lt : x < state_limit
  pub bit_is : word_of s (x / word_bits) / 2 ^ (x % word_bits) % 2 ≡ 1

-- s has just the members that P holds of.
pub record SetOf (P : ℕ → Type 0) (s : Set) : Type 0 where
  pub all : (x : ℕ) → P x → In s x
  pub only : (x : ℕ) → In s x → P x

-- The least member of s is x; x is 128 if there is none.
pub record LeastOf (s : Set) (x : ℕ) : Type 0 where
  pub least_le : x ≤ state_limit
  pub none_before : (y : ℕ) → y < x → ¬ (In s y)
  pub member : x < state_limit → In s x

-- The greatest member of s is x; x is 128 if there is none.
pub record GreatestOf (s : Set) (x : ℕ) : Type 0 where
  pub greatest_le : x ≤ state_limit
  pub none_after : (y : ℕ) → In s y → (x < state_limit) × (y ≤ x)
  pub member : x < state_limit → In s x

-- The sum of both words, which falls with each member that is taken out.
abbrev pub words : Set → ℕ
words s = s.0 + s.1

-- The least member x of s has been taken out, and t is left.
pub record TakenOut (s : Set) (x : ℕ) (t : Set) : Type 0 where
  pub taken : In s x
  pub least : LeastOf s x
  pub left : SetOf (λ y. In s y × ¬ (y ≡ x)) t
  pub fewer : words t < words s

-- s has no member, and stays as it was.
pub record NoneLeft (s t : Set) : Type 0 where
  pub none : (x : ℕ) → ¬ (In s x)
  pub same : t ≡ s

-- What taking the least member out of s yields, and the set that is left.
abbrev pub Popped : Set → Option ℕ → Set → Type 0
Popped s (Some x) t = TakenOut s x t
Popped s None t = NoneLeft s t

-- Set k of a list has become s, and no other set has changed.
pub record SetPut (k : ℕ) (s : Set) (entry exit : List ℕ) : Type 0 where
  pub put : SetOf (Member exit k) s
  pub kept : (j x : ℕ) → ¬ (j ≡ k) → Member entry j x → Member exit j x
  pub only : (j x : ℕ) → ¬ (j ≡ k) → Member exit j x → Member entry j x

-- Some member of s is in the relation to x.
pub record SomeMember (Of : Relation) (s : Set) (x : ℕ) : Type 0 where
  pub member : ℕ
  pub in_set : In s member
  pub related : Of member x

-- x is in the set, of the list, of some member of s.
abbrev pub InSome : List ℕ → Set → ℕ → Type 0
InSome sets = SomeMember (Member sets)
