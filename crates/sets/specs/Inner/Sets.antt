-- Sets of numbers below 128, two words of 64 bits each: set k stands at places 2k and 2k + 1 of a list. Only the
-- contracts of inner functions cite it.
use Rattle.std.specs.Prelude.{List, ◌⊎◌, ◌≡◌, ℕ, ◌+◌, ◌*◌, ◌/◌, ◌%◌, ◌^◌, ◌≤◌, ◌<◌, get_or}
use Rattle.text.specs.Limits.{state_limit}

-- The bits of a word, and the words of as many sets as there can be states.
abbrev pub word_bits : ℕ
word_bits = 64

abbrev pub sets_length : ℕ
sets_length = 2 * state_limit

-- The least bit of a word stands at place x; x is 64 if there is none.
pub record FirstBit (word x : ℕ) : Type 0 where
  pub first_le : x ≤ word_bits
  pub none_before : (y : ℕ) → y < x → ¬ (word / 2 ^ y % 2 ≡ 1)
  pub set : x < word_bits → word / 2 ^ x % 2 ≡ 1

-- x is a member of set k.
pub record Member (sets : List ℕ) (k x : ℕ) : Type 0 where
  pub member_lt : x < state_limit
  pub bit_is : get_or sets (2 * k + x / word_bits) 0 / 2 ^ (x % word_bits) % 2 ≡ 1

-- No set has a member.
pub record Empty (sets : List ℕ) : Type 0 where
  pub none : (k x : ℕ) → ¬ (Member sets k x)

-- Set k has grown by the numbers that P holds of, and no other set has changed.
pub record Joined (k : ℕ) (P : ℕ → Type 0) (entry exit : List ℕ) : Type 0 where
  pub joined : (x : ℕ) → P x → Member exit k x
  pub kept : (j x : ℕ) → Member entry j x → Member exit j x
  pub only : (j x : ℕ) → Member exit j x → Member entry j x ⊎ ((j ≡ k) × P x)

-- Sets j and k of a list have the same members.
pub record SameSet (sets : List ℕ) (j k : ℕ) : Type 0 where
  pub there : (x : ℕ) → Member sets j x → Member sets k x
  pub back : (x : ℕ) → Member sets k x → Member sets j x
