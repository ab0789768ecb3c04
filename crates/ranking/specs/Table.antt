-- The table of ranks, over any moves among n states.
-- Document 01, operation 3.
use Rattle.std.specs.Prelude.{List, ◌⊎◌, ◌≡◌, ℕ, ◌≤◌, ◌<◌, get_or}
use Rattle.lts.specs.Alike.{Moves, Separated, Rank}
use Rattle.text.specs.Limits.{state_limit}
use Rattle.text.specs.Limits.{table_length, pair_place}
use Rattle.text.specs.Lists.{Past}

-- p is one of n states.
abbrev pub Below : ℕ → ℕ → Type 0
Below n p = p < n

-- Two states that P holds of, among those of a kind.
pub record SomePair (Among : ℕ → Type 0) (P : ℕ → ℕ → Type 0) : Type 0 where
  pub one : ℕ
  pub other : ℕ
  pub one_among : Among one
  pub other_among : Among other
  pub holds : P one other

-- "Entry 128p + q is the rank of p and q; entries outside the states are 0."
pub record Ranks (Move : Moves) (n : ℕ) (table : List ℕ) : Type 0 where
  pub ranks : (p q : ℕ) → p < n → q < n → Rank Move p q (get_or table (pair_place p q) 0)
  pub outside : (p q : ℕ) → p < state_limit → q < state_limit → (n ≤ p) ⊎ (n ≤ q) → get_or table (pair_place p q) 0 ≡ 0

-- "yields the number of the last round that did [separate a pair], 0 if none did"
pub record LastRound (Move : Moves) (n last : ℕ) : Type 0 where
  pub separates : (last ≡ 0) ⊎ SomePair (Below n) (λ p q. Separated Move p q last)
  pub none_later : (p q k : ℕ) → p < n → q < n → Separated Move p q k → k ≤ last

-- "and equals the greatest rank": the greatest of two states among those of a kind.
pub record Greatest (Move : Moves) (Among : ℕ → Type 0) (top : ℕ) : Type 0 where
  pub attained : SomePair Among (λ p q. Rank Move p q top)
  pub bound : (p q k : ℕ) → Among p → Among q → Rank Move p q k → k ≤ top

-- The table as Rank leaves it, and its answer.
pub record Ranked (Move : Moves) (n : ℕ) (entry exit : List ℕ) (last : ℕ) : Type 0 where
  pub table : Ranks Move n exit
  pub past : Past table_length entry exit
  pub last_round : LastRound Move n last
  pub greatest : Greatest Move (Below n) last
