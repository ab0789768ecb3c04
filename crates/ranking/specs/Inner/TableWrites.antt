-- What a round writes into the table, over the class lists before and after it. Only the contracts of inner functions
-- cite it. Document 01, operation 3.
use Rattle.std.specs.Prelude.{List, ◌⊎◌, ◌≡◌, ℕ, ◌+◌, ◌≤◌, ◌<◌, get_or}
use Rattle.lts.specs.Alike.{Moves, Alike, Separated}
use Rattle.lts.specs.Game.{Settled, Separates}
use Rattle.text.specs.Limits.{state_limit}
use Rattle.text.specs.Limits.{pair_place}
use Rattle.by_state.specs.Inner.Numbered.{Same}

-- "Entry 128p + q"
abbrev pub entry_of : List ℕ → ℕ → ℕ → ℕ
entry_of table p q = get_or table (pair_place p q) 0

-- p and q are of one class before the round, and of two after it.
pub record SeparatedBy (class next : List ℕ) (p q : ℕ) : Type 0 where
  pub same_before : Same class p q
  pub not_same_after : ¬ (Same next p q)

-- Entries that are not of two of the n states stand as they were.
pub record Outside (n : ℕ) (entry exit : List ℕ) : Type 0 where
  pub kept : (p q : ℕ) → q < state_limit → (n ≤ p) ⊎ (n ≤ q) → entry_of exit p q ≡ entry_of entry p q

-- The entries of p and q, both ways, have the round's number, and no other has changed.
pub record PairWritten (p q round : ℕ) (entry exit : List ℕ) : Type 0 where
  pub there : entry_of exit p q ≡ round
  pub back : entry_of exit q p ≡ round
  pub kept : (x y : ℕ) → y < state_limit → ¬ ((x ≡ p) × (y ≡ q)) → ¬ ((x ≡ q) × (y ≡ p))
      → entry_of exit x y ≡ entry_of entry x y

-- Of the entries of the n states those of separated pairs are the round's number, and the others as they were.
pub record RoundWritten (n : ℕ) (class next : List ℕ) (round : ℕ) (entry exit : ℕ → ℕ → ℕ) : Type 0 where
  pub written : (p q : ℕ) → p < n → q < n → SeparatedBy class next p q → exit p q ≡ round
  pub kept : (p q : ℕ) → p < n → q < n → ¬ (SeparatedBy class next p q) → exit p q ≡ entry p q

-- ---- row by row

-- Only entries of separated pairs of the n states have changed, to the round's number.
pub record Written (n : ℕ) (class next : List ℕ) (round : ℕ) (entry exit : List ℕ) : Type 0 where
  pub inside : (p q : ℕ) → p < n → q < n
      → (entry_of exit p q ≡ entry_of entry p q) ⊎ (SeparatedBy class next p q × (entry_of exit p q ≡ round))
  pub outside : Outside n entry exit

-- If p and q are separated, both their entries have the round's number.
pub record SeparationWritten (class next : List ℕ) (round : ℕ) (table : List ℕ) (p q : ℕ) : Type 0 where
  pub both : SeparatedBy class next p q → (entry_of table p q ≡ round) × (entry_of table q p ≡ round)

-- The same of p and each of the first m states.
pub record RowWritten (class next : List ℕ) (round : ℕ) (table : List ℕ) (p m : ℕ) : Type 0 where
  pub pair : (q : ℕ) → q < m → SeparationWritten class next round table p q

-- The same of each of the first m states of the list and each of the n states.
pub record RowsWritten (class next : List ℕ) (round : ℕ) (table list : List ℕ) (m n : ℕ) : Type 0 where
  pub row : (i : ℕ) → i < m → RowWritten class next round table (get_or list i 0) n

-- ---- the rounds

-- v says what the first k rounds found of p and q: the round that separated them, 0 if none did.
abbrev pub RankUpTo : Moves → ℕ → ℕ → ℕ → ℕ → Type 0
RankUpTo Move k p q v = ((v ≡ 0) × Alike Move k p q) ⊎ ((v ≤ k) × Separated Move p q v)

-- The entries say so of each two of the n states.
pub record RanksUpTo (Move : Moves) (n k : ℕ) (entry : ℕ → ℕ → ℕ) : Type 0 where
  pub found : (p q : ℕ) → p < n → q < n → RankUpTo Move k p q (entry p q)

-- The table after the rounds: each of the first `last` separated a pair, and the next one none.
pub record Finished (Move : Moves) (n last : ℕ) (entry exit : List ℕ) : Type 0 where
  pub ranks : RanksUpTo Move n (last + 1) (entry_of exit)
  pub separates : (k : ℕ) → k < last → Separates Move n k
  pub settled : Settled Move n last
  pub outside : Outside n entry exit
