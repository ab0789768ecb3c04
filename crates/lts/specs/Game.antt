-- One round of the game, as a test: it passes where each move is answered, and where it fails it shows a move that is
-- not. All that is said of ranks rests on this alone, so the low steps and any other moves are instances.
-- Document 01, "Alike" and "Rank". Assumes nothing.
use Rattle.std.specs.Prelude.{Bool, true, false, not, ℕ, zero, suc, ◌<◌, T}
use Rattle.lts.specs.Alike.{Moves, Answers, Alike}

-- A move of one side that the other cannot answer inside R.
pub data Opening (Move : Moves) (R : ℕ → ℕ → Bool) (p q : ℕ) : Type 0 where
  by_first : (a p' : ℕ) → Move p a p' → ((q' : ℕ) → Move q a q' → T (not (R p' q'))) → Opening Move R p q
  by_second : (a q' : ℕ) → Move q a q' → ((p' : ℕ) → Move p a p' → T (not (R p' q'))) → Opening Move R p q

-- `round` plays one round, inside the relation that it is given, and the moves of the n states stay among them; where
-- those of other numbers lead is not asked.
pub record Game (Move : Moves) (n : ℕ) (round : (ℕ → ℕ → Bool) → ℕ → ℕ → Bool) : Type 0 where
  pub target_lt : (p a q : ℕ) → p < n → Move p a q → q < n
  pub passes : (R : ℕ → ℕ → Bool) (p q : ℕ) → T (round R p q) → Answers Move (λ x y. T (R x y)) p q
  pub fails : (R : ℕ → ℕ → Bool) (p q : ℕ) → T (not (round R p q)) → Opening Move R p q

-- The test of k-alike: k rounds.
unfoldable pub alike? : ((ℕ → ℕ → Bool) → ℕ → ℕ → Bool) → ℕ → ℕ → ℕ → Bool
alike? round zero p q = true
alike? round (suc k) p q = round (alike? round k) p q

-- The round after the k-th separates none of the n states that are left together.
abbrev pub Settled : Moves → ℕ → ℕ → Type 0
Settled Move n k = (p q : ℕ) → p < n → q < n → Alike Move k p q → Alike Move (suc k) p q

-- The round after the k-th separates two of the n states.
pub record Separates (Move : Moves) (n k : ℕ) : Type 0 where
  pub one : ℕ
  pub other : ℕ
  pub one_lt : one < n
  pub other_lt : other < n
  pub alike : Alike Move k one other
  pub not_alike : ¬ (Alike Move (suc k) one other)

-- What the rounds up to k find, 0 if nothing: r is what those before k found, b whether the two states are k-alike.
abbrev pub next_rank : ℕ → ℕ → Bool → ℕ
next_rank k zero true = zero
next_rank k zero false = k
next_rank k (suc r) b = suc r

-- The least j below k for which p and q are not j-alike, 0 if there is none.
unfoldable pub rank_below : ((ℕ → ℕ → Bool) → ℕ → ℕ → Bool) → ℕ → ℕ → ℕ → ℕ
rank_below round zero p q = zero
rank_below round (suc k) p q = let b = alike? round k p q in next_rank k (rank_below round k p q) b

-- The rank of two of n states, computed: no rank exceeds n - 1 (document 01, "Rank").
abbrev pub rank : ((ℕ → ℕ → Bool) → ℕ → ℕ → Bool) → ℕ → ℕ → ℕ → ℕ
rank round n p q = rank_below round n p q
