-- Alike states, low-view bisimulations and ranks, over any moves: `Move p a q` says that a move with the label a leads
-- from the state p to the state q. What is played is `WeakMove` of Weak.antt, and words go by its `LowStep`.
-- Document 01, "The meaning"; definition 14 of source 000. Assumes nothing.
use Rattle.std.specs.Prelude.{Bool, ℕ, zero, suc, ◌<◌, T}

-- Which moves there are: source, label, target.
abbrev pub Moves : Type 1
Moves = ℕ → ℕ → ℕ → Type 0

-- A relation between states.
abbrev pub Relation : Type 1
Relation = ℕ → ℕ → Type 0

-- Each move of p is answered by a move of q with the same label, and R pairs the two targets.
abbrev pub Answered : Moves → Relation → ℕ → ℕ → Type 0
Answered Move R p q = (a p' : ℕ) → Move p a p' → (q' : ℕ) × Move q a q' × R p' q'

-- "Each low step of either is answered by a step of the other with the same action" (document 01, "Alike").
pub record Answers (Move : Moves) (R : Relation) (p q : ℕ) : Type 0 where
  pub there : Answered Move R p q
  pub back : Answered Move (λ x y. R y x) q p

-- p and q are k-alike: "any two states are 0-alike", and (k+1)-alike states answer each other, the targets k-alike
-- (document 01, "Alike").
unfoldable pub Alike : Moves → ℕ → ℕ → ℕ → Type 0
Alike Move zero p q = Unit {0}
Alike Move (suc k) p q = Answers Move (Alike Move k) p q

-- "A relation between states in which each pair answers so, both ways, inside the relation" (document 01, "Alike";
-- definition 14 of source 000).
abbrev pub Bisimulation : Moves → Relation → Type 0
Bisimulation Move R = (p q : ℕ) → R p q → Answers Move R p q

-- "Some low-view bisimulation pairs them" (document 01, "Rank"). Its relation is a test, since a promise is of Type 0;
-- `bisimilar↔Bisimilar_by` shows that nothing is lost.
pub record Bisimilar (Move : Moves) (p q : ℕ) : Type 0 where
  pub rel : ℕ → ℕ → Bool
  pub bisimulation : Bisimulation Move (λ x y. T (rel x y))
  pub pairs : T (rel p q)

-- Some bisimulation whatever pairs p and q (definition 14 of source 000).
pub record BisimilarBy (Move : Moves) (p q : ℕ) : Type 1 where
  pub rel : Relation
  pub bisimulation : Bisimulation Move rel
  pub pairs : rel p q

-- k is "the least k for which they are not k-alike" (document 01, "Rank"): round k separates p and q.
pub record Separated (Move : Moves) (p q k : ℕ) : Type 0 where
  pub not_alike : ¬ (Alike Move k p q)
  pub alike_before : (j : ℕ) → j < k → Alike Move j p q

-- r is the rank of p and q: "0 if some low-view bisimulation pairs them, otherwise the least k for which they are not
-- k-alike" (document 01, "Rank").
pub data Rank (Move : Moves) (p q : ℕ) : ℕ → Type 0 where
  bisimilar : Bisimilar Move p q → Rank Move p q 0
  separated : {k : ℕ} → ¬ (Bisimilar Move p q) → Separated Move p q k → Rank Move p q k
