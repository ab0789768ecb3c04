-- Weak bisimulations as source 002 has them: an opening is one low step or one silent step, an answer a low move or a
-- silent move. The actions of source 002 are here the low ones and the silent one: release and high steps are never
-- played. Definition 1 of source 002; document 02, (vii). Assumes nothing.
use Rattle.std.specs.Prelude.{Bool, ℕ, T}
use Rattle.lts.specs.Alike.{Moves, Relation}
use Rattle.lts.specs.Weak.{Silent, LowMove}

-- q answers each step of p: a low step by a low move with the same action, a silent step by a silent move; and R pairs
-- the two targets.
pub record StepsAnswered (Low : Moves) (Tick : Relation) (n : ℕ) (R : Relation) (p q : ℕ) : Type 0 where
  pub low_steps : (a p' : ℕ) → Low p a p' → (q' : ℕ) × LowMove Low Tick n q a q' × R p' q'
  pub silent_steps : (p' : ℕ) → Tick p p' → (q' : ℕ) × Silent Tick n q q' × R p' q'

-- So both ways.
pub record AnswersSteps (Low : Moves) (Tick : Relation) (n : ℕ) (R : Relation) (p q : ℕ) : Type 0 where
  pub there : StepsAnswered Low Tick n R p q
  pub back : StepsAnswered Low Tick n (λ x y. R y x) q p

-- Definition 1 of source 002: each pair of the relation answers so, inside the relation.
abbrev pub WeakBisimulation : Moves → Relation → ℕ → Relation → Type 0
WeakBisimulation Low Tick n R = (p q : ℕ) → R p q → AnswersSteps Low Tick n R p q

-- Some weak bisimulation whatever pairs p and q: "observation equivalent", in source 002.
pub record WeakBisimilarBy (Low : Moves) (Tick : Relation) (n p q : ℕ) : Type 1 where
  pub rel : Relation
  pub bisimulation : WeakBisimulation Low Tick n rel
  pub pairs : rel p q

-- The same by a test, since a promise is of Type 0; nothing is lost, as `weak_bisimilar↔Weak_bisimilar_by` shows.
pub record WeakBisimilar (Low : Moves) (Tick : Relation) (n p q : ℕ) : Type 0 where
  pub rel : ℕ → ℕ → Bool
  pub bisimulation : WeakBisimulation Low Tick n (λ x y. T (rel x y))
  pub pairs : T (rel p q)
