-- The tests of silent moves and of the moves that are played, where tests decide the low steps and the silent ones.
-- Document 02, (vii). Assumes nothing.
use Rattle.std.specs.Prelude.{Bool, false, ◌&&◌, ◌||◌, ℕ, ◌-◌, ◌<◌, T, eqb, ltb}
use Rattle.lts.specs.Tests.{any}
use Rattle.lts.specs.Alike.{Relation}
use Rattle.lts.specs.View.{View}
use Rattle.lts.specs.Decided.{answers?, ViewTest, within?}
use Rattle.lts.specs.Weak.{silent_label}

-- `tick?` decides the silent steps, and they go from states to states.
pub record DecidedTick (Tick : Relation) (n : ℕ) (tick? : ℕ → ℕ → Bool) : Type 0 where
  pub tick?→Tick : (p q : ℕ) → T (tick? p q) → Tick p q
  pub Tick→tick? : (p q : ℕ) → Tick p q → T (tick? p q)
  pub source_lt : (p q : ℕ) → Tick p q → p < n
  pub target_lt : (p q : ℕ) → Tick p q → q < n

-- The silent steps as the steps of a view, all with the action 0, that starts in p: what it reaches, silent moves of p
-- reach.
abbrev pub silent_test : ℕ → (ℕ → ℕ → Bool) → ℕ → ViewTest
silent_test n tick? p = record {
  step? = λ x a y. eqb a 0 && tick? x y;
  start? = λ x. eqb x p && ltb x n;
  actions = 1;
}

abbrev pub silent_view : ℕ → (ℕ → ℕ → Bool) → ℕ → View
silent_view n tick? p = record {
  levels = record { low? = λ _. false; release? = λ _. false; high? = λ _. false; silent? = λ _. false };
  Step = λ x a y. T ((silent_test n tick? p).step? x a y);
  Start = λ x. T ((silent_test n tick? p).start? x);
  states = n;
}

-- The test of `Silent`: no more than n - 1 silent steps are needed.
unfoldable pub silent_move? : ℕ → (ℕ → ℕ → Bool) → ℕ → ℕ → Bool
silent_move? n tick? p q = within? (silent_view n tick? p) (silent_test n tick? p) (n - 1) q

-- Silent moves lead from p to x and from y to q.
abbrev pub around? : ℕ → (ℕ → ℕ → Bool) → ℕ → ℕ → ℕ → ℕ → Bool
around? n tick? p x y q = let s = silent_move? n tick? y q in silent_move? n tick? p x && s

-- The test of `LowMove`, where `low?` decides the low steps.
unfoldable pub low_move? : ℕ → (ℕ → ℕ → ℕ → Bool) → (ℕ → ℕ → Bool) → ℕ → ℕ → ℕ → Bool
low_move? n low? tick? p a q = any n (λ x. any n (λ y. let s = around? n tick? p x y q in low? x a y && s))

-- The test of `Weak`.
unfoldable pub weak? : ℕ → (ℕ → ℕ → ℕ → Bool) → (ℕ → ℕ → Bool) → ℕ → ℕ → ℕ → Bool
weak? n low? tick? p a q =
    let s = (let r = silent_move? n tick? p q in eqb a silent_label && r) in
    low_move? n low? tick? p a q || s

-- One round of the moves that are played, inside R: first the labels of low steps, below l, then the silent moves, here
-- with the label 0. It computes less than a round of `weak?` over all labels.
unfoldable pub weak_answers? : ℕ → ℕ → (ℕ → ℕ → ℕ → Bool) → (ℕ → ℕ → Bool) → (ℕ → ℕ → Bool) → ℕ → ℕ → Bool
weak_answers? n l low? tick? R p q =
    let s = answers? n 1 (λ x a y. eqb a 0 && silent_move? n tick? x y) R p q in
    answers? n l (low_move? n low? tick?) R p q && s
