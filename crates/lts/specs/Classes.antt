-- The classes of k-alike states: the lowest state of a class stands for it. Document 01, "Rank". Assumes nothing.
use Rattle.std.specs.Prelude.{Bool, not, ℕ, ◌<◌}
use Rattle.lts.specs.Tests.{all, count}
use Rattle.lts.specs.Alike.{Moves, Alike}
use Rattle.lts.specs.Game.{alike?}

-- c is the class of p after k rounds: the lowest state that is k-alike to p.
pub record Class (Move : Moves) (k p c : ℕ) : Type 0 where
  pub alike : Alike Move k c p
  pub lowest : (q : ℕ) → q < c → ¬ (Alike Move k q p)

-- p stands for its class: no lower state is k-alike to it.
abbrev pub lowest? : ((ℕ → ℕ → Bool) → ℕ → ℕ → Bool) → ℕ → ℕ → Bool
lowest? round k p = all p (λ q. not (alike? round k q p))

-- How many classes of k-alike states there are among n.
abbrev pub classes : ((ℕ → ℕ → Bool) → ℕ → ℕ → Bool) → ℕ → ℕ → ℕ
classes round n k = count n (lowest? round k)
