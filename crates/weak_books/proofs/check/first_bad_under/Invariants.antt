-- The entries before entry k with this action are sound.
use Rattle.std.proofs.Common.{◌≡◌, ℕ, ◌≤◌}
use Rattle.weak_books.specs.Inner.Tested.{SetMove}
use Rattle.weak_books.specs.Laws.TestedLaws.{SoundUnder}
use Rattle.weak_books.proofs.check.first_bad_under.Given as goal

abbrev pub invariant-loop-k : goal.invariant-loop-k
invariant-loop-k l =
    (l.k ≤ l.limit) × SoundUnder (SetMove l.sets) (λ (b : ℕ). b ≡ l.a.0) l.book l.k
