-- Whatever is found on the rest of the chain before the bad entry found so far is found on the whole chain.
use Rattle.held.specs.Moves.{held_moves}
use Prim.Native.Nat.{ℕ, ◌≤◌}
use Rattle.text.specs.Limits.{table_length}
use Rattle.books.specs.Inner.Sides.{FirstOf}
use Rattle.weak_books.specs.Inner.Depths.{OnChain, AtDepth}
use Rattle.weak_books.proofs.depths.first_bad_on.Given as goal

abbrev pub invariant-loop-next : goal.invariant-loop-next
invariant-loop-next l =
    (l.next ≤ table_length) × ((k : ℕ) → OnChain l.link k l.next → AtDepth l.book l.depth k)
    × ((r : ℕ) → FirstOf (held_moves l.moves) (λ k. OnChain l.link k l.next) l.book l.bad r
    → FirstOf (held_moves l.moves) (λ k. OnChain l.link k l.from) l.book l.limit r)

abbrev pub decreases-loop-next : goal.decreases-loop-next
decreases-loop-next l =
    l.next
