-- Whatever the rest of the chain adds, the whole chain has added.
use Rattle.std.proofs.Common.{List, ℕ, ◌≤◌}
use Rattle.text.specs.Limits.{table_length}
use Rattle.weak_books.specs.Inner.Depths.{OnChain, LowerAdded}
use Rattle.weak_books.proofs.depths.add_chain.Given as goal

abbrev pub invariant-loop-next : goal.invariant-loop-next
invariant-loop-next l =
    (l.next ≤ table_length)
    × ((there' back' : List ℕ) → LowerAdded (λ k. OnChain l.link k l.next) l.there l.back there' back'
    → LowerAdded (λ k. OnChain l.link k l.from) l.initial.there l.initial.back there' back')

abbrev pub decreases-loop-next : goal.decreases-loop-next
decreases-loop-next l = l.next
