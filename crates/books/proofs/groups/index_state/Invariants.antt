-- The groups up to those of the moves before place i are there; those places are the moves of p.
use Rattle.std.proofs.Common.{◌≡◌, length}
use Rattle.books.specs.Inner.Groups.{IndexedTo}
use Rattle.books.proofs.groups.index_state.Given as goal

abbrev pub invariant-loop-i : goal.invariant-loop-i
invariant-loop-i l =
    IndexedTo l.listed.n l.listed.first l.listed.actions l.groups l.k l.i × (length l.groups ≡ length l.initial.groups)
