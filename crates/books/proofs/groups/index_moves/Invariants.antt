-- The groups up to those of the states below p are there; all that are left begin where the moves end.
use Rattle.std.proofs.Common.{◌≡◌, length, get_or}
use Rattle.books.specs.Inner.Groups.{IndexedTo}
use Rattle.books.proofs.groups.index_moves.Given as goal

abbrev pub invariant-loop-p : goal.invariant-loop-p
invariant-loop-p l =
    IndexedTo l.listed.n l.listed.first l.listed.actions l.groups l.k (get_or l.listed.first l.p 0) ×
    (length l.groups ≡ length l.initial.groups)
