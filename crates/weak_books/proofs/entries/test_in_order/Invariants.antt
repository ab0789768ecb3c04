-- The entries before entry k are sound.
use Rattle.held.specs.Moves.{held_moves}
use Rattle.books.specs.Laws.EntriesLaws.{SoundBefore}
use Rattle.weak_books.proofs.entries.test_in_order.Given as goal

abbrev pub invariant-loop-k : goal.invariant-loop-k
invariant-loop-k l = SoundBefore (held_moves l.moves) l.book l.k
