-- The entries before entry k are sound.
use Rattle.books.specs.Inner.Groups.{Indexed}
use Rattle.books.specs.Inner.Still.{Still}
use Rattle.books.specs.Laws.EntriesLaws.{SoundBefore}
use Rattle.books.proofs.check.check_entries.Given as goal

abbrev pub invariant-loop-k : goal.invariant-loop-k
invariant-loop-k l =
    let indexed = l.indexed in
    SoundBefore (Still (Indexed indexed.groups.now indexed.targets.now) indexed.n) l.book l.k
