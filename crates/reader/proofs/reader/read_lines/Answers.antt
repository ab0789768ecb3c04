-- The reader begins at the text's start, so that the line read ahead of it is the first, and `after_first` joins that
-- line with the place after it. Assumes nothing.
use Rattle.reader.specs.Laws.TextReadLaws.{after_first}
use Rattle.reader.proofs.reader.read_lines.Goals as goal

pub rest-requires : goal.rest-requires
rest-requires c =
    let head = rw c.new-r.ensures.1 at c.first-first.ensures in
    let next = rw c.new-r.ensures.1 at c.past.ensures.1 in
    (rw c.past.ensures.0 (after_first _ _ _ head next), c.requires)
