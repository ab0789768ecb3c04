-- The class has states inside the set and outside, or needs no split.
-- ---- places of the function
use Rattle.text.specs.Laws.DecidesLaws.{decides_false}
use Rattle.splitters.specs.Laws.PartitionLaws.{partition_of}
use Rattle.splitters.specs.Laws.SplittingLaws.{split_inside, two_parts_both, split_class}
use Rattle.splitters.proofs.parts.Parts.split_class.Goals as goal

pub returns-then-is_empty-2-clause-split : goal.returns-then-is_empty-2-clause-split
returns-then-is_empty-2-clause-split c =
    split_inside (partition_of c.args.self.now.partition) c.requires.0 c.set_at-whole.ensures c.without-rest.ensures
    c.if-is_empty-2.ensures

pub divide_less-requires-clause-two_parts : goal.divide_less-requires-clause-two_parts
divide_less-requires-clause-two_parts c =
    two_parts_both (partition_of c.args.self.now.partition) c.requires.0 c.set_at-whole.ensures c.both-part.ensures
    c.without-rest.ensures (decides_false _ _ c.is_empty.ensures c.if-is_empty.false)
    (decides_false _ _ c.is_empty-2.ensures c.if-is_empty-2.false)

pub returns-clause-split : goal.returns-clause-split
returns-clause-split c =
    split_class (partition_of c.args.self.now.partition) c.requires.0 c.set_at-whole.ensures c.both-part.ensures
    c.without-rest.ensures c.divide_less.ensures.split
