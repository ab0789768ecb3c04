-- A split by the one part is a split by the other.
use Rattle.splitters.specs.Laws.PartitionLaws.{partition_of}
use Rattle.splitters.specs.Laws.SplittingLaws.{two_parts_sym, split_sym}
use Rattle.splitters.proofs.parts.Parts.divide_less.Goals as goal

pub divide-requires-clause-two_parts : goal.divide-requires-clause-two_parts
divide-requires-clause-two_parts c = two_parts_sym c.requires.two_parts

pub returns-then-size-clause-split : goal.returns-then-size-clause-split
returns-then-size-clause-split c =
    split_sym (partition_of c.args.self.now.partition) c.requires.class_lt.0 (two_parts_sym c.requires.two_parts)
    c.divide.ensures.split
