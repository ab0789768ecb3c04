-- Whatever splits the classes by what is left of the set makes up the split by all of it.
use Rattle.std.proofs.Common.{◌<◌, refl, ◌∙◌, arith}
use Rattle.sets.specs.Laws.WithinLaws.{words_le}
use Rattle.splitters.specs.Inner.Partition.{Partition}
use Rattle.splitters.specs.Laws.PartitionLaws.{partition_of}
use Rattle.splitters.specs.Laws.StatesLaws.{partition_at, split_at}
use Rattle.splitters.specs.Laws.SplitLaws.{split_empty}
use Rattle.splitters.specs.Laws.SplittingLaws.{left_of_together, split_together, class_of_left_lt}
use Rattle.splitters.specs.Laws.SplittingLaws.{left_without, whole_has, left_of_less, split_less}
use Rattle.splitters.proofs.parts.Parts.split.Goals as goal
use Rattle.splitters.proofs.parts.Parts.split.Goals.{After-class_at-c}

-- The classes are a partition of the same states.
now : (c : After-class_at-c) → Partition c.args.self.now.n c.loop-p.self.class c.loop-p.self.members
    c.loop-p.self.classes c.loop-p.self.together
now c = partition_at c.loop-p.invariant.0 (partition_of c.loop-p.self.partition)

class_lt : (c : After-class_at-c) → c.class_at-c.result.0 < c.loop-p.self.classes
class_lt c = class_of_left_lt (now c) c.loop-p.invariant.2 c.in-Some.ensures.taken c.class_at-c.ensures

pub loop-p-init : goal.loop-p-init
loop-p-init c =
    let P = partition_of c.args.self.now.partition in (
      refl,
      omega arith,
      left_of_together P c.both-left.ensures,
      λ _ _ s. split_together P c.both-left.ensures s,
    )

pub set_at-requires : goal.set_at-requires
set_at-requires c =
    let d = (goal.at.set_at-requires c).After-class_at-c in
    omega (arith, class_lt d, (partition_of c.loop-p.self.partition).classes_le, c.loop-p.self.states_le)

pub split_class-requires : goal.split_class-requires
split_class-requires c =
    (class_lt (goal.at.split_class-requires c).After-class_at-c, omega (arith, c.requires, c.loop-p.invariant.1))

pub loop-p-smaller : goal.loop-p-smaller
loop-p-smaller c =
    let no_more = words_le (omega arith) (omega arith) (λ x i. (c.without-left.ensures.only x i).0) in
    omega (arith, no_more, c.in-Some.ensures.fewer)

pub loop-p-preserved : goal.loop-p-preserved
loop-p-preserved c =
    let inv = c.loop-p.invariant in
    let next = c.in-Some.ensures in
    let P = now (goal.at.loop-p-preserved c).After-class_at-c in
    let S = split_at inv.0 c.split_class.ensures.split in
    let has = whole_has P inv.2 next.taken c.class_at-c.ensures c.set_at.ensures in
    let less = left_without has next.left c.without-left.ensures in (
      c.split_class.ensures.grown.0 ∙ inv.0,
      omega (arith, c.split_class.ensures.grown.1, inv.1),
      left_of_less P inv.2 next.taken c.class_at-c.ensures c.set_at.ensures less S.by.same_before,
      λ d o G. inv.3 d o (split_less P inv.2 next.taken c.class_at-c.ensures c.set_at.ensures less S G),
    )

pub returns : goal.returns
returns c =
    let inv = c.loop-p.invariant in
    record {
      grown = (inv.0, inv.1);
      split = inv.3 _ _ (split_empty (λ p _. c.in_default.ensures.none p));
    }
