-- The new classes below j are used; where no class has two states, the others divide nothing.
use Rattle.std.proofs.Common.{◌∙◌, arith}
use Rattle.text.specs.Laws.DecidesLaws.{decides_true}
use Rattle.splitters.specs.Laws.PartitionLaws.{partition_of}
use Rattle.splitters.specs.Laws.RefiningLaws.{used_labels_next, used_labels_end, used_labels_alone}
use Rattle.splitters.specs.Laws.StatesLaws.{partition_at, used_split_at}
use Rattle.splitters.proofs.refining.refine.Goals as goal

pub returns-then-is_empty-clause-used_split : goal.returns-then-is_empty-clause-used_split
returns-then-is_empty-clause-used_split c =
    let inv = c.loop-j.invariant in
    used_labels_alone c.args.moves.labels.now (omega arith) inv.2 (partition_at inv.0 (partition_of c.loop-j.parts.partition))
    (decides_true _ _ c.is_empty.ensures c.if-is_empty.true)

pub loop-j-preserved : goal.loop-j-preserved
loop-j-preserved c =
    let inv = c.loop-j.invariant in
    let grown = c.refine_class.ensures.grown in (
      grown.0 ∙ inv.0,
      omega (arith, inv.1, grown.1),
      used_labels_next c.args.moves.labels.now c.loop-j.auto.j inv.2
          (used_split_at inv.0 c.refine_class.ensures.used_split),
    )

pub returns-clause-used_split : goal.returns-clause-used_split
returns-clause-used_split c =
    used_labels_end c.args.moves.labels.now (omega (arith, c.loop-j.auto.j-end c.requires.first_le.0))
    c.loop-j.invariant.2
