-- The lists have the steps of the labels below `label`, each placed only once.
use Rattle.std.proofs.Common.{◌+◌, ◌<◌, length, length-set, ◌∙◌, arith}
use Rattle.moves.specs.Laws.ListedToLaws.{listed_to-zero, listed_to_suc}
use Rattle.moves.specs.Laws.LabellingLaws.{placed_to-zero}
use Rattle.moves.specs.Laws.LabelsLaws.{labels_of_of_listed_to}
use Rattle.moves.proofs.labels.list_linked.Goals as goal

pub loop-label-init : goal.loop-label-init
loop-label-init c = record { listed = listed_to-zero c.args.from.now (omega arith); placed = placed_to-zero }

pub loop-label-preserved : goal.loop-label-preserved
loop-label-preserved c =
    let long = c.loop-label.auto.from ∙ length-set c.args.from.now 0 0 in
    let k : c.loop-label.label + 1 < length c.loop-label.from = omega arith in
    record {
      listed = rw c.from.ensures (listed_to_suc k c.loop-label.invariant.listed c.list_label-at.ensures.appended);
      placed = c.list_label-at.ensures.placed_to;
    }

pub returns : goal.returns
returns c =
    labels_of_of_listed_to c.args.store.stored (omega arith) c.loop-label.invariant.placed c.loop-label.invariant.listed
