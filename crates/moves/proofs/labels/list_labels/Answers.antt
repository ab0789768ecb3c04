-- No step is linked at first.
use Rattle.std.proofs.Common.{◌∙◌, arith}
use Rattle.std.proofs.lemmas.List.{get_or-replicate}
use Rattle.silent.specs.Labelled.{labels_length}
use Rattle.moves.specs.Laws.LinkedLaws.{linked_none}
use Rattle.moves.proofs.labels.list_labels.Goals as goal

pub link_steps-requires-clause-linked : goal.link_steps-requires-clause-linked
link_steps-requires-clause-linked c =
    linked_none
    (λ label l. get_or-replicate labels_length label c.steps-n.result 0 (omega (arith, l)) ∙ c.steps-n.ensures)
