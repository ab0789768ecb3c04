-- The keys are the targets, where each state is a class of its own.
use Rattle.silent.specs.Laws.LabelledLaws.{label_move_target_lt}
use Rattle.silent.specs.Laws.TargetsLaws.{class_numbers_of_own, targets_of_keys}
use Rattle.silent.proofs.targets.silent_targets.Goals as goal

pub silent_keys-requires : goal.silent_keys-requires
silent_keys-requires c =
    record {
      class_numbers = class_numbers_of_own c.args.steps.listed.states_le c.requires.own_numbers;
    }

pub returns : goal.returns
returns c =
    targets_of_keys (λ p a q m. label_move_target_lt c.args.steps.listed m) c.requires.own_numbers
    c.silent_keys.ensures
