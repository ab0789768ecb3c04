-- The keys are the targets, where each state is a class of its own.
use Rattle.silent.specs.Laws.LabelledLaws.{label_move_target_lt}
use Rattle.silent.specs.Laws.TargetsLaws.{class_numbers_of_own, targets_of_keys, keys_of_targets}
use Rattle.silent.proofs.targets.low_targets.Goals as goal

pub low_keys-requires : goal.low_keys-requires
low_keys-requires c =
    record {
      targets = c.requires.targets;
      class_numbers = class_numbers_of_own c.args.steps.listed.states_le c.requires.own_numbers;
      a_lt_action_limit = c.requires.a_lt_action_limit;
      keys = keys_of_targets (λ p a q m. label_move_target_lt c.args.steps.listed m) c.requires.own_numbers
          c.requires.targets;
    }

pub returns : goal.returns
returns c =
    targets_of_keys (λ p a q m. label_move_target_lt c.args.steps.listed m) c.requires.own_numbers c.low_keys.ensures
