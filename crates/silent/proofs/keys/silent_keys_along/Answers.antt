-- The own classes, closed along silent moves, are the keys under the silent label.
use Rattle.silent.specs.Laws.KeysLaws.{own_classes→OfStates, keys_of_own}
use Rattle.silent.proofs.keys.silent_keys_along.Goals as goal

pub close_along-requires : goal.close_along-requires
close_along-requires c =
    record {
      targets = c.requires.targets;
      of_states = own_classes→OfStates c.own_classes.ensures;
    }

pub returns : goal.returns
returns c =
    keys_of_own c.args.steps.listed c.own_classes.ensures c.close_along.ensures
