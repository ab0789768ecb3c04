-- The own classes, closed along silent moves, are the keys under the silent label.
use Rattle.silent.specs.Laws.KeysLaws.{own_classes→OfStates, keys_of_own}
use Rattle.silent.proofs.keys.silent_keys.Goals as goal

pub close_sets-requires : goal.close_sets-requires
close_sets-requires c = record {
  of_states = own_classes→OfStates c.own_classes.ensures;
}

pub returns : goal.returns
returns c =
    keys_of_own c.args.steps.listed c.own_classes.ensures c.close_sets.ensures
