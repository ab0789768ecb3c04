-- What the action gathers from the keys under the silent label, closed along silent moves, are its keys.
use Rattle.silent.specs.Laws.KeysLaws.{gathered→OfStates, keys_of_gathered}
use Rattle.silent.proofs.keys.low_keys.Goals as goal

pub close_along-requires : goal.close_along-requires
close_along-requires c =
    record {
      targets = c.requires.targets;
      of_states = gathered→OfStates c.args.steps.listed c.requires.a_lt_action_limit c.gather.ensures;
    }

pub returns : goal.returns
returns c =
    keys_of_gathered c.args.steps.listed c.requires.a_lt_action_limit c.requires.keys c.gather.ensures
    c.close_along.ensures
