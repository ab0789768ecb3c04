-- The classes are divided by the keys of the silent label, then by those of the actions.
use Rattle.weak_ranks.specs.Laws.LabelsLaws.{divided_under_silent}
use Rattle.weak_ranks.proofs.rounds.refine_by_keys.Goals as goal

pub divide_low-requires-clause-divided_under : goal.divide_low-requires-clause-divided_under
divide_low-requires-clause-divided_under c =
    divided_under_silent c.args.steps.listed.states_le c.silent_keys_along.ensures c.divide_by_keys.ensures.divided_by
