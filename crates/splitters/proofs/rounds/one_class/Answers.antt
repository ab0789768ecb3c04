-- All states are in set 0, and so in one class; all else is zeros.
use Rattle.std.proofs.lemmas.Grind.{merely}
use Rattle.text.specs.Limits.{state_limit}
use Rattle.text.specs.Laws.ListLaws.{get_or-zeros}
use Rattle.sets.specs.Laws.SetsLaws.{empty-zeros}
use Rattle.splitters.specs.Laws.RoundLaws.{partition_one}
use Rattle.splitters.proofs.rounds.one_class.Goals as goal

pub invariant_of-parts : goal.invariant_of-parts
invariant_of-parts c = record {
  states_le = c.requires.1;
  partition = merely
      (partition_one c.requires.0 c.below-all.ensures c.put_set.ensures (get_or-zeros state_limit));
}

pub returns-clause-zeros : goal.returns-clause-zeros
returns-clause-zeros c = λ j. (get_or-zeros state_limit j, get_or-zeros state_limit j)

pub returns-clause-no_further_set : goal.returns-clause-no_further_set
returns-clause-no_further_set c = λ j x d m. (empty-zeros 256).none j x (c.put_set.ensures.only j x d m)

pub returns-clause-nothing_noted : goal.returns-clause-nothing_noted
returns-clause-nothing_noted c = λ j. (get_or-zeros 256 j, get_or-zeros 256 j, get_or-zeros state_limit j)
