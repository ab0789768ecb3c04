-- The part that moves gets the next number, of which there is one: no more classes than states.
-- ---- places of the function
use Rattle.std.proofs.Common.{◌<◌, refl, arith}
use Rattle.std.proofs.lemmas.Grind.{merely}
use Rattle.text.specs.Limits.{state_limit}
use Rattle.splitters.specs.Laws.DividingLaws.{homes_kept_put, partition_next}
use Rattle.splitters.specs.Laws.PartitionLaws.{classes_lt_states, split_by_moved, partition_of}
use Rattle.splitters.proofs.parts.Parts.divide.Goals as goal
use Rattle.splitters.proofs.parts.Parts.divide.Goals.{Start}

-- The new number is one of a class.
new_lt : (c : Start) → c.args.self.now.classes < state_limit
new_lt c = omega (
  arith,
  classes_lt_states (partition_of c.args.self.now.partition) c.requires.class_lt.0 c.requires.two_parts,
  c.args.self.now.states_le,
)

pub bounds-self-to : goal.bounds-self-to
bounds-self-to c = omega (arith, new_lt (goal.at.bounds-self-to c).Start)

pub put_set-requires : goal.put_set-requires
put_set-requires c = omega (arith, new_lt (goal.at.put_set-requires c).Start)

pub invariant_of-self : goal.invariant_of-self
invariant_of-self c = record {
  states_le = c.args.self.now.states_le;
  partition = merely (partition_next (partition_of c.args.self.now.partition) c.requires.class_lt.0 c.requires.two_parts
      c.move_states.ensures c.put_set.ensures c.put_set-2.ensures
      (c.alone.ensures.by_index, c.alone.ensures.by_index_2)
      (c.alone-self.ensures.by_index, c.alone-self.ensures.by_index_2));
}

pub returns-clause-split : goal.returns-clause-split
returns-clause-split c =
    let P = partition_of c.args.self.now.partition in
    let l = c.requires.class_lt in
    let T = c.requires.two_parts in
    record {
      by = split_by_moved P l.0 T c.move_states.ensures;
      homes = homes_kept_put P l.0 T c.move_states.ensures l.1
          (omega (arith, new_lt (goal.at.returns-clause-split c).Start)) c.home_of-from.ensures refl;
    }
