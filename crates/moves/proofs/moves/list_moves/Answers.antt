-- The lists have the moves of the states below p, and place `at` does not overtake the steps of p.
use Rattle.std.proofs.Common.{◌+◌, ◌<◌, length, length-set, ◌∙◌, arith}
use Rattle.moves.specs.Laws.ListedToLaws.{listed_to_suc, ordered_suc, lists_of_listed_to}
use Rattle.moves.proofs.moves.list_moves.Goals as goal

pub loop-p-preserved : goal.loop-p-preserved
loop-p-preserved c =
    let inv = c.loop-p.invariant in
    let F = c.args.store.store.stored in
    let long = c.loop-p.auto.first ∙ length-set c.args.first.now 0 0 in
    let k : c.loop-p.p + 1 < length c.loop-p.first = omega (arith, F.states_le) in
    let s = c.list_state-at.ensures in
    record {
      at_le = s.upper_bound;
      listed = rw c.from.ensures (listed_to_suc k inv.listed s.appended);
      ordered = rw c.from.ensures (ordered_suc k inv.listed s.appended inv.ordered s.rising);
    }

pub returns-clause-lists : goal.returns-clause-lists
returns-clause-lists c =
    let inv = c.loop-p.invariant in
    let F = c.args.store.store.stored in
    let end = (c.requires.index_length_in_bounds.1.at c.loop-p.p (omega arith)).from_le in
    (lists_of_listed_to F (omega arith) (omega (arith, inv.at_le, end, F.steps_le)) inv.listed inv.ordered).0
