-- `fresh` leads back to the states with a move into it: a split by them, and then one of them by the moves into `rest`,
-- unless each of their moves into `fresh` is one into `rest`.
use Rattle.std.proofs.Common.{arith}
use Rattle.held.specs.Laws.HeldLaws.{held_list_pooled}
use Rattle.held.specs.Laws.ListedLaws.{held_list}
use Rattle.text.specs.Laws.DecidesLaws.{decides_true}
use Rattle.splitters.specs.Inner.Splitters.{LeadsInto}
use Rattle.splitters.specs.Laws.CutLaws.{CutTo, cut_to_fresh, cut_to-rest, split-cut}
use Rattle.splitters.specs.Laws.CutLaws.{leads_within, split_twice_of_splits, split_twice_once, split_twice_none}
use Rattle.splitters.specs.Laws.PartitionLaws.{partition_of}
use Rattle.splitters.specs.Laws.StatesLaws.{partition_at, split_at}
use Rattle.splitters.proofs.refining.split_moves.Goals as goal
use Rattle.splitters.proofs.refining.split_moves.Goals.{After-is_empty}

-- The states that have a move into `fresh`, of those whose class has another.
cut : (c : After-is_empty) → CutTo c.args.parts.now.n c.args.parts.now.class
    (LeadsInto c.args.moves.slots.now c.args.moves.pool.now c.args.row c.args.fresh)
    c.both-from.result
cut c =
    cut_to_fresh c.requires.turned c.args.parts.now.states_le (partition_of c.args.parts.now.partition) c.sources.ensures
    c.both-from.ensures

pub sources-requires-clause-row_bound : goal.sources-requires-clause-row_bound
sources-requires-clause-row_bound c = (c.requires.row_bound, held_list_pooled (held_list c.args.moves))

pub leading-to_rest-requires-clause-row_lt_slot_rows : goal.leading-to_rest-requires-clause-row_lt_slot_rows
leading-to_rest-requires-clause-row_lt_slot_rows c =
    (omega (arith, c.requires.row_bound), c.requires.row_bound, held_list_pooled (held_list c.args.moves))

pub returns-then-is_empty-clause-split_twice : goal.returns-then-is_empty-clause-split_twice
returns-then-is_empty-clause-split_twice c =
    split_twice_none (cut (goal.at.returns-then-is_empty-clause-split_twice c).After-is_empty)
    (decides_true _ _ c.is_empty.ensures c.if-is_empty.true)

pub returns-then-is_empty-2-clause-split_twice : goal.returns-then-is_empty-2-clause-split_twice
returns-then-is_empty-2-clause-split_twice c =
    let none = decides_true _ _ c.is_empty-2.ensures c.if-is_empty-2.true in
    split_twice_once (leads_within c.without.ensures none)
    (split-cut (cut (goal.at.returns-then-is_empty-2-clause-split_twice c).After-is_empty) c.split.ensures.split)

pub returns-clause-split_twice : goal.returns-clause-split_twice
returns-clause-split_twice c =
    let same = c.split.ensures.grown.0 in
    let first = cut (goal.at.returns-clause-split_twice c).After-is_empty in
    let rest = cut_to-rest first c.split.ensures.split.by.same_before (partition_at same (partition_of c.split.new.self.partition))
    c.both-left.ensures c.leading-to_rest.ensures in
    split_twice_of_splits (split-cut first c.split.ensures.split)
    (split-cut rest (split_at same c.split-2.ensures.split))
