-- The new classes are noted, the classes are split by the moves to them, and the round is noted for those that it made.
-- ---- places of the function
use Rattle.held.specs.Laws.ListedLaws.{held_list}
use Rattle.held.specs.Moves.{held_moves}
use Rattle.std.proofs.Common.{◌∙◌}
use Rattle.splitters.specs.Inner.Splitters.{Rounded}
use Rattle.splitters.specs.Laws.PartitionLaws.{partition_of}
use Rattle.splitters.specs.Laws.RoundLaws.{rounded_of_used_split}
use Rattle.splitters.specs.Laws.StatesLaws.{partition_at, used_split_at}
use Rattle.splitters.proofs.rounds.round.Goals as goal
use Rattle.splitters.proofs.rounds.round.Goals.{After-note_round}

-- It leaves the classes one round later.
rounded : (c : After-note_round) → Rounded (held_moves c.args.moves)
    c.args.moves.n c.args.tree.now.k c.args.tree.now.parts.class c.refine.new.parts.class c.refine.new.parts.members
    c.refine.new.parts.origin c.note_fresh.new.fresh c.note_round.new.when c.args.tree.now.parts.classes
    c.refine.new.parts.classes c.refine.new.parts.together
rounded c =
    let ready = c.requires.k_lt_classes in
    let split = c.refine.ensures in
    rounded_of_used_split (held_list c.args.moves) ready.2 c.note_fresh.ensures.0 c.note_fresh.ensures.1
    (partition_at (split.grown.0 ∙ ready.0) (partition_of c.refine.new.parts.partition)) split.grown.1
    (used_split_at ready.0 split.used_split) c.note_round.ensures

pub returns-then-classes-old-clause-rounded : goal.returns-then-classes-old-clause-rounded
returns-then-classes-old-clause-rounded c =
    rounded (goal.at.returns-then-classes-old-clause-rounded c).After-note_round

pub returns-clause-rounded : goal.returns-clause-rounded
returns-clause-rounded c = rounded (goal.at.returns-clause-rounded c).After-note_round
