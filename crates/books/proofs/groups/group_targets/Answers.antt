-- The part lies between the bounds of the group.
use Rattle.std.proofs.Common.{refl, arith}
use Rattle.std.proofs.Math.Logic.{∥∥₁_elim}
use Rattle.std.proofs.Props.{props}
use Rattle.books.specs.Inner.Groups.{Groups}
use Rattle.books.specs.Laws.GroupTargetsLaws.{group_targets_nil, group_targets_of_part}
use Rattle.books.proofs.groups.group_targets.Goals as goal

pub returns-then-to-from : goal.returns-then-to-from
returns-then-to-from c = group_targets_nil c.group_from-from.ensures c.group_to-to.ensures c.if-to-from.true refl

pub returns : goal.returns
returns c =
    let are : Groups c.args.indexed.groups.now c.args.indexed.targets.now =
    ∥∥₁_elim c.args.indexed.grouped (Prim.hlevel props) (λ k. k.groups_are) in
    group_targets_of_part are c.requires.0 c.requires.1 c.group_from-from.ensures c.group_to-to.ensures
    (omega arith) (omega arith)
