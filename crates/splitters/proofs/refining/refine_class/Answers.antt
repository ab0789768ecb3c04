-- The labels that are not left are used: at first those that do not lead into the class, which divide nothing by it.
use Rattle.held.specs.Laws.ListedLaws.{held_list}
use Rattle.std.proofs.Common.{refl, ◌∙◌, arith}
use Rattle.splitters.specs.Laws.RefiningLaws.{used_but_start, used_but_next, used_but_end, turned-row}
use Rattle.splitters.specs.Laws.StatesLaws.{split_twice_at}
use Rattle.splitters.proofs.refining.refine_class.Goals as goal

pub loop-i-init : goal.loop-i-init
loop-i-init c =
    let start = used_but_start c.args.moves.labels.now c.args.parts.now.states_le (held_list c.args.moves)
    c.requires.into c.set_at-new.ensures c.union-i-items.ensures in
    (refl, omega arith, rw c.into_iter-i-iterator.ensures start)

pub returns-then-i-moves-clause-used_split : goal.returns-then-i-moves-clause-used_split
returns-then-i-moves-clause-used_split c =
    let least = c.in-Some.ensures.steps.least in
    used_but_end c.args.moves.labels.now (λ i l. least.none_before i (omega (arith, l, c.if-i-moves.true)))
    c.loop-i.invariant.2

pub bounds-moves-i : goal.bounds-moves-i
bounds-moves-i c = omega (arith, c.if-i-moves.false, (held_list c.args.moves).count_le)

pub target_row-row-requires : goal.target_row-row-requires
target_row-row-requires c =
    (held_list c.args.moves).label c.in-Some.i (omega (arith, c.if-i-moves.false))

pub split_moves-requires-clause-turned : goal.split_moves-requires-clause-turned
split_moves-requires-clause-turned c =
    turned-row (held_list c.args.moves) (omega (arith, c.if-i-moves.false)) c.target_row-row.ensures.0

pub loop-i-preserved : goal.loop-i-preserved
loop-i-preserved c =
    let inv = c.loop-i.invariant in
    let grown = c.split_moves.ensures.grown in (
      grown.0 ∙ inv.0,
      omega (arith, inv.1, grown.1),
      used_but_next c.args.moves.labels.now (omega (arith, c.if-i-moves.false)) c.target_row-row.ensures.0
          c.set_at-new.ensures c.set_at-from.ensures c.in-Some.ensures.steps.left inv.2
          (split_twice_at inv.0 c.split_moves.ensures.split_twice),
    )

pub returns-clause-used_split : goal.returns-clause-used_split
returns-clause-used_split c =
    used_but_end c.args.moves.labels.now (λ i l. c.in-None.ensures.steps.none i) c.loop-i.invariant.2
