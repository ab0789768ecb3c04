-- The targets of p that are no targets of q are tried from the lowest up, each class once.
use Rattle.std.proofs.Common.{◌<◌, arith}
use Rattle.held.specs.Laws.PoolLaws.{set_of_number}
use Rattle.weak_books.specs.Laws.OpensToLaws.{tried-start, target_of_tried, lowest_to_end}
use Rattle.weak_books.specs.Laws.FirstApartLaws.{other_class_irreflexive, least_past, tried_next, lowest_to_here}
use Rattle.weak_books.proofs.apart.lowest_by_class.Goals as goal
use Rattle.weak_books.proofs.apart.lowest_by_class.Goals.{In-loop-t}

-- The target is a state.
target_lt : (c : In-loop-t) → c.loop-t.t < c.args.moves.n
target_lt c =
    let inv = c.loop-t.invariant in
    c.requires.by_index _ _ c.requires.n_le_state_limit.1
    (target_of_tried c.held.ensures c.without-left.ensures inv.1 inv.0
    c.loop-t-test.true)

pub loop-t-init : goal.loop-t-init
loop-t-init c = (c.least-t.ensures, tried-start)

pub set_at-alike-requires : goal.set_at-alike-requires
set_at-alike-requires c =
    omega (
      arith,
      c.requires.class_sets.class_lt _ (target_lt (goal.at.set_at-alike-requires c).In-loop-t),
      c.class_at-c.ensures,
    )

pub returns-then-is_empty : goal.returns-then-is_empty
returns-then-is_empty c =
    let inv = c.loop-t.invariant in
    let none = c.if-is_empty.ensures in
    let A = set_of_number c.class_at-c.ensures c.set_at-alike.ensures in
    let lt = c.loop-t-test.true in (
      lt,
      lowest_to_here c.held.ensures c.held-answers.ensures
          c.without-left.ensures inv.1 inv.0 c.requires.class_sets (target_lt (goal.at.returns-then-is_empty c).In-loop-t) A
          c.both.ensures (λ u. c.requires.by_index _ u c.requires.n_le_state_limit.2) none,
    )

pub loop-t-smaller : goal.loop-t-smaller
loop-t-smaller c =
    let A = set_of_number c.class_at-c.ensures c.set_at-alike.ensures in
    let more = least_past c.requires.class_sets (target_lt (goal.at.loop-t-smaller c).In-loop-t) A c.loop-t.invariant.0
    c.without-left-in-loop-t.ensures c.least-t-in-loop-t.ensures in
    omega (arith, more, c.loop-t-test.true)

pub loop-t-preserved : goal.loop-t-preserved
loop-t-preserved c =
    let A = set_of_number c.class_at-c.ensures c.set_at-alike.ensures in
    let some = c.if-is_empty.ensures in (
      c.least-t-in-loop-t.ensures,
      tried_next c.requires.class_sets (target_lt (goal.at.loop-t-preserved c).In-loop-t) A c.both.ensures
          c.loop-t.invariant.1 some c.without-left-in-loop-t.ensures,
    )

pub returns : goal.returns
returns c =
    let inv = c.loop-t.invariant in
    lowest_to_end c.held.ensures c.held-answers.ensures
    c.without-left.ensures inv.1 inv.0
    (other_class_irreflexive c.args.class.now) (omega (arith, inv.0.least_le, c.loop-t-test.false))
