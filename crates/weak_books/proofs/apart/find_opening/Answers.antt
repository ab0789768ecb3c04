-- No label before the i-th opens.
use Rattle.std.proofs.Common.{refl, arith}
use Rattle.held.specs.Held.{HeldAt}
use Rattle.weak_books.specs.Laws.FirstApartLaws.{lowest_to-row, row_target_lt, none_opens-zero}
use Rattle.weak_books.specs.Laws.FirstApartLaws.{none_opens_at, none_opens-suc, first_apart_none}
use Rattle.weak_books.specs.Laws.FirstApartLaws.{first_apart_of_lowest}
use Rattle.held.specs.Laws.ListedLaws.{held_list}
use Rattle.weak_books.proofs.apart.find_opening.Goals as goal

pub loop-i-init : goal.loop-i-init
loop-i-init c = none_opens-zero

pub target_row-row-requires : goal.target_row-row-requires
target_row-row-requires c = (held_list c.args.moves).label c.loop-i.i c.loop-i-test.true

pub lowest_apart-requires : goal.lowest_apart-requires
lowest_apart-requires c =
    let H = held_list c.args.moves in
    record {
      n_le_state_limit = (
        H.states_le,
        c.requires.p_lt_state_limit.0,
        c.requires.p_lt_state_limit.1,
        omega (arith, c.target_row-row.ensures.1),
      );
      by_index = row_target_lt H c.loop-i-test.true c.target_row-row.ensures.0;
      class_sets = c.requires.class_sets;
    }

pub returns-in-Some : goal.returns-in-Some
returns-in-Some c =
    let a = c.args in
    let low = lowest_to-row (HeldAt a.moves.slots.now a.moves.pool.now) c.target_row-row.ensures.0 c.in-Some.ensures.1 in
    first_apart_of_lowest (held_list c.args.moves) c.requires.p_lt_state_limit.0 c.requires.p_lt_state_limit.1
    c.loop-i-test.true c.loop-i.invariant refl low

pub loop-i-preserved : goal.loop-i-preserved
loop-i-preserved c =
    let a = c.args in
    let low = lowest_to-row (HeldAt a.moves.slots.now a.moves.pool.now) c.target_row-row.ensures.0 c.in_default.ensures in
    none_opens-suc c.loop-i.invariant low (λ l. omega (arith, l))

pub returns : goal.returns
returns c =
    first_apart_none (held_list c.args.moves) c.requires.p_lt_state_limit.0 c.requires.p_lt_state_limit.1
    (none_opens_at (omega (arith, c.loop-i-test.false)) c.loop-i.invariant)
