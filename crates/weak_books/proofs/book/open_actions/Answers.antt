-- The openings with actions below a are written.
use Rattle.std.proofs.Common.{arith}
use Rattle.weak_books.specs.Laws.OpenedLaws.{only_at_refl, only_at_trans, opened_to_at}
use Rattle.weak_books.proofs.book.open_actions.Goals as goal

pub loop-a-init : goal.loop-a-init
loop-a-init c = (omega arith, c.requires.opened_to, only_at_refl _)

pub open_action-requires : goal.open_action-requires
open_action-requires c =
    let inv = c.loop-a.invariant in
    record {
      own_numbers = c.requires.own_numbers;
      targets = c.requires.targets;
      irreflexive = c.requires.irreflexive;
      a_lt_action_limit = (c.loop-a-test.true, omega (arith, inv.2.past.same_length, c.requires.book_length_in_bounds));
      opened_to = inv.1;
    }

pub loop-a-preserved : goal.loop-a-preserved
loop-a-preserved c =
    let inv = c.loop-a.invariant in (
      omega (arith, c.loop-a-test.true),
      c.open_action.ensures.opened_to_2,
      only_at_trans inv.2
          c.open_action.ensures.only_at,
    )

pub shape_of-book : goal.shape_of-book
shape_of-book c = c.loop-a.invariant.2.past.same_length

pub returns : goal.returns
returns c =
    let inv = c.loop-a.invariant in
    record {
      opened_to_2 = opened_to_at (omega (arith, inv.0, c.loop-a-test.false)) inv.1;
      only_at = inv.2;
    }
